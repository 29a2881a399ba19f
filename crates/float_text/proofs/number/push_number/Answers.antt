use Rattle.float_text.proofs.Ascii.{appended}
use Rattle.float_text.proofs.number.push_number.Goals as goal

pub returns-clause-ascii : goal.returns-clause-ascii
returns-clause-ascii g c =
    let number = c.put_number-end.ensures in
    appended c.extend_from_slice.result _ _ _ c.extend_from_slice.ensures.items (rw number.text.bytes number.ascii)
