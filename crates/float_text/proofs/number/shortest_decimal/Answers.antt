use Rattle.float_text.proofs.Coarsest.{few_digits}
use Rattle.float_text.proofs.number.shortest_decimal.Goals as goal

pub returns-clause-fewest : goal.returns-clause-fewest
returns-clause-fewest g c =
    let s = c.shortest_from.ensures in
    few_digits g.F.RawFloat.format c.args.bits _ _ c.requires s.reads s.coarsest
