use Rattle.std.proofs.Common.{◌∙◌, arith}
use Rattle.std.proofs.lemmas.List.{with_items_is}
use Rattle.std.proofs.lemmas.Grind.{common_steps}
use Rattle.binlog_json.proofs.Places.{held}
use Rattle.binlog_json.proofs.lines.Line.push_str.Goals as goal

pub invariant_of-self : goal.invariant_of-self
invariant_of-self c =
    let put = c.put_text-self.ensures in
    let same = with_items_is c.make_room.new.self.bytes c.put_text-self.new.bytes (put.len ∙ c.as_mut_slice.ensures.len) in
    let both = held same put c.as_mut_slice.ensures.value (grind (arith, common_steps)) c.make_room.new.self.utf8 c.as_bytes-text.ensures.utf8 in
    record { within = both.0; utf8 = both.1 }
