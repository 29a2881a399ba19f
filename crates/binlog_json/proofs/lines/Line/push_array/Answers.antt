use Rattle.std.proofs.Common.{◌∙◌, arith}
use Rattle.std.proofs.lemmas.List.{with_items_is}
use Rattle.binlog_json.proofs.Places.{held}
use Rattle.binlog_json.proofs.lines.Line.push_array.Goals as goal

pub invariant_of-self : goal.invariant_of-self
invariant_of-self g c =
    let put = c.put_at_once-self.ensures in
    let same = with_items_is c.make_room.new.self.bytes c.put_at_once-self.new.bytes (put.len ∙ c.as_mut_slice.ensures.len) in
    let both = held same put c.as_mut_slice.ensures.value (omega (arith, c.in_ok-make_room.ensures.room, c.told-text)) c.make_room.new.self.utf8 c.requires in
    record { within = both.0; utf8 = both.1 }
