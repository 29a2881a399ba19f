use Rattle.std.proofs.Common.{◌∙◌, ◌≤◌, length-take-le, arith}
use Rattle.std.proofs.lemmas.List.{with_items_is}
use Rattle.std.proofs.lemmas.Grind.{common_steps}
use Rattle.binlog_json.proofs.Places.{held}
use Rattle.binlog_json.proofs.lines.Line.push_first.Goals as goal

pub invariant_of-self : goal.invariant_of-self
invariant_of-self c =
    let few : c.args.count ≤ 16 = grind (arith, common_steps) in
    let put = c.put_first-self.ensures in
    let same = with_items_is c.make_room.new.self.bytes c.put_first-self.new.bytes (put.len ∙ c.as_mut_slice.ensures.len) in
    let both = held same put c.as_mut_slice.ensures.value (omega (arith, length-take-le c.args.count c.args.text.now c.requires.count, few, c.in_ok-make_room.ensures.room)) c.make_room.new.self.utf8 c.requires.utf8 in
    record { within = both.0; utf8 = both.1 }
