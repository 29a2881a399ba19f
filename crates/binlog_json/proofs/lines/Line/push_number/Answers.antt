use Rattle.std.proofs.Common.{◌∙◌, arith}
use Rattle.std.proofs.lemmas.List.{with_items_is}
use Rattle.binlog_json.proofs.NumberTexts.{decimal_utf8}
use Rattle.binlog_json.proofs.Places.{held}
use Rattle.binlog_json.proofs.lines.Line.push_number.Goals as goal

pub invariant_of-self : goal.invariant_of-self
invariant_of-self c =
    let put = c.put_number-self.ensures in
    let same = with_items_is c.make_room.new.self.bytes c.put_number-self.new.bytes (put.len ∙ c.as_mut_slice.ensures.len) in
    let both = held same put c.as_mut_slice.ensures.value (omega (arith, c.in_ok-make_room.ensures.room, c.count_digits-count.ensures)) c.make_room.new.self.utf8 (decimal_utf8 c.args.number (omega arith)) in
    record { within = both.0; utf8 = both.1 }
