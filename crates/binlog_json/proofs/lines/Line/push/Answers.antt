use Rattle.std.proofs.Common.{◌∙◌}
use Rattle.std.proofs.lemmas.List.{with_items_is}
use Rattle.binlog_json.proofs.Places.{held}
use Rattle.binlog_json.proofs.Utf8.{utf8_byte}
use Rattle.binlog_json.proofs.lines.Line.push.Goals as goal

pub invariant_of-self : goal.invariant_of-self
invariant_of-self c =
    let put = c.put_byte-self.ensures in
    let same = with_items_is c.make_room.new.self.bytes c.put_byte-self.new.bytes (put.len ∙ c.as_mut_slice.ensures.len) in
    let both = held same put c.as_mut_slice.ensures.value c.in_ok-make_room.ensures.room c.make_room.new.self.utf8 (utf8_byte c.args.byte c.requires) in
    record { within = both.0; utf8 = both.1 }
