use Rattle.std.proofs.lemmas.List.{take_rest}
use Rattle.binlog_json.proofs.Decoding.{units_more, units_done}
use Rattle.binlog_json.proofs.encodings.take_units.Goals as goal

pub loop-rest-preserved : goal.loop-rest-preserved
loop-rest-preserved c =
    rw (c.in_ok-push.ensures.items, c.unit_in.ensures, take_rest)
    (units_more c.args.order c.loop-rest.units.items c.loop-rest.rest.now _ c.in-len2-up.len_at_least c.loop-rest.invariant)

pub returns : goal.returns
returns c = units_done c.args.order c.loop-rest.units.items c.loop-rest.rest.now _ c.is_empty.result c.in_default.len_below c.is_empty.ensures c.loop-rest.invariant
