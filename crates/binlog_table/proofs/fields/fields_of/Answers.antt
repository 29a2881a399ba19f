use Rattle.std.proofs.Common.{length, refl, arith}
use Rattle.binlog_table.specs.FieldsShown.{fields_view}
use Rattle.binlog_table.proofs.FirstFaults.{stops_first, goes_first}
use Rattle.binlog_table.proofs.FieldLoop.{fields-step, fields-shorter, fields-more, fields-end}
use Rattle.binlog_table.proofs.fields.fields_of.Goals as goal

pub loop-rest-init : goal.loop-rest-init
loop-rest-init c = (length c.args.bytes.now, omega arith, refl)

pub returns-in-Err : goal.returns-in-Err
returns-in-Err c = stops_first c.in-Err.fault _ _ _ c.in-Err.ensures (fields-step (fields_view c.loop-rest.fields) c.loop-rest.rest.now _ c.in-len1-up.len_at_least c.loop-rest.invariant)

pub returns-in-Err-with_field : goal.returns-in-Err-with_field
returns-in-Err-with_field c =
    stops_first c.in-Err-with_field.fault _ _ _ c.in-Err-with_field.ensures (goes_first _ (c.in-Ok.value.0.now, c.in-Ok.value.1.now) _ _ c.in-Ok.ensures (fields-step (fields_view c.loop-rest.fields) c.loop-rest.rest.now _ c.in-len1-up.len_at_least c.loop-rest.invariant))

pub loop-rest-smaller : goal.loop-rest-smaller
loop-rest-smaller c = fields-shorter c.loop-rest.rest.now (c.in-Ok.value.0.now, c.in-Ok.value.1.now) c.in-len1-up.len_at_least c.in-Ok.ensures

pub loop-rest-preserved : goal.loop-rest-preserved
loop-rest-preserved c = fields-more (fields_view c.loop-rest.fields) (fields_view c.in-Ok-with_field.value) c.loop-rest.rest.now _ (c.in-Ok.value.0.now, c.in-Ok.value.1.now) c.in-len1-up.len_at_least c.loop-rest.invariant c.in-Ok.ensures c.in-Ok-with_field.ensures

pub returns : goal.returns
returns c = fields-end (fields_view c.loop-rest.fields) c.loop-rest.rest.now _ c.in_default.len_below c.loop-rest.invariant
