use Rattle.std.proofs.Common.{◌<◌, [], length, map, sym, ap, ◌∙◌, arith}
use Rattle.std.specs.String.{string_bytes}
use Rattle.std.proofs.lemmas.List.{get_or-map, length-map}
use Rattle.binlog_table.proofs.NameOrders.{numbered-more}
use Rattle.binlog_table.proofs.names.numbered_names.Goals as goal

pub loop-column-preserved : goal.loop-column-preserved
loop-column-preserved c =
    let names = map string_bytes c.args.names.now in
    let lt : c.loop-column.column < length names = omega (arith, c.loop-column-test.true, length-map c.args.names.now string_bytes) in
    let is = get_or-map string_bytes c.args.names.now c.loop-column.column c.index-names-column.result [] c.loop-column-test.true ∙ ap string_bytes (sym c.index-names-column.is) ∙ sym c.as_str.ensures.value in
    rw c.in_ok-push.ensures.items (numbered-more names c.loop-column.column c.loop-column.entries.items c.as_str.result lt is c.loop-column.invariant)
