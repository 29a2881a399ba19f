use Rattle.std.proofs.Common.{◌∙◌}
use Rattle.binlog_table.proofs.NameOrders.{sorted-more}
use Rattle.binlog_table.proofs.names.sorted_columns.Goals as goal

pub loop-column-preserved : goal.loop-column-preserved
loop-column-preserved c =
    c.in_ok-push.ensures.items ∙ sorted-more c.args.sorted.now c.loop-column.column-index _ c.loop-column.columns.items c.loop-column-test.true c.loop-column.invariant
