use Rattle.std.proofs.Common.{get_or, arith}
use Rattle.std.proofs.lemmas.List.{take_rest}
use Rattle.binlog_table.specs.Columns.{layout_at, stored_as}
use Rattle.binlog_table.proofs.FirstFaults.{fails_first, goes_first, fails_as}
use Rattle.binlog_table.proofs.ColumnLoop.{columns-step, columns-end}
use Rattle.binlog_table.proofs.columns.columns_of.Goals as goal

pub returns-in-Err-clause-columns : goal.returns-in-Err-clause-columns
returns-in-Err-clause-columns c =
    fails_first c.in-Err.fault (layout_at (stored_as c.args.profile (get_or c.args.types.now c.loop-code.code-index 0)) c.loop-code.rest.now) _ _ (rw (← c.stored_as.ensures) (fails_as _ _ c.in-Err.ensures.layout))
    (columns-step c.args.profile c.args.types.now c.loop-code.rest.now c.args.signs.now c.loop-code.columns.items c.loop-code.code-index c.loop-code.numeric _ c.loop-code-test.true c.loop-code.invariant.read)

pub loop-code-preserved : goal.loop-code-preserved
loop-code-preserved c =
    let step = columns-step c.args.profile c.args.types.now c.loop-code.rest.now c.args.signs.now c.loop-code.columns.items c.loop-code.code-index c.loop-code.numeric _ c.loop-code-test.true c.loop-code.invariant.read in
    let more = goes_first (layout_at (stored_as c.args.profile (get_or c.args.types.now c.loop-code.code-index 0)) c.loop-code.rest.now) (c.in-Ok.value.0, c.in-Ok.value.1) _ _ (rw (← c.stored_as.ensures) c.in-Ok.ensures.layout) step in
    record {
      count = omega (arith, c.in_ok-push.ensures.len, c.loop-code.invariant.count);
      numeric = omega arith;
      read = rw (c.in_ok-push.ensures.items, c.is_unsigned-unsigned.ensures, c.next_numeric-numeric.ensures.value, take_rest c.loop-code.rest.now c.in-Ok.value.1) more;
    }

pub returns-clause-columns : goal.returns-clause-columns
returns-clause-columns c = columns-end c.args.profile c.args.types.now c.loop-code.rest.now c.args.signs.now c.loop-code.columns.items c.loop-code.code-index c.loop-code.numeric _ c.loop-code-test.false c.loop-code.invariant.read
