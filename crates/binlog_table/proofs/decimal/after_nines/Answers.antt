use Rattle.std.proofs.Common.{drop, arith}
use Rattle.binlog_table.specs.Decimal.{plain, after_group, after_nines}
use Rattle.binlog_table.proofs.Options.{stops_at, goes_on, steps-next, steps-done}
use Rattle.binlog_table.proofs.DecimalGroups.{after_nines-suc, after_nines-zero}
use Rattle.binlog_table.proofs.decimal.after_nines.Goals as goal

pub returns-in_err-at-clause-value : goal.returns-in_err-at-clause-value
returns-in_err-at-clause-value c =
    let next = steps-next (after_group 9) after_nines after_nines-suc c.args.count c.loop.counter (drop c.loop.at (plain c.args.text.now)) _ c.loop-test.true c.loop.invariant.read in
    rw c.from_residual.ensures (stops_at _ _ _ c.in_err-at.ensures.value next)

pub loop-preserved : goal.loop-preserved
loop-preserved c =
    let next = steps-next (after_group 9) after_nines after_nines-suc c.args.count c.loop.counter (drop c.loop.at (plain c.args.text.now)) _ c.loop-test.true c.loop.invariant.read in
    record { within = omega (arith, c.in_ok-at.ensures.within); read = goes_on _ _ _ _ c.in_ok-at.ensures.value next }

pub returns-clause-value : goal.returns-clause-value
returns-clause-value c = steps-done (after_group 9) after_nines after_nines-zero c.args.count c.loop.counter (drop c.loop.at (plain c.args.text.now)) _ c.loop-test.false c.loop.invariant.read
