use Rattle.std.proofs.Common.{drop, arith}
use Rattle.binlog_table.specs.Decimal.{plain}
use Rattle.binlog_table.proofs.Options.{stops_at, goes_on, steps-next, steps-done}
use Rattle.binlog_table.proofs.DecimalDigitLists.{group_behind, nines_behind, nines_behind-suc, nines_behind-zero}
use Rattle.binlog_table.proofs.decimal.push_nines.Goals as goal

pub returns-in_err-at-clause-digits : goal.returns-in_err-at-clause-digits
returns-in_err-at-clause-digits c =
    let next = steps-next group_behind nines_behind nines_behind-suc c.args.count c.loop.counter (c.loop.digits, drop c.loop.at (plain c.args.text.now)) _ c.loop-test.true c.loop.invariant.read in
    rw c.from_residual.ensures (stops_at _ _ _ c.in_err-at.ensures.digits next)

pub loop-preserved : goal.loop-preserved
loop-preserved c =
    let next = steps-next group_behind nines_behind nines_behind-suc c.args.count c.loop.counter (c.loop.digits, drop c.loop.at (plain c.args.text.now)) _ c.loop-test.true c.loop.invariant.read in
    record {
      within = omega (arith, c.in_ok-at.ensures.within);
      count = omega (arith, c.in_ok-at.ensures.len, c.loop.invariant.count);
      read = goes_on (group_behind (c.loop.digits, drop c.loop.at (plain c.args.text.now))) (c.push_group.new.digits, drop c.in_ok-at.at (plain c.args.text.now)) _ _ c.in_ok-at.ensures.digits next;
    }

pub returns-clause-digits : goal.returns-clause-digits
returns-clause-digits c = steps-done group_behind nines_behind nines_behind-zero c.args.count c.loop.counter (c.loop.digits, drop c.loop.at (plain c.args.text.now)) _ c.loop-test.false c.loop.invariant.read
