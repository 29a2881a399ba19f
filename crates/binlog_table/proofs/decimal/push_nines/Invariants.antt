use Rattle.std.proofs.Common.{◌≡◌, ◌+◌, ◌-◌, ◌*◌, ◌≤◌, length, drop}
use Rattle.binlog_table.specs.Decimal.{plain, nines_at, appended}
use Rattle.binlog_table.proofs.decimal.push_nines.Given as goal

abbrev pub invariant-loop : goal.invariant-loop
invariant-loop l = record {
  within : l.at ≤ length l.text;
  count : length l.digits ≡ length l.fn.digits + 9 * l.counter;
  read : appended l.digits (nines_at (l.count - l.counter) (drop l.at (plain l.text))) ≡ appended l.fn.digits (nines_at l.count (drop l.start (plain l.text)));
}
