use Rattle.std.proofs.Common.{◌≡◌, ◌-◌, ◌≤◌, length, drop}
use Rattle.binlog_table.specs.Decimal.{plain, after_nines}
use Rattle.binlog_table.proofs.decimal.after_nines.Given as goal

-- what follows the groups that are left follows them all
abbrev pub invariant-loop : goal.invariant-loop
invariant-loop l = record {
  within : l.at ≤ length l.text;
  read : after_nines (l.count - l.counter) (drop l.at (plain l.text)) ≡ after_nines l.count (drop l.start (plain l.text));
}
