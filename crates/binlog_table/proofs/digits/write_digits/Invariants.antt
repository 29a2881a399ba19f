use Rattle.std.proofs.Common.{◌≡◌, ◌≤◌, ◌+◌, ◌-◌, ◌/◌, ◌^◌, length, take, drop}
use Rattle.binlog_table.specs.Decimal.{digits_of}
use Rattle.binlog_table.proofs.digits.write_digits.Given as goal

-- the last digits are written, those behind the place
abbrev pub invariant-loop-place : goal.invariant-loop-place
invariant-loop-place l = record {
  within : l.place ≤ l.len;
  size : length l.digits ≡ 65;
  before : take l.start l.digits ≡ take l.start l.initial.digits;
  left : l.left ≡ l.number / 10 ^ (l.len - l.place);
  written : take (l.len - l.place) (drop (l.start + l.place) l.digits) ≡ digits_of (l.len - l.place) l.number;
}

abbrev pub decreases-loop-place : goal.decreases-loop-place
decreases-loop-place l = l.place
