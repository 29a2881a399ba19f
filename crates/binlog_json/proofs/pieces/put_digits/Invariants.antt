use Rattle.std.proofs.Common.{◌≡◌, ◌≤◌, ◌+◌, ◌-◌, ◌/◌, ◌^◌, take, drop}
use Rattle.binlog_table.specs.Decimal.{digits_of}
use Rattle.binlog_json.specs.Texts.{digits_text}
use Rattle.binlog_json.proofs.pieces.put_digits.Given as goal

-- the last digits are written, those behind the place
abbrev pub invariant-loop-place : goal.invariant-loop-place
invariant-loop-place l = record {
  within : l.place ≤ l.width;
  before : take l.at l.bytes ≡ take l.at l.initial.bytes;
  left : l.left ≡ l.number / 10 ^ (l.width - l.place);
  written : take (l.width - l.place) (drop (l.at + l.place) l.bytes) ≡ digits_text (digits_of (l.width - l.place) l.number);
}

abbrev pub decreases-loop-place : goal.decreases-loop-place
decreases-loop-place l = l.place
