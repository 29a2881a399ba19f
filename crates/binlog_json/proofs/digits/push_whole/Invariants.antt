use Rattle.std.proofs.Common.{◌≡◌, ◌-◌, ◌≤◌, length, drop}
use Rattle.binlog_json.specs.Texts.{whole_text}
use Rattle.binlog_json.proofs.digits.push_whole.Given as goal

abbrev pub invariant-loop-at : goal.invariant-loop-at
invariant-loop-at l = (l.at ≤ length l.digits) × (whole_text (drop l.at l.digits) ≡ whole_text l.digits)

abbrev pub decreases-loop-at : goal.decreases-loop-at
decreases-loop-at l = length l.digits - l.at
