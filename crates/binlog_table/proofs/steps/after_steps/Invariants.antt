use Rattle.std.proofs.Common.{◌≡◌, ◌≤◌, ◌+◌, ℕ, List, length, drop, option_map}
use Rattle.binlog_table.specs.Image.{set_bits, cells_at}
use Rattle.binlog_table.proofs.steps.after_steps.Given as goal

-- what is still to be read ends where the whole does
abbrev pub invariant-loop-place : goal.invariant-loop-place
invariant-loop-place g l = record {
  front : 8 ≤ l.at;
  within : l.at ≤ length l.body;
  ends : (present : List ℕ) → set_bits present (length l.columns) ≡ length l.columns
      → option_map (λ x. l.at + x.1) (cells_at (drop l.place l.columns) present l.nulls l.place l.place (drop l.at l.body)) ≡ option_map (λ x. l.start + x.1) (cells_at l.columns present l.nulls 0 0 (drop l.start l.body));
}
