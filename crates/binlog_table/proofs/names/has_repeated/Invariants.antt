use Rattle.std.proofs.Common.{◌≡◌, ℕ, ◌+◌, ◌<◌, map}
use Rattle.binlog_table.specs.NameOrder.{name_of, name_in}
use Rattle.binlog_table.proofs.names.has_repeated.Given as goal

abbrev pub invariant-loop-place : goal.invariant-loop-place
invariant-loop-place l = (k : ℕ) → k + 1 < l.place → name_of (map name_in l.sorted) k ≡ name_of (map name_in l.sorted) (k + 1) → ⊥
