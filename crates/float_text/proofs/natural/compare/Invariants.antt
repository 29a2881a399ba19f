use Rattle.std.specs.Prelude.{◌≡◌, ◌+◌, ◌≤◌}
use Rattle.float_text.specs.Limbs.{number_in}
use Rattle.float_text.proofs.natural.compare.Given as goal

abbrev pub invariant-loop-i : goal.invariant-loop-i
invariant-loop-i l = (l.i ≤ l.len) × (number_in l.a l.len + number_in l.b l.i ≡ number_in l.b l.len + number_in l.a l.i)

abbrev pub decreases-loop-i : goal.decreases-loop-i
decreases-loop-i l = l.i
