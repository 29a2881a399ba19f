use Rattle.std.specs.Prelude.{◌≡◌, ℕ, ◌+◌, ◌*◌, ◌≤◌, get_or}
use Rattle.float_text.specs.Limbs.{weight, number_in}
use Rattle.float_text.proofs.natural.multiply.Given as goal

abbrev pub invariant-loop-i : goal.invariant-loop-i
invariant-loop-i l = (number_in l.limbs l.i + l.carry * weight l.i ≡ number_in l.fn.limbs l.i * l.factor) × ((k : ℕ) → l.i ≤ k → get_or l.limbs k 0 ≡ get_or l.fn.limbs k 0)
