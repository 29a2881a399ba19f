use mathlib.Core.Path.{◌∙◌, ap₂}
use Rattle.std.specs.Ordering.{nat_cmp}
use native.Mathlib.Omega.{arith}
use Rattle.float_text.proofs.LimbSums.{number_in_zeros}
use Rattle.float_text.proofs.natural.Natural.compare.Goals as goal

pub returns : goal.returns
returns c =
    let a = c.self.inside in
    let b = c.other.inside in
    c.compare.ensures
    ∙ ap₂ nat_cmp (number_in_zeros a.limbs a.len _ c.self.invariant.2 (omega arith) ∙ c.self.view_is) (number_in_zeros b.limbs b.len _ c.other.invariant.2 (omega arith) ∙ c.other.view_is)
