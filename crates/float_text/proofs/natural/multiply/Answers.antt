use Rattle.std.specs.Prelude.{◌<◌, length}
use mathlib.Core.Path.{refl, ◌∙◌}
use native.Mathlib.Omega.{arith}
use borrow.Author.Rules.{rules}
use lib.Seq.{get_or-set_other}
use lib.Bits.{and_mask}
use Rattle.float_text.proofs.LimbSums.{number_in-zero, number_in-suc, number_in-set, weight-zero, weight-suc, carried}
use Rattle.float_text.proofs.natural.multiply.Goals as goal

pub loop-i-init : goal.loop-i-init
loop-i-init c = (rw (number_in-zero, weight-zero) (omega arith), λ k h. refl)

pub loop-i-preserved : goal.loop-i-preserved
loop-i-preserved c =
    let l = c.loop-i in
    let within : l.i < length l.limbs = search rules in
    let same = l.invariant.1 l.i (omega arith) in (
      rw (and_mask _ 64, number_in-set l.limbs l.i _ within, number_in-suc c.args.limbs.now l.i, weight-suc, ← same) (carried _ _ _ _ _ _ l.invariant.0),
      λ k h. get_or-set_other l.limbs l.i k _ 0 (λ e. omega arith) ∙ l.invariant.1 k (omega arith),
    )
