use Rattle.std.proofs.Common.{◌≡◌, ◌<◌, ◌∙◌, ℕ, zero, suc, List, Option, Some, None, ap, refl, sym, arith}
use Rattle.std.specs.Prelude.{◌≢◌, codes, slice_get, slice_index}
use Rattle.binlog_samples.specs.Growing.{second_is_b}
use Rattle.binlog_samples.proofs.growing.sample_growing.Goals as goal

-- the first byte of a name
abbrev first : Option (List ℕ) → ℕ
first None = 0
first (Some name) = slice_index name 0

other_first : (i : ℕ) → i < 1 → slice_get second_is_b i ≢ Some (codes "b")
other_first zero below e = let a : 97 ≡ 98 = ap first e in omega (arith, a)
other_first (suc i) below e = omega (arith, below)

pub returns-clause-last_names : goal.returns-clause-last_names
returns-clause-last_names c = (
  record { name = codes "b"; named = refl; found = (omega arith, refl, other_first) },
  record { name = codes "b"; named = refl; found = (omega arith, refl, λ i below e. omega (arith, below)) },
  (λ last. let a : 97 ≡ 98 = ap first (last.found.1 ∙ sym last.named) in omega (arith, a)),
  (λ last. last.found.2 1 (omega arith) last.named),
  (λ last. let below = last.found.0 in omega (arith, below)),
  (λ last. let none = last.named in cc),
)
