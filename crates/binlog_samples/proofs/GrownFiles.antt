-- Which file of a list is the first that has a name.
use Rattle.std.proofs.Common.{◌≡◌, ◌<◌, ◌≤◌, ◌∙◌, ℕ, zero, suc, List, [], ◌∷◌, length, Some, refl, sym, ap, subst, inl, inr, arith}
use Rattle.std.specs.Prelude.{◌≢◌, slice_get, slice_index}
use Rattle.std.proofs.lemmas.Option.{same_Some}
use Rattle.binlog_frame.specs.Logs.{Contents, content}
use Rattle.binlog_frame.specs.Splitting.{EndsInFront}
use Rattle.binlog_feed.specs.Growing.{IsUnfound, end_from_mark, last_file}
use Rattle.binlog_feed.specs.Searching.{IsFirstNamed}
use Rattle.binlog_feed.specs.declared.fault.GoOnFault.TheVariants.{FileShorter}
use Rattle.binlog_units.specs.declared.place.Place.{Place}
use Rattle.binlog_samples.proofs.Paths.{first_of}

pub first_named : (name : List ℕ) (more : List (List ℕ)) → IsFirstNamed (name ∷ more) name 0
first_named name more = (omega arith, refl, λ i lt e. omega (arith, lt))

pub second_named : (other name : List ℕ) (more : List (List ℕ)) → other ≢ name → IsFirstNamed (other ∷ name ∷ more) name 1
second_named other name more differ =
    (omega arith, refl, first_of (λ i. slice_get (other ∷ name ∷ more) i ≢ Some name) (λ e. differ (same_Some other name e)))

-- names that end in other numbers
pub numbers_differ : (name other : List ℕ) → (slice_index name 12 ≡ slice_index other 12 → ⊥) → name ≢ other
numbers_differ name other differ e = differ (ap (λ (n : List ℕ). slice_index n 12) e)

-- a list of one file, which has another name
pub not_alone : (other name : List ℕ) (file : ℕ) → other ≢ name → IsFirstNamed (other ∷ []) name file → ⊥
not_alone other name zero differ found = differ (same_Some other name found.1)
not_alone other name (suc file) differ found = let lt = found.0 in omega (arith, lt)

both_equal : (i j : ℕ) → (i < j → ⊥) → (j < i → ⊥) → i ≡ j
both_equal zero zero less more = refl
both_equal zero (suc j) less more = absurd (less (omega arith))
both_equal (suc i) zero less more = absurd (more (omega arith))
both_equal (suc i) (suc j) less more = ap suc (both_equal i j (λ lt. less (omega (arith, lt))) (λ lt. more (omega (arith, lt))))

-- there is one such file
pub only_first : (names : List (List ℕ)) (name : List ℕ) (file other : ℕ) → IsFirstNamed names name file → IsFirstNamed names name other → file ≡ other
only_first names name file other found again = both_equal file other (λ lt. again.2 file lt found.1) (λ lt. found.2 other lt again.1)

-- where it has as many bytes, and something in place of its first event, it isn't shorter
pub not_short : (names : List (List ℕ)) (contents : Contents) (later_names : List (List ℕ)) (later_contents : Contents) (mark : Place) (name : List ℕ) (file : ℕ)
    → slice_get names (last_file names) ≡ Some name → IsFirstNamed later_names name file
    → end_from_mark names contents mark ≤ length (content later_contents file) → (EndsInFront (content later_contents file) → ⊥)
    → IsUnfound names contents later_names later_contents mark FileShorter → ⊥
not_short names contents later_names later_contents mark name file named found long some short =
    let same = same_Some short.1.name name (sym short.1.named ∙ named) in
    let again = subst (λ (n : List ℕ). IsFirstNamed later_names n short.0) same short.1.found in
    let there = only_first later_names name short.0 file again found in
    elim short.2 [
      | inl less ↦
          let below = subst (λ (n : ℕ). length (content later_contents n) < end_from_mark names contents mark) there less in
          omega (arith, below, long)
      | inr (risen, ends) ↦ some (subst (λ (n : ℕ). EndsInFront (content later_contents n)) there ends)
    ]
