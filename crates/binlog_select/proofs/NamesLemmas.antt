-- A set of names doesn't depend on their order, a binary search finds what is in it, and copies of texts make the same set.
use Rattle.std.proofs.Common.{◌≡◌, ℕ, ◌+◌, ◌<◌, Bool, ◌||◌, List, [], ◌∷◌, length, map, get_or, true, string_bytes, Result, Ok, Err, is_ok, sym, ap, ◌∙◌, arith, refl, inl, inr}
use Rattle.std.proofs.lemmas.Bool.{cases_lt}
use Rattle.std.specs.List.{list_any, AllZip}
use Rattle.std.specs.List.Sorted.{IsPermutation, IsBinarySearchResult, IsSearchInRange}
use Rattle.std.specs.Ordering.{nat_cmp, eq_by_cmp, is_eq, ordering_reverse}
use Rattle.std.specs.Cmp.Lexicographic.{slice_cmp, nat_list_cmp_total}
use Rattle.std.specs.FinSet as set
use Rattle.std.specs.declared.string.String.{String}
use Rattle.std.specs.declared.alloc.Global.{Global}
use Rattle.std.specs.declared.cmp.Ordering.{Ordering}
use Rattle.std.specs.declared.cmp.Ordering.TheVariants.{Less, Equal, Greater}
use Rattle.std.proofs.lemmas.List.Elements.{length_all_zip, AllZip-get_or}
use Rattle.std.proofs.lemmas.List.Folds.{list_any_none, list_any_at}
use Rattle.std.proofs.lemmas.List.Sorted.{list_any-IsPermutation, IsPermutation-map, searchable_from_sorted}
use Rattle.binlog_select.specs.Names.{AreInByteOrder}

abbrev pub bytes_of : List (String Global) → List (List ℕ)
bytes_of texts = map string_bytes texts

abbrev by_bytes : List ℕ → List ℕ → Ordering
by_bytes = slice_cmp nat_cmp

pub from_list-IsPermutation : (xs ys : List (String Global)) → IsPermutation xs ys
    → set.from_list {R = slice_cmp nat_cmp} (bytes_of ys) ≡ set.from_list (bytes_of xs)
from_list-IsPermutation xs ys moved =
    set.same_set nat_list_cmp_total (set.slice_cmp-IsAntisymmetric set.nat_cmp-IsAntisymmetric) _ _
    (λ name. set.contains-from_list nat_list_cmp_total (bytes_of ys) name
    ∙ sym (list_any-IsPermutation (eq_by_cmp by_bytes name) _ _ (IsPermutation-map string_bytes xs ys moved))
    ∙ sym (set.contains-from_list nat_list_cmp_total (bytes_of xs) name))

-- the order from the other side
turned : (a b : List ℕ) (o : Ordering) → by_bytes a b ≡ o → eq_by_cmp by_bytes b a ≡ is_eq (ordering_reverse o)
turned a b o is = ap is_eq (nat_list_cmp_total.antisymm b a ∙ ap ordering_reverse is)

list_any-bytes : (p : List ℕ → Bool) (texts : List (String Global)) → list_any (λ t. p (string_bytes t)) texts ≡ list_any p (bytes_of texts)
list_any-bytes p [] = refl
list_any-bytes p (t ∷ texts) = ap (λ b. p (string_bytes t) || b) (list_any-bytes p texts)

list_any_where : {X : Type 0} (p : X → Bool) (xs : List X) (k : ℕ) → k < length xs → ((d : X) → p (get_or xs k d) ≡ true) → list_any p xs ≡ true
list_any_where p [] k below passes = absurd (omega arith)
list_any_where p (x ∷ xs) k below passes = list_any_at p (x ∷ xs) k x below (passes x)

module _ (texts : List (String Global)) (name : List ℕ) (ordered : AreInByteOrder texts) where
  found_so : (r : Result ℕ ℕ) → IsSearchInRange r (length texts)
      → IsBinarySearchResult (λ own. slice_cmp nat_cmp (string_bytes own) name) texts r
      → is_ok r ≡ list_any (λ t. eq_by_cmp by_bytes name (string_bytes t)) texts
  found_so (Ok i) within at =
      sym (list_any_where _ texts i within (λ d. turned (string_bytes (get_or texts i d)) name Equal (at d)))
  found_so (Err i) within around =
      let parted = around (searchable_from_sorted nat_list_cmp_total string_bytes texts name ordered) in
      sym (list_any_none _ texts (λ k d below.
      elim (cases_lt k i) [
        | inl before ↦ turned (string_bytes (get_or texts k d)) name Less (parted.0 k d (omega arith) before)
        | inr after ↦ turned (string_bytes (get_or texts k d)) name Greater (parted.1 k d after below)
      ]))

pub found_in : (texts : List (String Global)) (name : List ℕ) (r : Result ℕ ℕ) → IsSearchInRange r (length texts)
    → IsBinarySearchResult (λ own. slice_cmp nat_cmp (string_bytes own) name) texts r → AreInByteOrder texts
    → is_ok r ≡ set.contains (set.from_list {R = slice_cmp nat_cmp} (bytes_of texts)) name
found_in texts name r within found ordered =
    found_so texts name ordered r within found
    ∙ list_any-bytes (eq_by_cmp by_bytes name) texts
    ∙ sym (set.contains-from_list nat_list_cmp_total (bytes_of texts) name)

-- the same bytes, as a copy of a text has them
abbrev pub IsCopied : String Global → String Global → Type 0
IsCopied text copy = string_bytes copy ≡ string_bytes text

pub bytes_of-copied : (texts copies : List (String Global)) → AllZip IsCopied texts copies → bytes_of copies ≡ bytes_of texts
bytes_of-copied [] [] same = refl
bytes_of-copied (t ∷ texts) (c ∷ copies) same = rw (same.0, bytes_of-copied texts copies same.1)
bytes_of-copied texts copies same = absurd same

-- copies of texts in the order of their bytes are in that order
pub AreInByteOrder-copied : (texts copies : List (String Global)) → AllZip IsCopied texts copies → AreInByteOrder texts → AreInByteOrder copies
AreInByteOrder-copied texts copies same ordered = λ k d low below.
    let within : k + 1 < length texts = omega (arith, length_all_zip IsCopied texts copies same, below) in
    rw (AllZip-get_or IsCopied texts copies (k + 1) d d same within, AllZip-get_or IsCopied texts copies k d d same (omega arith)) (ordered k d low within)
