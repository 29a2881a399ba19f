-- The parts of a text, one after another.
use Rattle.std.proofs.Common.{◌≡◌, ◌≢◌, ℕ, ◌+◌, ◌<◌, false, eqb, List, [], ◌∷◌, ◌++◌, length, get_or, take, drop, sym, ap, ◌∙◌, arith}
use Rattle.std.specs.List.{All, join_with_byte}
use Rattle.std.proofs.lemmas.Bool.Decides.{nat_tests}
use Rattle.std.proofs.lemmas.List.{take-append-drop, drop_more, get_or-take, length-take-le}
use Rattle.std.proofs.lemmas.List.Elements.{All-from_get_or}
use Rattle.std.proofs.lemmas.List.Splits.{slice_split_none, slice_split_at, join_with_byte-slice_split}
use Rattle.binlog_select.specs.Parts.{parts}

-- the byte isn't in the text
abbrev pub Lacks : List ℕ → ℕ → Type 0
Lacks text c = All (λ b. b ≢ c) text

fails_test : (text : List ℕ) (c : ℕ) → Lacks text c → All (λ b. eqb b c ≡ false) text
fails_test text c lacks k d below = let apart = lacks k d below in grind (arith, nat_tests)

pub parts-none : (c : ℕ) (text : List ℕ) → Lacks text c → parts c text ≡ text ∷ []
parts-none c text lacks = slice_split_none (λ b. eqb b c) text (fails_test text c lacks)

pub parts-append : (c : ℕ) (xs ys : List ℕ) → Lacks xs c → parts c (xs ++ c ∷ ys) ≡ xs ∷ parts c ys
parts-append c xs ys lacks = slice_split_at (λ b. eqb b c) xs c ys (fails_test xs c lacks) (grind (arith, nat_tests))

pub join-parts : (c : ℕ) (text : List ℕ) → join_with_byte c (parts c text) ≡ text
join-parts c text = join_with_byte-slice_split c text

-- at the first place with the separator
pub parts-first : (c : ℕ) (text : List ℕ) (at : ℕ) → at < length text → get_or text at 0 ≡ c
    → ((k : ℕ) → k < at → get_or text k 0 ≡ c → ⊥) → parts c text ≡ take at text ∷ parts c (drop (at + 1) text)
parts-first c text at below is before =
    ap (parts c) (sym (take-append-drop at text) ∙ ap (λ rest. take at text ++ rest) (drop_more text at 0 below ∙ ap (λ b. b ∷ drop (at + 1) text) is))
    ∙ parts-append c (take at text) (drop (at + 1) text)
    (All-from_get_or (λ b. b ≢ c) (take at text) 0 (λ i low same. before i (omega (arith, length-take-le at text (omega arith))) (sym (get_or-take at text i 0 (omega (arith, length-take-le at text (omega arith)))) ∙ same)))

pub parts-lacking : (c : ℕ) (text : List ℕ) → ((k : ℕ) → k < length text → get_or text k 0 ≡ c → ⊥) → parts c text ≡ text ∷ []
parts-lacking c text before = parts-none c text (All-from_get_or (λ b. b ≢ c) text 0 (λ i low same. before i low same))
