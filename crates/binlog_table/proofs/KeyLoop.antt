-- The loop over the columns of a key.
use Rattle.std.proofs.Common.{◌≡◌, ℕ, zero, suc, ◌-◌, ◌<◌, ◌≤◌, Bool, true, false, cond, ltb, List, [], ◌∷◌, ◌++◌, length, set, get_or, Result, Ok, Err, refl, sym, subst, ◌∙◌, arith}
use Rattle.std.specs.Prelude.{not, ◌||◌, ◌==◌}
use Rattle.std.specs.List.{list_any}
use Rattle.std.proofs.Math.Bool.{or-true, or-false}
use Rattle.std.proofs.lemmas.Bool.{eqb-true, eqb-false, ltb-true, ltb-false}
use Rattle.std.proofs.lemmas.List.{length-set, get_or-set_same, get_or-set_other, get_or_past}
use Rattle.std.proofs.lemmas.List.Folds.{list_any-append}
use Rattle.binlog_table.specs.declared.fault.MapFault.{MapFault}
use Rattle.binlog_table.specs.declared.fault.MapFault.TheVariants.{BadMap}
use Rattle.binlog_table.specs.MapResult.{◌>>=◌}
use Rattle.binlog_table.specs.Names.{index_at, new_index, key_from}
use Rattle.binlog_table.proofs.FirstFaults.{goes_first}
use Rattle.binlog_table.proofs.MapListReadings.{index-less, key_end, key_step}

-- the key so far, and the bytes of the columns that are still to be read, for which there is enough fuel
abbrev pub KeyLeft : Bool → ℕ → List ℕ → List ℕ → Result (List ℕ) MapFault → Type 0
KeyLeft prefixed count key rest total = (fuel : ℕ) × (length rest ≤ fuel) × (key_from fuel prefixed count key rest ≡ total)

pub key-step : (prefixed : Bool) (count : ℕ) (key rest : List ℕ) (total : Result (List ℕ) MapFault) → 0 < length rest → (l : KeyLeft prefixed count key rest total)
    → (index_at prefixed rest >>= λ i. new_index count key i.0 >>= λ x. key_from (l.0 - 1) prefixed count (key ++ x ∷ []) i.1) ≡ total
key-step prefixed count key rest total some (zero, enough, so_far) = absurd (omega arith)
key-step prefixed count key rest total some (suc n, enough, so_far) = let k : suc n - 1 ≡ n = omega arith in rw k (sym (key_step n prefixed count key rest some) ∙ so_far)

pub key-more : (prefixed : Bool) (count : ℕ) (key rest : List ℕ) (total : Result (List ℕ) MapFault) (i : ℕ × List ℕ) (x : ℕ) → 0 < length rest → KeyLeft prefixed count key rest total → index_at prefixed rest ≡ Ok i → new_index count key i.0 ≡ Ok x
    → KeyLeft prefixed count (key ++ x ∷ []) i.1 total
key-more prefixed count key rest total i x some l is new =
    (l.0 - 1, omega (arith, l.1, index-less prefixed rest i is), goes_first (new_index count key i.0) x _ total new (goes_first (index_at prefixed rest) i _ total is (key-step prefixed count key rest total some l)))

pub key-end : (prefixed : Bool) (count : ℕ) (key rest : List ℕ) (total : Result (List ℕ) MapFault) → length rest ≡ 0 → KeyLeft prefixed count key rest total → total ≡ Ok key
key-end prefixed count key [] total h l = sym l.2 ∙ key_end l.0 prefixed count key
key-end prefixed count key (b ∷ bs) total h l = absurd (omega arith)

-- ---- a mark for each column that stands in the key

abbrev pub Marks : List Bool → List ℕ → Type 0
Marks seen key = (i : ℕ) → i < length seen → get_or seen i true ≡ list_any (λ y. y == i) key

pub marks-more : (seen : List Bool) (key : List ℕ) (index : ℕ) → index < length seen → Marks seen key → Marks (set seen index true) (key ++ index ∷ [])
marks-more seen key index within marks i lt = by_test (index == i) refl ∙ sym (list_any-append (λ y. y == i) key (index ∷ []))
  where
    by_test : (b : Bool) → (index == i) ≡ b → get_or (set seen index true) i true ≡ (list_any (λ y. y == i) key || (index == i || false))
    by_test true t = rw t (subst (λ (k : ℕ). get_or (set seen index true) k true ≡ true) (eqb-true _ _ t) (get_or-set_same seen index true true within) ∙ sym (or-true (list_any (λ y. y == i) key)))
    by_test false t =
        let below : i < length seen = omega (arith, length-set seen index true) in
        rw t (get_or-set_other seen index i true true (λ e. eqb-false _ _ t (sym e)) ∙ marks i below ∙ sym (or-false (list_any (λ y. y == i) key)))

pub marks-index : (count : ℕ) (seen : List Bool) (key : List ℕ) (index : ℕ) → length seen ≡ count → Marks seen key → new_index count key index ≡ cond (get_or seen index true) (Err BadMap) (Ok index)
marks-index count seen key index len marks = by_test (ltb index count) refl
  where
    unmarked : (a : Bool) → ◌≡◌ {A = Result ℕ MapFault} (cond (not a) (Ok index) (Err BadMap)) (cond a (Err BadMap) (Ok index))
    unmarked true = refl
    unmarked false = refl

    by_test : (b : Bool) → ltb index count ≡ b → new_index count key index ≡ cond (get_or seen index true) (Err BadMap) (Ok index)
    by_test true t =
        let below : index < length seen = omega (arith, ltb-true _ _ t) in
        rw (t, marks index below) (unmarked (list_any (λ y. y == index) key))
    by_test false t =
        let beyond : length seen ≤ index = omega (arith, ltb-false _ _ t) in
        rw (t, get_or_past seen index true beyond) refl
