-- The loop over the names of the values of columns.
use Rattle.std.proofs.Common.{◌≡◌, ℕ, ◌+◌, ◌<◌, ◌≤◌, Bool, true, false, cond, eqb, List, [], ◌∷◌, ◌++◌, length, get_or, drop, Option, Result, Ok, Err, refl, sym, ap, ◌∙◌, append-nil}
use Rattle.std.specs.Prelude.{unwrap_or}
use Rattle.std.proofs.lemmas.List.{at_drop_more, at_drop_all}
use Rattle.binlog_table.specs.declared.fault.MapFault.{MapFault}
use Rattle.binlog_table.specs.declared.fault.MapFault.TheVariants.{BadMap}
use Rattle.binlog_table.specs.declared.column.Column.{Column}
use Rattle.binlog_table.specs.MapResult.{◌>>=◌}
use Rattle.binlog_table.specs.Names.{value_names_of, value_names_at, value_names}
use Rattle.binlog_table.proofs.Prepended.{prepended, prepended-step}

abbrev Names : Type 0
Names = Option (List (List ℕ))

abbrev Left : Type 0
Left = Option (List ℕ) × Option (List ℕ)

module _ (columns : List Column) (i : ℕ) (front : List Names) (left : Left) (total : Result (List Names × Left) MapFault) where
  pub value-names-step : (column : Column) → i < length columns → column ≡ get_or columns i column → prepended front (value_names_at (drop i columns) left.0 left.1) ≡ total
      → (value_names_of column.layout left.0 left.1 >>= λ x. prepended (front ++ x.0 ∷ []) (value_names_at (drop (i + 1) columns) x.1.0 x.1.1)) ≡ total
  unfolding value_names_at
  value-names-step column lt is so_far =
      sym (prepended-step front (value_names_of column.layout left.0 left.1) (λ (x : Names × Left). x.0) (λ (x : Names × Left). value_names_at (drop (i + 1) columns) x.1.0 x.1.1))
      ∙ ap (λ (c : Column). prepended front (value_names_at (c ∷ drop (i + 1) columns) left.0 left.1)) is
      ∙ sym (at_drop_more (λ (cs : List Column). prepended front (value_names_at cs left.0 left.1)) columns i column lt) ∙ so_far

  value-names-end : length columns ≤ i → prepended front (value_names_at (drop i columns) left.0 left.1) ≡ total → total ≡ Ok (front, left)
  unfolding value_names_at
  value-names-end le so_far = sym so_far ∙ at_drop_all (λ (cs : List Column). prepended front (value_names_at cs left.0 left.1)) columns i le ∙ ap (λ (xs : List Names). Ok (xs, left)) (append-nil front)

-- the whole, once all columns are read
pub value-names-left : (columns : List Column) (sets enums : Option (List ℕ)) (i : ℕ) (names : List Names) (left : Left) (a b : Bool) → length columns ≤ i → prepended names (value_names_at (drop i columns) left.0 left.1) ≡ value_names_at columns sets enums
    → a ≡ eqb (length (unwrap_or left.0 [])) 0 → b ≡ eqb (length (unwrap_or left.1 [])) 0 → value_names columns sets enums ≡ cond a (cond b (Ok names) (Err BadMap)) (Err BadMap)
unfolding value_names
value-names-left columns sets enums i names left a b le so_far f g = rw (value-names-end columns i names left (value_names_at columns sets enums) le so_far, ← f, ← g) (by_tests a b)
  where
    by_tests : (p q : Bool) → (cond p (Ok 0) (Err BadMap) >>= λ (n : ℕ). cond q (Ok 0) (Err BadMap) >>= λ (m : ℕ). Ok names) ≡ cond p (cond q (Ok names) (Err BadMap)) (Err BadMap)
    by_tests true true = refl
    by_tests true false = refl
    by_tests false _ = refl
