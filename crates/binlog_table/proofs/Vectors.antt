-- The columns of some types by the two profiles: the strict one refuses a VECTOR, and nothing else is different.
use Rattle.std.proofs.Common.{◌≡◌, ℕ, Bool, true, false, ◌||◌, ◌⊎◌, inl, inr, eqb, List, [], ◌∷◌, drop, Result, Ok, Err, refl, ap, sym, ◌∙◌}
use Rattle.std.proofs.lemmas.Bool.{eqb-true}
use Rattle.binlog_profile.specs.declared.profile.Profile.TheVariants.{Strict, Server}
use Rattle.binlog_table.specs.declared.fault.MapFault.{MapFault}
use Rattle.binlog_table.specs.declared.fault.MapFault.TheVariants.{TypeOutOfProfile}
use Rattle.binlog_table.specs.declared.column.Column.{Column}
use Rattle.binlog_table.specs.declared.column.Layout.{Layout}
use Rattle.binlog_table.specs.MapResult.{◌>>=◌}
use Rattle.binlog_table.specs.TypeCodes.{vector}
use Rattle.binlog_table.specs.Columns.{layout_at, stored_as, next_numeric, columns_at}
use Rattle.binlog_table.specs.Map.{has_vector}
use Rattle.binlog_table.proofs.FirstFaults.{bind_then, bind_same}

abbrev Read : Type 0
Read = Result (List Column × (List ℕ × ℕ)) MapFault

vector_refused : (metadata : List ℕ) → layout_at vector metadata ≡ Err (TypeOutOfProfile vector)
unfolding layout_at
vector_refused metadata = refl

stored_alike : (t : ℕ) → eqb t vector ≡ false → stored_as Server t ≡ t
stored_alike t e = rw e refl

no_test : (a b : Bool) → (a || b) ≡ false → (a ≡ false) × (b ≡ false)
no_test false b e = (refl, e)
no_test true b e = absurd cc

-- without a VECTOR both profiles read the same
pub columns_same : (types metadata signs : List ℕ) (j : ℕ) → has_vector types ≡ false → columns_at Server types metadata signs j ≡ columns_at Strict types metadata signs j
unfolding columns_at
columns_same [] metadata signs j none = refl
columns_same (t ∷ ts) metadata signs j none =
    let parts = no_test (eqb t vector) (has_vector ts) none in
    rw (stored_alike t parts.0) (bind_same (layout_at t metadata) _ _ (λ l is. rw (columns_same ts (drop l.1 metadata) signs (next_numeric t j) parts.1) refl))

-- a list with one is refused for it, or for a column in front of it
pub columns_alike : (types metadata signs : List ℕ) (j : ℕ)
    → (columns_at Strict types metadata signs j ≡ Err (TypeOutOfProfile vector)) ⊎ (columns_at Strict types metadata signs j ≡ columns_at Server types metadata signs j)
unfolding columns_at
columns_alike [] metadata signs j = inr refl
columns_alike (t ∷ ts) metadata signs j = by_test (λ l. columns_alike ts (drop l.1 metadata) signs (next_numeric t j)) (eqb t vector) refl
  where
    tail_alike : (r : Result (Layout × ℕ) MapFault) (f g : Layout × ℕ → Read) → ((l : Layout × ℕ) → (f l ≡ Err (TypeOutOfProfile vector)) ⊎ (f l ≡ g l))
        → ((r >>= f) ≡ Err (TypeOutOfProfile vector)) ⊎ ((r >>= f) ≡ (r >>= g))
    tail_alike (Ok l) f g h = h l
    tail_alike (Err e) f g h = inr refl

    more_alike : (r s : Read) (f : List Column × (List ℕ × ℕ) → Read) → (r ≡ Err (TypeOutOfProfile vector)) ⊎ (r ≡ s)
        → ((r >>= f) ≡ Err (TypeOutOfProfile vector)) ⊎ ((r >>= f) ≡ (s >>= f))
    more_alike r s f (inl e) = inl (ap (λ (x : Read). x >>= f) e)
    more_alike r s f (inr e) = inr (ap (λ (x : Read). x >>= f) e)

    by_test : ((l : Layout × ℕ) → (columns_at Strict ts (drop l.1 metadata) signs (next_numeric t j) ≡ Err (TypeOutOfProfile vector)) ⊎ (columns_at Strict ts (drop l.1 metadata) signs (next_numeric t j) ≡ columns_at Server ts (drop l.1 metadata) signs (next_numeric t j)))
        → (b : Bool) → eqb t vector ≡ b → (columns_at Strict (t ∷ ts) metadata signs j ≡ Err (TypeOutOfProfile vector)) ⊎ (columns_at Strict (t ∷ ts) metadata signs j ≡ columns_at Server (t ∷ ts) metadata signs j)
    by_test later true e = inl (rw (eqb-true t vector e, vector_refused metadata) refl)
    by_test later false e = rw (stored_alike t e) (tail_alike (layout_at t metadata) _ _ (λ l. more_alike _ _ _ (later l)))

-- the strict profile reads none
pub strict_columns : (types metadata signs : List ℕ) (j : ℕ) (r : List Column × (List ℕ × ℕ)) → columns_at Strict types metadata signs j ≡ Ok r → has_vector types ≡ false
unfolding columns_at
strict_columns [] metadata signs j r e = refl
strict_columns (t ∷ ts) metadata signs j r e =
    bind_then (layout_at t metadata) _ r e (λ l e1 k1. bind_then (columns_at Strict ts (drop l.1 metadata) signs (next_numeric t j)) _ r k1 (λ c e2 k2. by_test (eqb t vector) refl l e1 (strict_columns ts (drop l.1 metadata) signs (next_numeric t j) c e2)))
  where
    bad : (l : Layout × ℕ) → ◌≡◌ {A = Result (Layout × ℕ) MapFault} (Err (TypeOutOfProfile vector)) (Ok l) → ⊥
    bad l e = cc

    by_test : (b : Bool) → eqb t vector ≡ b → (l : Layout × ℕ) → layout_at t metadata ≡ Ok l → has_vector ts ≡ false → (eqb t vector || has_vector ts) ≡ false
    by_test true is l e1 none = absurd (bad l (sym (vector_refused metadata) ∙ (ap (λ (n : ℕ). layout_at n metadata) (sym (eqb-true t vector is)) ∙ e1)))
    by_test false is l e1 none = rw is none
