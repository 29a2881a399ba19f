-- A value that is passed over by its step is the one that the definition reads.
use Rattle.std.proofs.Common.{◌≡◌, ℕ, ◌+◌, ◌-◌, ◌<◌, ◌≤◌, Bool, true, false, cond, leb, inl, inr, List, [], ◌∷◌, ◌++◌, length, take, drop, Option, Some, None, option_map, option_and_then, is_some, get_or, refl, sym, subst, ap, ◌∙◌, arith}
use Rattle.std.proofs.lemmas.Bool.{cases_lt, leb-true, le-leb, false_from_ne_true}
use Rattle.std.proofs.lemmas.List.{get_or_append_left, get_or_default, length-append}
use Rattle.std.proofs.Math.Seq.{get_or-append_seam}
use Rattle.byteorder.specs.Endian.{little_number}
use Rattle.binlog_table.specs.declared.column.Column.{Column}
use Rattle.binlog_table.specs.declared.extent.Extent.{Extent}
use Rattle.binlog_table.specs.declared.extent.Extent.TheVariants.{Fixed, Prefixed}
use Rattle.binlog_table.specs.declared.steps.Step.{Step}
use Rattle.binlog_table.specs.declared.steps.Pass.{Pass}
use Rattle.binlog_table.specs.declared.steps.Pass.TheVariants.{Plain, Counted, Judged}
use Rattle.binlog_table.specs.Extent.{HasExtent, extent_of, extent_len}
use Rattle.binlog_table.specs.Image.{cell_at, value_at}
use Rattle.binlog_table.specs.Steps.{AlwaysMeans, AreFirstSteps, AreSteps, IsPassOf, IsStepOf}
use Rattle.binlog_table.specs.Value.{Content, value_of}
use Rattle.binlog_table.proofs.Extents.{extent_len-found}

-- ---- extents

not_le : (n m : ℕ) → m < n → leb n m ≡ false
not_le n m less = false_from_ne_true (leb n m) (λ e. let le : n ≤ m = leb-true n m e in absurd (omega arith))

fixed_len : (n : ℕ) (bytes : List ℕ) → n ≤ length bytes → extent_len (Fixed n) bytes ≡ Some n
unfolding extent_len
fixed_len n bytes le = rw (le-leb n (length bytes) le) refl

fixed_none : (n : ℕ) (bytes : List ℕ) → length bytes < n → extent_len (Fixed n) bytes ≡ None
unfolding extent_len
fixed_none n bytes less = rw (not_le n (length bytes) less) refl

counted_len : (n : ℕ) (bytes : List ℕ) → n ≤ length bytes → n + little_number n bytes ≤ length bytes → extent_len (Prefixed n) bytes ≡ Some (n + little_number n bytes)
unfolding extent_len
counted_len n bytes le whole = rw (le-leb n (length bytes) le, le-leb (n + little_number n bytes) (length bytes) whole) refl

counted_none : (n : ℕ) (bytes : List ℕ) → length bytes < n → extent_len (Prefixed n) bytes ≡ None
unfolding extent_len
counted_none n bytes less = rw (not_le n (length bytes) less) refl

counted_cut : (n : ℕ) (bytes : List ℕ) → n ≤ length bytes → length bytes < n + little_number n bytes → extent_len (Prefixed n) bytes ≡ None
unfolding extent_len
counted_cut n bytes le less = rw (le-leb n (length bytes) le, not_le (n + little_number n bytes) (length bytes) less) refl

-- ---- values

no_extent : (column : Column) (bytes : List ℕ) → extent_len (extent_of column.layout) bytes ≡ None → value_at column bytes ≡ None
unfolding value_at
no_extent column bytes e = ap (option_and_then (λ n. option_map (λ v. (v, n)) (value_of column (take n bytes)))) e

read : (column : Column) (bytes : List ℕ) (n : ℕ) → extent_len (extent_of column.layout) bytes ≡ Some n → value_at column bytes ≡ option_map (λ v. (v, n)) (value_of column (take n bytes))
unfolding value_at
read column bytes n e = ap (option_and_then (λ n. option_map (λ v. (v, n)) (value_of column (take n bytes)))) e

end_behind : (n : ℕ) (value : Option Content) → is_some value ≡ true → Some n ≡ option_map {T = Content × ℕ} (λ x. x.1) (option_map (λ v. (v, n)) value)
end_behind n None e = absurd cc
end_behind n (Some v) e = refl

no_end : (n : ℕ) (value : Option Content) → is_some value ≡ false → None ≡ option_map {T = Content × ℕ} (λ x. x.1) (option_map (λ v. (v, n)) value)
no_end n None e = refl
no_end n (Some v) e = absurd cc

pub ends : (column : Column) (n : ℕ) (bytes : List ℕ) → extent_len (extent_of column.layout) bytes ≡ Some n → is_some (value_of column (take n bytes)) ≡ true
    → Some n ≡ option_map (λ x. x.1) (value_at column bytes)
ends column n bytes e means = end_behind n (value_of column (take n bytes)) means ∙ ap (option_map (λ x. x.1)) (sym (read column bytes n e))

pub ends_nowhere : (column : Column) (n : ℕ) (bytes : List ℕ) → extent_len (extent_of column.layout) bytes ≡ Some n → is_some (value_of column (take n bytes)) ≡ false
    → None ≡ option_map (λ x. x.1) (value_at column bytes)
ends_nowhere column n bytes e means = no_end n (value_of column (take n bytes)) means ∙ ap (option_map (λ x. x.1)) (sym (read column bytes n e))

pub is_cut : (column : Column) (bytes : List ℕ) → extent_len (extent_of column.layout) bytes ≡ None → None ≡ option_map (λ x. x.1) (value_at column bytes)
is_cut column bytes e = ap (option_map (λ x. x.1)) (sym (no_extent column bytes e))

-- ---- steps

of_layout : (column : Column) (s : Extent) (bytes : List ℕ) (r : Option ℕ) → extent_of column.layout ≡ s → extent_len s bytes ≡ r → extent_len (extent_of column.layout) bytes ≡ r
of_layout column s bytes r e found = ap (λ (s : Extent). extent_len s bytes) e ∙ found

pub too_short : (column : Column) (len : ℕ) (pass : Pass) (bytes : List ℕ) → IsPassOf column len pass → length bytes < len → None ≡ option_map (λ x. x.1) (value_at column bytes)
too_short column len Plain bytes h less = is_cut column bytes (of_layout column (Fixed len) bytes None h.0 (fixed_none len bytes less))
too_short column len Counted bytes h less = is_cut column bytes (of_layout column (Prefixed len) bytes None h.0 (counted_none len bytes less))
too_short column len Judged bytes h less = is_cut column bytes (of_layout column (Fixed len) bytes None h (fixed_none len bytes less))

pub passes_plain : (column : Column) (len : ℕ) (bytes : List ℕ) → IsPassOf column len Plain → len ≤ length bytes → Some len ≡ option_map (λ x. x.1) (value_at column bytes)
passes_plain column len bytes h le =
    let e = of_layout column (Fixed len) bytes (Some len) h.0 (fixed_len len bytes le) in
    ends column len bytes e (h.1 (take len bytes) (extent_len-found (extent_of column.layout) bytes len e).1)

pub passes_counted : (column : Column) (len : ℕ) (bytes : List ℕ) → IsPassOf column len Counted → len ≤ length bytes → len + little_number len bytes ≤ length bytes
    → Some (len + little_number len bytes) ≡ option_map (λ x. x.1) (value_at column bytes)
passes_counted column len bytes h le whole =
    let n = len + little_number len bytes in
    let e = of_layout column (Prefixed len) bytes (Some n) h.0 (counted_len len bytes le whole) in
    ends column n bytes e (h.3 (take n bytes) (extent_len-found (extent_of column.layout) bytes n e).1)

pub cut_behind_count : (column : Column) (len : ℕ) (bytes : List ℕ) → IsPassOf column len Counted → len ≤ length bytes → length bytes < len + little_number len bytes
    → None ≡ option_map (λ x. x.1) (value_at column bytes)
cut_behind_count column len bytes h le less = is_cut column bytes (of_layout column (Prefixed len) bytes None h.0 (counted_cut len bytes le less))

pub passes_judged : (column : Column) (len : ℕ) (bytes : List ℕ) → IsPassOf column len Judged → len ≤ length bytes → is_some (value_of column (take len bytes)) ≡ true
    → Some len ≡ option_map (λ x. x.1) (value_at column bytes)
passes_judged column len bytes h le means = ends column len bytes (of_layout column (Fixed len) bytes (Some len) h (fixed_len len bytes le)) means

pub out_of_range : (column : Column) (len : ℕ) (bytes : List ℕ) → IsPassOf column len Judged → len ≤ length bytes → is_some (value_of column (take len bytes)) ≡ false
    → None ≡ option_map (λ x. x.1) (value_at column bytes)
out_of_range column len bytes h le means = ends_nowhere column len bytes (of_layout column (Fixed len) bytes (Some len) h (fixed_len len bytes le)) means

-- where steps stand for the columns
pub step_at : (columns : List Column) (steps : List Step) (i : ℕ) (column : Column) (step : Step) → AreSteps columns steps → i < length columns → column ≡ get_or columns i column → step ≡ get_or steps i step → IsStepOf column step
step_at columns steps i column step h lt is there = h.1 i column step lt is there

pub with_null : (column : Column) (bytes : List ℕ) → Some 0 ≡ option_map (λ x. x.1) (cell_at column true true bytes)
unfolding cell_at
with_null column bytes = refl

pub with_value : (column : Column) (bytes : List ℕ) (r : Option ℕ) → r ≡ option_map (λ x. x.1) (value_at column bytes) → r ≡ option_map (λ x. x.1) (cell_at column true false bytes)
unfolding cell_at
with_value column bytes r e = e

-- a step more
pub one_more : (columns : List Column) (steps : List Step) (n : ℕ) (t : Column) (s : Step) → AreFirstSteps n columns steps → n < length columns → t ≡ get_or columns n t → IsStepOf t s
    → AreFirstSteps (n + 1) columns (steps ++ s ∷ [])
one_more columns steps n t s h room is fits = (
  omega (arith, length-append steps (s ∷ []), h.0),
  λ i column step lt column_is step_is.
      elim (cases_lt i n) [
        | inl before ↦ h.1 i column step before column_is (step_is ∙ get_or_append_left steps (s ∷ []) step i (omega (arith, h.0)))
        | inr behind ↦
            let here : i ≡ n = omega arith in
            let column_here : column ≡ t = column_is ∙ ap (λ (k : ℕ). get_or columns k column) here ∙ get_or_default columns n column t room ∙ sym is in
            let step_here : step ≡ s = step_is ∙ ap (λ (k : ℕ). get_or (steps ++ s ∷ []) k step) (here ∙ sym h.0) ∙ get_or-append_seam steps s [] step in
            subst (λ (u : Column). IsStepOf u step) (sym column_here) (subst (λ (v : Step). IsStepOf t v) (sym step_here) fits)
      ],
)
