-- Going over the cells of an image, as a loop does.
use Rattle.std.proofs.Common.{◌≡◌, ℕ, ◌+◌, ◌-◌, ◌<◌, ◌≤◌, Bool, true, false, cond, List, [], ◌∷◌, length, get_or, take, drop, Option, Some, None, option_map, option_and_then, refl, sym, ap, ◌∙◌, arith}
use Rattle.std.proofs.Math.Nat.{add_assoc}
use Rattle.std.proofs.lemmas.List.{at_drop_more, at_drop_all, drop-drop, take_rest}
use Rattle.binlog_table.specs.declared.column.Column.{Column}
use Rattle.binlog_table.specs.Value.{Content}
use Rattle.binlog_table.specs.Image.{bit, set_bits, cell_at, cells_at, cells_of, after_cell, IsRead}
use Rattle.binlog_table.proofs.Options.{and_then_assoc, map-then}
use Rattle.binlog_table.proofs.SetBits.{bit-all_set}

-- where the cells end, from a place on
abbrev pub end_from : ℕ → Option (List Content × ℕ) → Option ℕ
end_from at read = option_map (λ x. at + x.1) read

-- how many bytes a cell takes
abbrev pub len_in : Option (Content × ℕ) → Option ℕ
len_in cell = option_map (λ x. x.1) cell

pub some-by_len : (cell : Option (Content × ℕ)) (n : ℕ) → Some n ≡ len_in cell → (c : Content) × (cell ≡ Some (c, n))
some-by_len None n e = absurd cc
some-by_len (Some x) n e = let len : x.1 ≡ n = cc in (x.0, ap (λ (m : ℕ). Some (x.0, m)) len)

-- the step of the walk
pub cells-turn : (columns : List Column) (j : ℕ) (present nulls : List ℕ) (i k : ℕ) (t : Column) (bytes : List ℕ) → j < length columns → t ≡ get_or columns j t
    → cells_at (drop j columns) present nulls i k bytes ≡ option_and_then (λ c. after_cell c (cells_at (drop (j + 1) columns) present nulls (i + 1) (cond (bit present i) (k + 1) k) (drop c.1 bytes))) (cell_at t (bit present i) (bit nulls k) bytes)
unfolding cells_at
cells-turn columns j present nulls i k t bytes lt is =
    at_drop_more (λ (ts : List Column). cells_at ts present nulls i k bytes) columns j t lt ∙ ap (λ (u : Column). cells_at (u ∷ drop (j + 1) columns) present nulls i k bytes) (sym is)

pub walk-step : (columns : List Column) (present nulls : List ℕ) (i k : ℕ) (t : Column) (at : ℕ) (body : List ℕ) (total : Option ℕ) → i < length columns → t ≡ get_or columns i t → end_from at (cells_at (drop i columns) present nulls i k (drop at body)) ≡ total
    → option_and_then (λ n. end_from (at + n) (cells_at (drop (i + 1) columns) present nulls (i + 1) (cond (bit present i) (k + 1) k) (drop (at + n) body))) (len_in (cell_at t (bit present i) (bit nulls k) (drop at body))) ≡ total
walk-step columns present nulls i k t at body total lt is so_far =
    let next = cells_at (drop (i + 1) columns) present nulls (i + 1) (cond (bit present i) (k + 1) k) in
    let cell = cell_at t (bit present i) (bit nulls k) (drop at body) in
    let same : option_and_then (λ n. end_from (at + n) (next (drop (at + n) body))) (len_in cell) ≡ end_from at (option_and_then (λ c. after_cell c (next (drop c.1 (drop at body)))) cell) = simp (map-then, and_then_assoc, drop-drop, add_assoc) in
    same ∙ sym (ap (end_from at) (cells-turn columns i present nulls i k t (drop at body) lt is)) ∙ so_far

-- the same where each column is present
pub present-step : (columns : List Column) (present nulls : List ℕ) (i : ℕ) (t : Column) (is_null : Bool) (at : ℕ) (body : List ℕ) (total : Option ℕ) → i < length columns → t ≡ get_or columns i t
    → set_bits present (length columns) ≡ length columns → is_null ≡ bit nulls i → end_from at (cells_at (drop i columns) present nulls i i (drop at body)) ≡ total
    → option_and_then (λ n. end_from (at + n) (cells_at (drop (i + 1) columns) present nulls (i + 1) (i + 1) (drop (at + n) body))) (len_in (cell_at t true is_null (drop at body))) ≡ total
present-step columns present nulls i t is_null at body total lt is all null so_far =
    rw (bit-all_set present (length columns) i lt all, ← null) at (walk-step columns present nulls i i t at body total lt is so_far)

pub walk-ends : (columns : List Column) (present nulls : List ℕ) (i k at : ℕ) (bytes : List ℕ) (total : Option ℕ) → length columns ≤ i
    → end_from at (cells_at (drop i columns) present nulls i k bytes) ≡ total → Some at ≡ total
unfolding cells_at
walk-ends columns present nulls i k at bytes total le so_far =
    let e : cells_at (drop i columns) present nulls i k bytes ≡ Some ([], 0) = at_drop_all (λ (ts : List Column). cells_at ts present nulls i k bytes) columns i le in
    ap Some (omega arith) ∙ sym (ap (end_from at) e) ∙ so_far

-- ---- one cell at a time

pub read-after : (c : Content) (n : ℕ) (next : Option (List Content × ℕ)) → IsRead (after_cell (c, n) next) → IsRead next × (cells_of (after_cell (c, n) next) ≡ c ∷ cells_of next)
read-after c n None h = absurd cc
read-after c n (Some x) h = (refl, refl)

-- the cells after the first, from the rest of the slices, as a split leaves them
abbrev pub rest_at : List Column → List ℕ → List ℕ → List ℕ → ℕ → ℕ → ℕ → Option (List Content × ℕ)
rest_at columns present nulls values i k n = cells_at (take (length columns - 1) (drop 1 columns)) present nulls (i + 1) k (take (length values - n) (drop n values))

pub cells-next : (columns : List Column) (present nulls values : List ℕ) (i k k' : ℕ) (t : Column) (c : Content) (n : ℕ) → 0 < length columns → t ≡ get_or columns 0 t
    → Some (c, n) ≡ cell_at t (bit present i) (bit nulls k) values → IsRead (cells_at columns present nulls i k values) → k' ≡ cond (bit present i) (k + 1) k
    → IsRead (rest_at columns present nulls values i k' n) × (cells_of (cells_at columns present nulls i k values) ≡ c ∷ cells_of (rest_at columns present nulls values i k' n))
cells-next columns present nulls values i k k' t c n lt is some read place =
    let next = rest_at columns present nulls values i k' n in
    let same : next ≡ cells_at (drop 1 columns) present nulls (i + 1) (cond (bit present i) (k + 1) k) (drop n values) = rw (take_rest columns 1, take_rest values n, place) refl in
    let turn : cells_at columns present nulls i k values ≡ after_cell (c, n) next = rw same (rw (cells-turn columns 0 present nulls i k t values lt is, ← some) refl) in
    let both = read-after c n next (rw turn at read) in
    (both.0, ap cells_of turn ∙ both.1)

pub cells-not_none : (columns : List Column) (present nulls values : List ℕ) (i k : ℕ) (t : Column) → 0 < length columns → t ≡ get_or columns 0 t
    → None ≡ cell_at t (bit present i) (bit nulls k) values → IsRead (cells_at columns present nulls i k values) → ⊥
cells-not_none columns present nulls values i k t lt is none read =
    let stopped : cells_at columns present nulls i k values ≡ None = rw (cells-turn columns 0 present nulls i k t values lt is, ← none) refl in
    let no : IsRead None = rw stopped at read in cc

pub cells-none_left : (columns : List Column) (present nulls values : List ℕ) (i k : ℕ) → length columns < 1 → cells_of (cells_at columns present nulls i k values) ≡ []
unfolding cells_at
cells-none_left [] present nulls values i k h = refl
cells-none_left (t ∷ ts) present nulls values i k h = absurd (omega arith)

-- what can be read begins with a cell that can be read
pub record First (first : Option (Content × ℕ)) (rest : Content × ℕ → Option (List Content × ℕ)) : Type 0 where
  pub cell : Content
  pub len : ℕ
  pub is : first ≡ Some (cell, len)
  pub read : IsRead (rest (cell, len))
  pub cells : cells_of (option_and_then (λ c. after_cell c (rest c)) first) ≡ cell ∷ cells_of (rest (cell, len))

pub first_of_all : (first : Option (Content × ℕ)) (rest : Content × ℕ → Option (List Content × ℕ)) → IsRead (option_and_then (λ c. after_cell c (rest c)) first) → First first rest
first_of_all None rest h = absurd cc
first_of_all (Some x) rest h = let both = read-after x.0 x.1 (rest x) h in record { cell = x.0; len = x.1; is = refl; read = both.0; cells = both.1 }

-- what can be read behind a bitmap of nulls
pub read_behind : (b : Bool) (n : ℕ) (o : Option (List Content × ℕ)) → IsRead (cond b (option_map (λ x. (x.0, n + x.1)) o) None) → IsRead o × (cells_of (cond b (option_map (λ x. (x.0, n + x.1)) o) None) ≡ cells_of o)
read_behind true n (Some x) h = (refl, refl)
read_behind true n None h = absurd cc
read_behind false n o h = absurd cc
