-- What is read from the front is spelled there, and what is spelled there is read.
use Rattle.std.proofs.Common.{◌≡◌, ℕ, ◌+◌, ◌≤◌, Bool, true, false, cond, leb, List, [], ◌∷◌, ◌++◌, length, take, drop, Option, Some, option_map, refl, sym, ap, subst, ◌∙◌, append_assoc, arith}
use Rattle.std.proofs.Math.Seq.{take-add}
use Rattle.std.proofs.lemmas.Bool.{leb-true, le-leb}
use Rattle.std.proofs.lemmas.List.{take_at, drop_at, length-append, length-take, length-drop}
use Rattle.std.proofs.lemmas.Option.{same_Some}
use Rattle.binlog_table.specs.declared.column.Column.{Column}
use Rattle.binlog_table.specs.Extent.{extent_of, extent_len}
use Rattle.binlog_table.specs.Value.{Content, absent, null, value_of}
use Rattle.binlog_table.specs.Image.{Spells, IsCell, bit, value_at, cell_at, cells_at, after_cell, AreCells, IsImage, image_at, nulls_len}
use Rattle.binlog_table.proofs.Extents.{extent_len-found, extent_len-only}
use Rattle.binlog_table.proofs.Options.{and_then_ok, map_ok, guarded}

nothing-found : (c : Content) (bytes : List ℕ) (d : Content) (n : ℕ) → ◌≡◌ {A = Option (Content × ℕ)} (Some (c, 0)) (Some (d, n)) → (n ≤ length bytes) × ((d ≡ c) × (take n bytes ≡ []))
nothing-found c bytes d n e =
    let same = same_Some (c, 0) (d, n) e in
    subst (λ (x : Content × ℕ). (x.1 ≤ length bytes) × ((x.0 ≡ c) × (take x.1 bytes ≡ []))) same (omega arith, (refl, refl))

-- the reading takes the front n bytes, and these are spelled so
pub value_at-found : (t : Column) (bytes : List ℕ) (v : Content) (n : ℕ) → value_at t bytes ≡ Some (v, n) → (n ≤ length bytes) × Spells t v (take n bytes)
unfolding value_at
value_at-found t bytes v n e =
    let a = and_then_ok (extent_len (extent_of t.layout) bytes) (λ m. option_map (λ w. (w, m)) (value_of t (take m bytes))) (v, n) e in
    let b = map_ok (value_of t (take a.0 bytes)) (λ w. (w, a.0)) (v, n) a.2 in
    let f = extent_len-found (extent_of t.layout) bytes a.0 a.1 in
    let same : a.0 ≡ n = ap (λ (p : Content × ℕ). p.1) b.2 in
    let means : b.0 ≡ v = ap (λ (p : Content × ℕ). p.0) b.2 in
    subst (λ (m : ℕ). (m ≤ length bytes) × Spells t v (take m bytes)) same (f.0, record { ends = f.1; means = b.1 ∙ ap Some means })

pub value_at-only : (t : Column) (text rest : List ℕ) (v : Content) → Spells t v text → value_at t (text ++ rest) ≡ Some (v, length text)
unfolding value_at
value_at-only t text rest v s =
    rw (extent_len-only (extent_of t.layout) text rest s.ends, take_at text rest (length text) refl, s.means) refl

cell_at-found : (t : Column) (p q : Bool) (bytes : List ℕ) (c : Content) (n : ℕ) → cell_at t p q bytes ≡ Some (c, n) → (n ≤ length bytes) × IsCell t p q c (take n bytes)
unfolding cell_at
cell_at-found t true true bytes c n e = nothing-found null bytes c n e
cell_at-found t true false bytes c n e = value_at-found t bytes c n e
cell_at-found t false q bytes c n e = nothing-found absent bytes c n e

cell_at-only : (t : Column) (p q : Bool) (text rest : List ℕ) (c : Content) → IsCell t p q c text → cell_at t p q (text ++ rest) ≡ Some (c, length text)
unfolding cell_at
cell_at-only t true true text rest c h = rw (h.0, h.1) refl
cell_at-only t true false text rest c h = value_at-only t text rest c h
cell_at-only t false q text rest c h = rw (h.0, h.1) refl

pub cells_at-found : (types : List Column) (present nulls : List ℕ) (i k : ℕ) (bytes : List ℕ) (cells : List Content) (n : ℕ) → cells_at types present nulls i k bytes ≡ Some (cells, n)
    → (n ≤ length bytes) × AreCells types present nulls i k cells (take n bytes)
unfolding cells_at
cells_at-found [] present nulls i k bytes cells n e =
    let same : ◌≡◌ {A = List Content × ℕ} ([], 0) (cells, n) = same_Some ([], 0) (cells, n) e in
    subst (λ (x : List Content × ℕ). (x.1 ≤ length bytes) × AreCells [] present nulls i k x.0 (take x.1 bytes)) same (omega arith, refl)
cells_at-found (t ∷ ts) present nulls i k bytes cells n e =
    let next = cells_at ts present nulls (i + 1) (cond (bit present i) (k + 1) k) in
    let a = and_then_ok (cell_at t (bit present i) (bit nulls k) bytes) (λ c. after_cell c (next (drop c.1 bytes))) (cells, n) e in
    let b = map_ok (next (drop a.0.1 bytes)) (λ x. (a.0.0 ∷ x.0, a.0.1 + x.1)) (cells, n) a.2 in
    let first = cell_at-found t (bit present i) (bit nulls k) bytes a.0.0 a.0.1 a.1 in
    let others = cells_at-found ts present nulls (i + 1) (cond (bit present i) (k + 1) k) (drop a.0.1 bytes) b.0.0 b.0.1 b.1 in
    subst (λ (x : List Content × ℕ). (x.1 ≤ length bytes) × AreCells (t ∷ ts) present nulls i k x.0 (take x.1 bytes)) b.2
    (omega (arith, others.0, length-drop a.0.1 bytes), (take a.0.1 bytes, take b.0.1 (drop a.0.1 bytes), take-add a.0.1 b.0.1 bytes, first.1, others.1))

pub cells_at-only : (types : List Column) (present nulls : List ℕ) (i k : ℕ) (text rest : List ℕ) (cells : List Content) → AreCells types present nulls i k cells text
    → cells_at types present nulls i k (text ++ rest) ≡ Some (cells, length text)
unfolding cells_at
cells_at-only [] present nulls i k text rest [] h = rw h refl
cells_at-only [] present nulls i k text rest (c ∷ cs) h = absurd h
cells_at-only (t ∷ ts) present nulls i k text rest [] h = absurd h
cells_at-only (t ∷ ts) present nulls i k text rest (c ∷ cs) h =
    let front = h.0 in let back = h.1 in
    let whole : text ++ rest ≡ front ++ (back ++ rest) = rw h.2 (append_assoc front back rest) in
    let first = cell_at-only t (bit present i) (bit nulls k) front (back ++ rest) c h.3 in
    let others = cells_at-only ts present nulls (i + 1) (cond (bit present i) (k + 1) k) back rest cs h.4 in
    let len : length front + length back ≡ length text = rw h.2 (sym (length-append front back)) in
    rw (whole, first, drop_at front (back ++ rest) (length front) refl, others, len) refl

pub image_at-found : (types : List Column) (present bytes : List ℕ) (cells : List Content) (n : ℕ) → image_at types present bytes ≡ Some (cells, n) → (n ≤ length bytes) × IsImage types present cells (take n bytes)
unfolding image_at
image_at-found types present bytes cells n e =
    let m = nulls_len present (length types) in
    let a = guarded (leb m (length bytes)) (option_map (λ x. (x.0, m + x.1)) (cells_at types present (take m bytes) 0 0 (drop m bytes))) (cells, n) e in
    let le : m ≤ length bytes = leb-true _ _ a.0 in
    let b = map_ok (cells_at types present (take m bytes) 0 0 (drop m bytes)) (λ x. (x.0, m + x.1)) (cells, n) a.1 in
    let f = cells_at-found types present (take m bytes) 0 0 (drop m bytes) b.0.0 b.0.1 b.1 in
    subst (λ (x : List Content × ℕ). (x.1 ≤ length bytes) × IsImage types present x.0 (take x.1 bytes)) b.2
    (omega (arith, f.0, length-drop m bytes), (take m bytes, take b.0.1 (drop m bytes), take-add m b.0.1 bytes, omega (arith, length-take m bytes), f.1))

pub image_at-only : (types : List Column) (present text rest : List ℕ) (cells : List Content) → IsImage types present cells text → image_at types present (text ++ rest) ≡ Some (cells, length text)
unfolding image_at
image_at-only types present text rest cells h =
    let nulls = h.0 in let values = h.1 in
    let whole : text ++ rest ≡ nulls ++ (values ++ rest) = rw h.2 (append_assoc nulls values rest) in
    let le : leb (nulls_len present (length types)) (length (text ++ rest)) ≡ true = le-leb _ _ (omega (arith, h.3, ap length whole, length-append nulls (values ++ rest))) in
    let len : nulls_len present (length types) + length values ≡ length text = rw h.2 (omega (arith, h.3, length-append nulls values)) in
    rw (le, whole, ← h.3, take_at nulls (values ++ rest) (length nulls) refl, drop_at nulls (values ++ rest) (length nulls) refl, cells_at-only types present nulls 0 0 values rest cells h.4, h.3, len) refl

-- what one text spells, no other text spells that begins alike
apart : {A : Type 0} (read : List ℕ → Option (A × ℕ)) (v w : A) (a b x y : List ℕ) → read (a ++ x) ≡ Some (v, length a) → read (b ++ y) ≡ Some (w, length b) → a ++ x ≡ b ++ y → (v ≡ w) × (a ≡ b)
apart {A = A} read v w a b x y p q e =
    let pair = same_Some (v, length a) (w, length b) (sym p ∙ ap read e ∙ q) in
    let len : length a ≡ length b = ap (λ (z : A × ℕ). z.1) pair in
    (ap (λ (z : A × ℕ). z.0) pair, sym (take_at a x (length a) refl) ∙ ap (take (length a)) e ∙ take_at b y (length a) (sym len))

pub values-apart : (column : Column) (a b x y : List ℕ) (v w : Content) → Spells column v a → Spells column w b → a ++ x ≡ b ++ y → (v ≡ w) × (a ≡ b)
values-apart column a b x y v w p q e = apart (value_at column) v w a b x y (value_at-only column a x v p) (value_at-only column b y w q) e

pub images-apart : (types : List Column) (present a b x y : List ℕ) (cs ds : List Content) → IsImage types present cs a → IsImage types present ds b → a ++ x ≡ b ++ y → (cs ≡ ds) × (a ≡ b)
images-apart types present a b x y cs ds p q e = apart (image_at types present) cs ds a b x y (image_at-only types present a x cs p) (image_at-only types present b y ds q) e
