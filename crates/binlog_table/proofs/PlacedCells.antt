-- The places of an image's cells, one after another.
use Rattle.std.proofs.Common.{◌≡◌, ℕ, zero, suc, ◌+◌, ◌-◌, ◌<◌, ◌≤◌, Bool, true, false, cond, leb, List, [], ◌∷◌, ◌++◌, length, get_or, take, drop, set, append_assoc, append-nil, Option, Some, None, slice_get, refl, sym, ap, subst, ◌∙◌, arith}
use Rattle.std.proofs.lemmas.List.{at_drop_more, at_drop_all, drop-drop, take_all, take_more_set}
use Rattle.binlog_table.specs.declared.column.Column.{Column}
use Rattle.binlog_table.specs.declared.cell_places.CellPlace.{CellPlace}
use Rattle.binlog_table.specs.Value.{Content, absent, null}
use Rattle.binlog_table.specs.declared.rows_head.Part.{Part}
use Rattle.binlog_table.specs.Image.{Spells, bit, set_bits, value_at, cell_at, cells_at, image_at, nulls_len, cells_of, IsRead}
use Rattle.binlog_table.specs.Rows.{image_in}
use Rattle.binlog_table.specs.RowsBody.{part_of}
use Rattle.std.specs.Prelude.{IsSome, is_some}
use Rattle.binlog_table.specs.CellPlaces.{content_in, len_of, read_from, cells_from, IsPlace, ArePlaces, Fits, HasPlaces}
use Rattle.binlog_table.proofs.CellWalk.{cells-turn, len_in, some-by_len, First, first_of_all, read_behind}
use Rattle.binlog_table.proofs.SetBits.{bit-all_set}
use Rattle.binlog_table.proofs.ImageReadings.{value_at-found}

abbrev pub rest_from : List Column → ℕ → List ℕ → List ℕ → ℕ → List ℕ → Content × ℕ → Option (List Content × ℕ)
rest_from columns i present nulls k bytes c = cells_at (drop (i + 1) columns) present nulls (i + 1) (cond (bit present i) (k + 1) k) (drop c.1 bytes)

-- the next column can be read
pub first_read : (columns : List Column) (i k : ℕ) (present nulls : List ℕ) (t : Column) (bytes : List ℕ) → i < length columns → t ≡ get_or columns i t
    → IsRead (cells_at (drop i columns) present nulls i k bytes) → First (cell_at t (bit present i) (bit nulls k) bytes) (rest_from columns i present nulls k bytes)
first_read columns i k present nulls t bytes lt is read =
    first_of_all (cell_at t (bit present i) (bit nulls k) bytes) (rest_from columns i present nulls k bytes) (subst IsRead (cells-turn columns i present nulls i k t bytes lt is) read)

-- the places of the columns from i on, from those behind column i
pub fits_more : (columns : List Column) (i k start n : ℕ) (present nulls values : List ℕ) (t : Column) (p : CellPlace) (more : List CellPlace) (c : Content) → i < length columns → t ≡ get_or columns i t
    → cell_at t (bit present i) (bit nulls k) (drop start values) ≡ Some (c, n)
    → p.is_present ≡ bit present i → p.is_null ≡ bit nulls k → p.start ≡ start → p.end ≡ start + n → start + n ≤ length values
    → Fits (drop (i + 1) columns) present nulls (i + 1) (cond (bit present i) (k + 1) k) (start + n) values more
    → Fits (drop i columns) present nulls i k start values (p ∷ more)
fits_more columns i k start n present nulls values t p more c lt is cell e1 e2 e3 e4 within h =
    let here : read_from t values p ≡ Some (c, n) = rw (e1, e2, e3) cell in
    let first : drop i columns ≡ t ∷ drop (i + 1) columns = at_drop_more (λ (ts : List Column). ts) columns i t lt ∙ ap (λ (u : Column). u ∷ drop (i + 1) columns) (sym is) in
    let len_is : len_of (read_from t values p) ≡ n = ap len_of here in
    let place : IsPlace t values p = (ap is_some here, omega (arith, e3, e4, len_is), omega (arith, e4, within)) in
    let rest = subst (λ m. Fits (drop (i + 1) columns) present nulls (i + 1) (cond (bit present i) (k + 1) k) m values more) (sym e4) h in
    subst (λ ts. Fits ts present nulls i k start values (p ∷ more)) (sym first) (e1, e2, e3, place, rest)

-- the same where each column is present
pub present_more : (columns : List Column) (i start n : ℕ) (present nulls values : List ℕ) (t : Column) (p : CellPlace) (more : List CellPlace) (is_null : Bool) → i < length columns → t ≡ get_or columns i t
    → set_bits present (length columns) ≡ length columns → is_null ≡ bit nulls i → Some n ≡ len_in (cell_at t true is_null (drop start values))
    → p.is_present ≡ true → p.is_null ≡ is_null → p.start ≡ start → p.end ≡ start + n → start + n ≤ length values
    → Fits (drop (i + 1) columns) present nulls (i + 1) (i + 1) (start + n) values more
    → Fits (drop i columns) present nulls i i start values (p ∷ more)
present_more columns i start n present nulls values t p more is_null lt is all same value e1 e2 e3 e4 within h =
    let set : bit present i ≡ true = bit-all_set present (length columns) i lt all in
    let cell : (c : Content) × (cell_at t (bit present i) (bit nulls i) (drop start values) ≡ Some (c, n)) = rw (set, ← same) (some-by_len (cell_at t true is_null (drop start values)) n value) in
    let rest = subst (λ (b : Bool). Fits (drop (i + 1) columns) present nulls (i + 1) (cond b (i + 1) i) (start + n) values more) (sym set) h in
    fits_more columns i i start n present nulls values t p more cell.0 lt is cell.1 (e1 ∙ sym set) (e2 ∙ same) e3 e4 within rest

-- a place that is written where the next one stands, before others
pub put_next : (places : List CellPlace) (i : ℕ) (p : CellPlace) (more : List CellPlace) → i < length places → take (i + 1) (set places i p) ++ more ≡ take i places ++ (p ∷ more)
put_next places i p more lt = ap (λ (l : List CellPlace). l ++ more) (take_more_set places i p lt) ∙ append_assoc (take i places) (p ∷ []) more

-- behind the last column all places are written
pub put_all : (columns : List Column) (present nulls : List ℕ) (start : ℕ) (values : List ℕ) (places : List CellPlace) (i : ℕ) → length places ≤ i → Fits columns present nulls 0 0 start values (take i places ++ [])
    → Fits columns present nulls 0 0 start values places
put_all columns present nulls start values places i le h =
    subst (λ (l : List CellPlace). Fits columns present nulls 0 0 start values l) (append-nil (take i places) ∙ take_all i places le) h

-- behind the last column nothing is left
pub fits_none : (columns : List Column) (i k start : ℕ) (present nulls values : List ℕ) → length columns ≤ i → Fits (drop i columns) present nulls i k start values []
fits_none columns i k start present nulls values le =
    subst (λ ts. Fits ts present nulls i k start values []) (sym (at_drop_all (λ (ts : List Column). ts) columns i le)) tt

-- each of the places is one
pub fits_are : (columns : List Column) (present nulls : List ℕ) (i k start : ℕ) (values : List ℕ) (places : List CellPlace) → Fits columns present nulls i k start values places → ArePlaces columns values places
fits_are [] present nulls i k start values places h = tt
fits_are (c ∷ cs) present nulls i k start values [] h = absurd h
fits_are (c ∷ cs) present nulls i k start values (p ∷ ps) h = (h.3, fits_are cs present nulls (i + 1) (cond (bit present i) (k + 1) k) p.end values ps h.4)

-- the cells at the places are those that are read one after another
pub fits_same : (columns : List Column) (present nulls : List ℕ) (i k start : ℕ) (values : List ℕ) (places : List CellPlace) → IsRead (cells_at columns present nulls i k (drop start values)) → Fits columns present nulls i k start values places
    → cells_of (cells_at columns present nulls i k (drop start values)) ≡ cells_from columns values places
unfolding cells_at
fits_same [] present nulls i k start values places read h = refl
fits_same (c ∷ cs) present nulls i k start values [] read h = absurd h
fits_same (c ∷ cs) present nulls i k start values (p ∷ ps) read h =
    let next = cells_at cs present nulls (i + 1) (cond (bit present i) (k + 1) k) in
    let f = first_of_all (cell_at c (bit present i) (bit nulls k) (drop start values)) (λ x. next (drop x.1 (drop start values))) read in
    let at : read_from c values p ≡ Some (f.cell, f.len) = rw (h.0, h.1, h.2) f.is in
    let ends : start + f.len ≡ p.end = omega (arith, h.2, h.3.1, ap len_of at) in
    let moved : next (drop f.len (drop start values)) ≡ next (drop p.end values) = ap next (drop-drop f.len start values) ∙ ap (λ m. next (drop m values)) ends in
    f.cells ∙ ap (λ l. f.cell ∷ l) (ap cells_of moved ∙ fits_same cs present nulls (i + 1) (cond (bit present i) (k + 1) k) p.end values ps (subst IsRead moved f.read) h.4) ∙ ap (λ o. content_in o ∷ cells_from cs values ps) (sym at)

-- the place of a column, and its cell
pub record At (columns : List Column) (values : List ℕ) (places : List CellPlace) (i : ℕ) (t : Column) (p : CellPlace) : Type 0 where
  pub place : IsPlace t values p
  pub cell : slice_get (cells_from columns values places) i ≡ Some (content_in (read_from t values p))

pub places_count : (columns : List Column) (values : List ℕ) (places : List CellPlace) → ArePlaces columns values places → length columns ≤ length places
places_count [] values places h = omega arith
places_count (c ∷ cs) values [] h = absurd h
places_count (c ∷ cs) values (p ∷ ps) h = let rest = places_count cs values ps h.1 in omega arith

pub place_at : (columns : List Column) (values : List ℕ) (places : List CellPlace) (i : ℕ) (t : Column) (p : CellPlace) → ArePlaces columns values places → i < length columns
    → t ≡ get_or columns i t → p ≡ get_or places i p → At columns values places i t p
place_at [] values places i t p h lt is at = absurd (omega arith)
place_at (c ∷ cs) values [] i t p h lt is at = absurd h
place_at (c ∷ cs) values (q ∷ ps) zero t p h lt is at = subst (λ u. At (c ∷ cs) values (q ∷ ps) zero u p) (sym is) (subst (λ r. At (c ∷ cs) values (q ∷ ps) zero c r) (sym at) (record { place = h.0; cell = refl }))
place_at (c ∷ cs) values (q ∷ ps) (suc i) t p h lt is at =
    let rest = place_at cs values ps i t p h.1 (omega arith) is at in
    record { place = rest.place; cell = rest.cell }

-- the text of a value that is present and isn't null: it has the extent of its column, and means what stands there
pub record IsText (column : Column) (values : List ℕ) (place : CellPlace) : Type 0 where
  pub cell : Content
  pub spelled : Spells column cell (take (place.end - place.start) (drop place.start values))
  pub read : content_in (read_from column values place) ≡ cell

pub text_is : (column : Column) (values : List ℕ) (place : CellPlace) → place.is_present ≡ true → place.is_null ≡ false → IsPlace column values place → IsText column values place
unfolding cell_at
text_is column values place present some h = by (read_from column values place) refl h.0
  where
    by : (o : Option (Content × ℕ)) → read_from column values place ≡ o → IsSome o → IsText column values place
    by None e is = absurd cc
    by (Some x) e is =
        let at : value_at column (drop place.start values) ≡ Some x = rw (present, some) at e in
        let ends : place.end ≡ place.start + x.1 = h.1 ∙ ap (λ o. place.start + len_of o) e in
        let size : place.end - place.start ≡ x.1 = omega arith in
        record { cell = x.0; spelled = rw size (value_at-found column (drop place.start values) x.0 x.1 at).1; read = ap content_in e }

pub absent_is : (column : Column) (values : List ℕ) (place : CellPlace) → place.is_present ≡ false → content_in (read_from column values place) ≡ absent
unfolding cell_at
absent_is column values place e = rw e refl

pub null_is : (column : Column) (values : List ℕ) (place : CellPlace) → place.is_present ≡ true → place.is_null ≡ true → content_in (read_from column values place) ≡ null
unfolding cell_at
null_is column values place e n = rw (e, n) refl

-- an image whose places were noted has the cells that stand there
pub image_placed : (columns : List Column) (body : List ℕ) (bitmap : Part) (place : ℕ) (places : List CellPlace) → IsRead (image_in columns body bitmap place) → HasPlaces columns body bitmap place places
    → cells_from columns body places ≡ cells_of (image_in columns body bitmap place)
unfolding image_at
image_placed columns body bitmap place places read h =
    let n = nulls_len (part_of body bitmap) (length columns) in
    let nulls = take n (drop place body) in
    let behind = read_behind (leb n (length (drop place body))) n (cells_at columns (part_of body bitmap) nulls 0 0 (drop n (drop place body))) read in
    let moved : cells_at columns (part_of body bitmap) nulls 0 0 (drop n (drop place body)) ≡ cells_at columns (part_of body bitmap) nulls 0 0 (drop (place + n) body) = ap (λ (b : List ℕ). cells_at columns (part_of body bitmap) nulls 0 0 b) (drop-drop n place body) in
    sym (behind.1 ∙ ap cells_of moved ∙ fits_same columns (part_of body bitmap) nulls 0 0 (place + n) body places (subst IsRead moved behind.0) h)
