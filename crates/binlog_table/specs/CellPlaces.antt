-- Where the cells of an image lie.
use Rattle.std.specs.Prelude.{◌≡◌, ℕ, ◌+◌, ◌≤◌, List, [], ◌∷◌, length, take, drop, Option, Some, None, IsSome, IfSome, if◌then◌else◌, ⊤}
use Rattle.std.specs.Coded.{Unit-prop, le_prop, Coded-set, coded_bool, coded_ℕ}
use Rattle.binlog_table.specs.declared.column.Column.{Column}
use Rattle.binlog_table.specs.declared.cell_places.CellPlace.{CellPlace}
use Rattle.binlog_table.specs.declared.placed_rows.RowPlaces.{RowPlaces}
use Rattle.binlog_table.specs.declared.rows.RowSpan.{RowSpan}
use Rattle.binlog_table.specs.declared.rows_head.Part.{Part}
use Rattle.binlog_table.specs.declared.rows_head.RowsHead.{RowsHead}
use Rattle.binlog_table.specs.RowsBody.{part_of}
use Rattle.binlog_table.specs.Value.{Content, null}
use Rattle.binlog_table.specs.Image.{bit, cell_at, nulls_len}

abbrev pub content_in : Option (Content × ℕ) → Content
content_in None = null
content_in (Some x) = x.0

-- what stands at a place of these values
abbrev pub read_from : Column → List ℕ → CellPlace → Option (Content × ℕ)
read_from column values place = cell_at column place.is_present place.is_null (drop place.start values)

abbrev pub cells_from : List Column → List ℕ → List CellPlace → List Content
cells_from [] values places = []
cells_from (column ∷ columns) values [] = []
cells_from (column ∷ columns) values (place ∷ places) = content_in (read_from column values place) ∷ cells_from columns values places

-- how many bytes a cell takes that was read
abbrev pub len_of : Option (Content × ℕ) → ℕ
len_of None = 0
len_of (Some x) = x.1

-- from a place on, up to its end, a cell can be read
abbrev pub IsPlace : Column → List ℕ → CellPlace → Type 0
IsPlace column values place =
    IsSome (read_from column values place) × (place.end ≡ place.start + len_of (read_from column values place)) × (place.end ≤ length values)

-- each column has a place at which its cell can be read
abbrev pub ArePlaces : List Column → List ℕ → List CellPlace → Type 0
ArePlaces [] values places = ⊤
ArePlaces (column ∷ columns) values [] = ⊥
ArePlaces (column ∷ columns) values (place ∷ places) = IsPlace column values place × ArePlaces columns values places

-- The places are those of the cells that stand behind `start`, of which the first is column i and number k of those that are present.
abbrev pub Fits : List Column → List ℕ → List ℕ → ℕ → ℕ → ℕ → List ℕ → List CellPlace → Type 0
Fits [] present nulls i k start values places = ⊤
Fits (column ∷ columns) present nulls i k start values [] = ⊥
Fits (column ∷ columns) present nulls i k start values (place ∷ places) =
    (place.is_present ≡ bit present i) × (place.is_null ≡ bit nulls k) × (place.start ≡ start) × IsPlace column values place
    × Fits columns present nulls (i + 1) (if bit present i then k + 1 else k) place.end values places

-- the places are those of the cells of an image at a place of a body, under the bitmap of its present columns there
abbrev pub HasPlaces : List Column → List ℕ → Part → ℕ → List CellPlace → Type 0
HasPlaces columns body bitmap place places =
    let n = nulls_len (part_of body bitmap) (length columns) in
    Fits columns (part_of body bitmap) (take n (drop place body)) 0 0 (place + n) body places

-- The places are those of the cells of a row at a span, image by image.
abbrev pub HavePlaces : RowsHead → List Column → List ℕ → RowSpan → RowPlaces → Type 0
HavePlaces head columns body span places =
    IfSome head.before (λ p. HasPlaces columns body p span.before places.before.items) × IfSome head.after (λ p. HasPlaces columns body p span.after places.after.items)

-- ---- there is at most one proof of each, so that a struct may keep it

IsPlace-prop : (column : Column) (values : List ℕ) (place : CellPlace) → IsProp (IsPlace column values place)
IsPlace-prop column values place a b = λ i. (Coded-set coded_bool _ _ a.0 b.0 i, Coded-set coded_ℕ _ _ a.1 b.1 i, le_prop a.2 b.2 i)

Fits-prop : (columns : List Column) (present nulls : List ℕ) (i k start : ℕ) (values : List ℕ) (places : List CellPlace) → IsProp (Fits columns present nulls i k start values places)
Fits-prop [] present nulls i k start values places a b = Unit-prop a b
Fits-prop (column ∷ columns) present nulls i k start values [] a b = absurd a
Fits-prop (column ∷ columns) present nulls i k start values (place ∷ places) a b = λ j. (
  Coded-set coded_bool _ _ a.0 b.0 j,
  Coded-set coded_bool _ _ a.1 b.1 j,
  Coded-set coded_ℕ _ _ a.2 b.2 j,
  IsPlace-prop column values place a.3 b.3 j,
  Fits-prop columns present nulls (i + 1) (if bit present i then k + 1 else k) place.end values places a.4 b.4 j,
)

If-prop : (bitmap : Option Part) (P : Part → Type 0) → ((p : Part) → IsProp (P p)) → IsProp (IfSome bitmap P)
If-prop None P h = Unit-prop
If-prop (Some p) P h = h p

pub HavePlaces-prop : (head : RowsHead) (columns : List Column) (body : List ℕ) (span : RowSpan) (places : RowPlaces) → IsProp (HavePlaces head columns body span places)
HavePlaces-prop head columns body span places a b = λ i. (
  If-prop head.before _ (λ p. Fits-prop columns (part_of body p) _ 0 0 _ body places.before.items) a.0 b.0 i,
  If-prop head.after _ (λ p. Fits-prop columns (part_of body p) _ 0 0 _ body places.after.items) a.1 b.1 i,
)
