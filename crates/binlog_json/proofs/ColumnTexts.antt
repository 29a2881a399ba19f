-- The texts of an image's columns, in the order of their names.
use Rattle.std.proofs.Common.{◌≡◌, ℕ, ◌+◌, ◌<◌, ◌≤◌, List, [], ◌∷◌, ◌++◌, Bool, true, false, cond, not, ◌||◌, length, drop, get_or, slice_get, Some, append_assoc, refl, ap, ◌∙◌}
use Rattle.std.proofs.lemmas.List.{drop_all, drop_more, get_or_past}
use Rattle.std.proofs.lemmas.Option.{get_or_from_slice_get}
use Rattle.json.specs.Print.{quoted}
use Rattle.binlog_json.specs.Json.{Data, Members, member, compact_text, members_text}
use Rattle.binlog_table.specs.declared.cell.Cell.{Cell}
use Rattle.binlog_table.specs.declared.cell.Cell.TheVariants as cells
use Rattle.binlog_table.specs.MapWords.{value_names_in}
use Rattle.binlog_table.specs.NameOrder.{IsNameOrder, name_of}
use Rattle.binlog_table.specs.RowImage.{RowImage}
use Rattle.binlog_table.specs.Value.{view, absent}
use Rattle.binlog_json.specs.Images.{cell_in, value_data, image_members, members_by}
use Rattle.binlog_json.specs.Joining.{comma_if}
use Rattle.binlog_json.specs.Listed.{listed, listed_by}
use Rattle.binlog_json.specs.Values.{content_data, is_absent}
use Rattle.binlog_json.specs.Written.{member_text, column_text, column_text_by}
use Rattle.binlog_json.proofs.NameOrders.{members-listed}

present_at : (c : Cell) → (c ≡ cells.Absent → ⊥) → is_absent (view c) ≡ false
present_at cells.Absent h = absurd (h refl)
present_at other h = refl

-- a column that the image has no cell for is absent
pub past_is_absent : (image : RowImage) (column : ℕ) → length image.cells ≤ column → is_absent (cell_in image column) ≡ true
past_is_absent image column h = ap is_absent (get_or_past image.cells column absent h)

pub absent_is : (image : RowImage) (column : ℕ) (cell : Cell) → slice_get image.cells column ≡ Some (view cell) → cell ≡ cells.Absent → is_absent (cell_in image column) ≡ true
absent_is image column cell at is = ap is_absent (get_or_from_slice_get image.cells column (view cell) absent at ∙ ap view is)

pub present_is : (image : RowImage) (column : ℕ) (cell : Cell) → slice_get image.cells column ≡ Some (view cell) → (cell ≡ cells.Absent → ⊥) → is_absent (cell_in image column) ≡ false
present_is image column cell at some = ap is_absent (get_or_from_slice_get image.cells column (view cell) absent at) ∙ present_at cell some

-- the text of a present column
pub column_is_by : (f : ℕ → Data) (value : Data) (later : Bool) (image : RowImage) (column : ℕ) (cell : Cell) → slice_get image.cells column ≡ Some (view cell) → (cell ≡ cells.Absent → ⊥) → f column ≡ value
    → column_text_by f later image column ≡ comma_if later ++ (quoted (name_of image.table.names column) ++ (58 ∷ compact_text value))
column_is_by f value later image column cell at some is = rw (get_or_from_slice_get image.cells column (view cell) absent at, present_at cell some, is) refl

pub column_is : (later : Bool) (image : RowImage) (column : ℕ) (cell : Cell) → slice_get image.cells column ≡ Some (view cell) → (cell ≡ cells.Absent → ⊥)
    → column_text later image column ≡ comma_if later ++ (quoted (name_of image.table.names column) ++ (58 ∷ compact_text (content_data (value_names_in image.table column) (view cell))))
column_is later image column cell at some = rw (get_or_from_slice_get image.cells column (view cell) absent at, present_at cell some) refl

step_at : (b later : Bool) (name : List ℕ) (d : Data) (rest : Members)
    → members_text later (cond b rest (member name d rest)) ≡ cond b [] (comma_if later ++ member_text name d) ++ members_text (not b || later) rest
step_at true later name d rest = refl
step_at false later name d rest = simp append_assoc

-- the next column of the loop
pub members_more_by : (f : ℕ → Data) (image : RowImage) (order start out new : List ℕ) (k : ℕ) (later now : Bool) → k < length order
    → out ++ members_text later (listed_by f image (drop k order)) ≡ start → new ≡ out ++ column_text_by f later image (get_or order k 0)
    → now ≡ (not (is_absent (cell_in image (get_or order k 0))) || later)
    → new ++ members_text now (listed_by f image (drop (k + 1) order)) ≡ start
members_more_by f image order start out new k later now below inv appended then_later =
    let column = get_or order k 0 in
    let step = step_at (is_absent (cell_in image column)) later (name_of image.table.names column) (f column) (listed_by f image (drop (k + 1) order)) in
    rw (appended, then_later, append_assoc, ← step) (rw (drop_more order k 0 below) at inv)

pub members_end_by : (f : ℕ → Data) (image : RowImage) (order old start out new : List ℕ) (k : ℕ) (later : Bool) → out ++ members_text later (listed_by f image (drop k order)) ≡ start ++ members_text false (listed_by f image order)
    → length order ≤ k → start ≡ old ++ 123 ∷ [] → new ≡ out ++ 125 ∷ [] → IsNameOrder image.table.names order → new ≡ old ++ (123 ∷ members_text false (members_by f image))
members_end_by f image order old start out new k later inv end begun closed is =
    rw (closed, members-listed f image order is) ((rw (drop_all k order end, begun) at inv) ∙ append_assoc old (123 ∷ []) _)

pub members_more : (image : RowImage) (order start out new : List ℕ) (k : ℕ) (later now : Bool) → k < length order
    → out ++ members_text later (listed image (drop k order)) ≡ start → new ≡ out ++ column_text later image (get_or order k 0)
    → now ≡ (not (is_absent (cell_in image (get_or order k 0))) || later)
    → new ++ members_text now (listed image (drop (k + 1) order)) ≡ start
members_more image = members_more_by (value_data image) image

pub members_end : (image : RowImage) (order old start out new : List ℕ) (k : ℕ) (later : Bool) → out ++ members_text later (listed image (drop k order)) ≡ start ++ members_text false (listed image order)
    → length order ≤ k → start ≡ old ++ 123 ∷ [] → new ≡ out ++ 125 ∷ [] → IsNameOrder image.table.names order → new ≡ old ++ (123 ∷ members_text false (image_members image))
members_end image = members_end_by (value_data image) image
