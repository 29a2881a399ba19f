-- The values of a key's columns, and the keys of a change.
use Rattle.std.proofs.Common.{◌≡◌, ℕ, ◌+◌, ◌<◌, ◌≤◌, ◌==◌, eqb-true, List, [], ◌∷◌, ◌++◌, length, drop, get_or, append_assoc, Bool, true, false, true≢false, cond, Option, None, Some, option_map, slice_get, refl, sym, subst, ap, ◌∙◌}
use Rattle.std.specs.Prelude.{option_and_then, is_some}
use Rattle.std.proofs.Math.Bool.{or-false}
use Rattle.std.proofs.lemmas.List.{drop_all, drop_more, nil_from_length}
use Rattle.std.proofs.lemmas.Slice.Eq.{bytes_eq-Decides}
use Rattle.std.specs.List.{list_any}
use Rattle.std.specs.Option.{option_or}
use Rattle.std.specs.Str.{bytes_eq}
use Rattle.binlog_json.specs.Json.{Data, array, items_of, compact_text, items_text}
use Rattle.binlog_table.specs.declared.cell.Cell.{Cell}
use Rattle.binlog_table.specs.declared.cell.Cell.TheVariants as cells
use Rattle.binlog_table.specs.RowImage.{RowImage}
use Rattle.binlog_table.specs.Map.{Map}
use Rattle.binlog_table.specs.Value.{Content, view}
use Rattle.binlog_feed.specs.Changes.{RowChange, before_of}
use Rattle.binlog_json.specs.Joining.{comma_if}
use Rattle.binlog_json.specs.Keys.{different_texts, image_key, is_text, key_of, keys_as, value_as, value_in, value_in_either, values_in}
use Rattle.binlog_json.specs.declared.style.Style.{Style}
use Rattle.binlog_json.specs.Written.{text_if}
use Rattle.binlog_json.proofs.ColumnTexts.{absent_is, present_is}

-- ---- the value of a column

pub no_value : (style : Style) (image : RowImage) (column : ℕ) (cell : Cell) → slice_get image.cells column ≡ Some (view cell) → cell ≡ cells.Absent → value_in style image column ≡ None
no_value style image column cell at is = rw (absent_is image column cell at is) refl

pub value_is : (style : Style) (image : RowImage) (column : ℕ) (cell : Cell) → slice_get image.cells column ≡ Some (view cell) → (cell ≡ cells.Absent → ⊥)
    → value_in style image column ≡ Some (value_as style image column)
value_is style image column cell at some = rw (present_is image column cell at some) refl

-- ---- the value of a column in an image, or else in another one

pub first_or : (first second : Option Data) (has : Bool) → has ≡ is_some first → has ≡ true → option_or first second ≡ first
first_or None second has is there = absurd (true≢false (sym there ∙ is))
first_or (Some value) second has is there = refl

pub none_first : (first : Option Data) (has : Bool) → has ≡ is_some first → has ≡ false → first ≡ None
none_first None has is none = refl
none_first (Some value) has is none = absurd (true≢false (sym is ∙ none))

-- ---- the values of a key's columns, one behind another

key_step : (v : Option Data) (rest : Option (List Data)) (text comma new : List ℕ) (later now : Bool) → comma ≡ text ++ comma_if later → new ≡ comma ++ text_if v → now ≡ is_some v → now ≡ true
    → option_map (λ values. new ++ items_text now (items_of values)) rest
    ≡ option_map (λ values. text ++ items_text later (items_of values)) (option_and_then (λ value. option_map (λ values. value ∷ values) rest) v)
key_step None rest text comma new later now c n is found = absurd (true≢false (sym found ∙ is))
key_step (Some value) None text comma new later now c n is found = refl
key_step (Some value) (Some values) text comma new later now c n is found = ap Some (rw (n, c, is) (simp append_assoc))

-- the next column of the loop, which one of the images has
pub key_more : (style : Style) (image : RowImage) (other : Option RowImage) (columns : List ℕ) (k : ℕ) (text comma new : List ℕ) (later now : Bool) (whole : Option (List ℕ)) → k < length columns
    → comma ≡ text ++ comma_if later → new ≡ comma ++ text_if (value_in_either style image other (get_or columns k 0))
    → now ≡ is_some (value_in_either style image other (get_or columns k 0)) → now ≡ true
    → option_map (λ values. text ++ items_text later (items_of values)) (values_in style image other (drop k columns)) ≡ whole
    → option_map (λ values. new ++ items_text now (items_of values)) (values_in style image other (drop (k + 1) columns)) ≡ whole
key_more style image other columns k text comma new later now whole below c n is found inv =
    key_step (value_in_either style image other (get_or columns k 0)) (values_in style image other (drop (k + 1) columns)) text comma new later now c n is found ∙ (rw (drop_more columns k 0 below) at inv)

-- ---- the key of an image

as_array : (values : Option (List Data)) → option_map compact_text (option_map (λ values. array (items_of values)) values) ≡ option_map (λ values. 91 ∷ items_text false (items_of values)) values
as_array None = refl
as_array (Some values) = refl

-- no columns are no key
key_is : (style : Style) (image : RowImage) (other : Option RowImage) (columns : List ℕ) → false ≡ (length columns == 0)
    → option_map compact_text (key_of style image other columns) ≡ option_map (λ values. 91 ∷ items_text false (items_of values)) (values_in style image other columns)
key_is style image other [] some = absurd (true≢false (sym some))
key_is style image other (column ∷ columns) some = as_array (values_in style image other (column ∷ columns))

-- a column that neither image has
pub key_lacks : (style : Style) (image : RowImage) (other : Option RowImage) (columns : List ℕ) (k : ℕ) (start begun text : List ℕ) (later now : Bool) → columns ≡ image.table.key → false ≡ (length columns == 0)
    → k < length columns → start ≡ [] → begun ≡ start ++ 91 ∷ [] → now ≡ is_some (value_in_either style image other (get_or columns k 0)) → now ≡ false
    → option_map (λ values. text ++ items_text later (items_of values)) (values_in style image other (drop k columns))
    ≡ option_map (λ values. begun ++ items_text false (items_of values)) (values_in style image other columns)
    → None ≡ option_map compact_text (image_key style image other)
key_lacks style image other columns k start begun text later now of_key some below empty b has none inv =
    let lacks = none_first (value_in_either style image other (get_or columns k 0)) now has none in
    subst (λ (key : List ℕ). None ≡ option_map compact_text (key_of style image other key)) of_key (rw (key_is style image other columns some) (rw (drop_more columns k 0 below, lacks, b, empty) at inv))

-- behind the last column
pub key_ends : (style : Style) (image : RowImage) (other : Option RowImage) (columns : List ℕ) (k : ℕ) (start begun text new : List ℕ) (later : Bool) → columns ≡ image.table.key → false ≡ (length columns == 0)
    → length columns ≤ k → start ≡ [] → begun ≡ start ++ 91 ∷ [] → new ≡ text ++ 93 ∷ []
    → option_map (λ values. text ++ items_text later (items_of values)) (values_in style image other (drop k columns))
    ≡ option_map (λ values. begun ++ items_text false (items_of values)) (values_in style image other columns)
    → Some new ≡ option_map compact_text (image_key style image other)
key_ends style image other columns k start begun text new later of_key some end empty b n inv =
    rw n (subst (λ (key : List ℕ). Some (text ++ 93 ∷ []) ≡ option_map compact_text (key_of style image other key)) of_key (rw (key_is style image other columns some) (rw (drop_all k columns end, b, empty) at inv)))

-- ---- a key among those of both rows

second_of : (same : Bool) (key first second : List ℕ) → (same ≡ true → bytes_eq first key ≡ bytes_eq second key) → bytes_eq first key ≡ false
    → list_any (λ text. bytes_eq text key) (cond same (first ∷ []) (first ∷ (second ∷ []))) ≡ bytes_eq second key
second_of true key first second alike none = or-false (bytes_eq first key) ∙ alike refl
second_of false key first second alike none = rw none (or-false (bytes_eq second key))

-- a key that the first text isn't
pub is_second : (key : List ℕ) (first second : Option (List ℕ)) → is_text key first ≡ false
    → list_any (λ text. bytes_eq text key) (different_texts first second) ≡ is_text key second
is_second key None None none = refl
is_second key None (Some second) none = or-false (bytes_eq second key)
is_second key (Some first) None none = rw none refl
is_second key (Some first) (Some second) none =
    second_of (bytes_eq first second) key first second (λ same. ap (λ text. bytes_eq text key) ((bytes_eq-Decides first second).0 same)) none

-- ---- a table without a key

no_key_of : (style : Style) (table : Map) (cells : Option (List Content)) (other : Option RowImage) → table.key ≡ []
    → option_and_then (λ image. image_key style image other) (option_map (λ cells. record { table = table; cells = cells }) cells) ≡ None
no_key_of style table None other none = refl
no_key_of style table (Some cells) other none = ap (λ (key : List ℕ). key_of style (record { table = table; cells = cells }) other key) none

-- no change of such a table has a key
pub no_keys : (style : Style) (key : List ℕ) (c : RowChange) (columns : List ℕ) → columns ≡ c.table.key → true ≡ (length columns == 0)
    → list_any (λ text. bytes_eq text key) (keys_as style c) ≡ false
no_keys style key c columns of_key none =
    let empty : c.table.key ≡ [] = sym of_key ∙ nil_from_length columns (eqb-true (length columns) 0 (sym none)) in
    rw (no_key_of style c.table c.row.before None empty, no_key_of style c.table c.row.after (before_of c) empty) refl
