-- The types of a table's columns, as they are written.
use Rattle.std.proofs.Common.{◌≡◌, ◌++◌, ◌∷◌, ℕ, ◌+◌, ◌<◌, ◌≤◌, List, [], Bool, true, false, Some, Result, Ok, Err, OnOk, drop, get_or, length, slice_get, slice_index_or, append_assoc, ap, sym, ◌∙◌, arith}
use Rattle.std.specs.List.{range_with_len}
use Rattle.std.proofs.lemmas.List.{drop_all, drop_more}
use Rattle.std.proofs.lemmas.List.FromFn.{get_or-range_with_len, length-range_with_len}
use Rattle.std.proofs.lemmas.Option.{get_or_from_slice_get}
use Rattle.json.specs.Print.{quoted}
use Rattle.binlog_table.specs.Map.{Map}
use Rattle.binlog_table.specs.NameOrder.{name_of}
use Rattle.binlog_types.specs.declared.column_type.ColumnType.{ColumnType}
use Rattle.binlog_types.specs.ColumnTypes.{types_of}
use Rattle.binlog_json.specs.FullValues.{unknown_type}
use Rattle.binlog_json.specs.FullWritten.{type_member}
use Rattle.binlog_json.specs.Joining.{comma_if}
use Rattle.binlog_json.specs.Json.{Data, Members, member, members_text}
use Rattle.binlog_json.specs.TypeTexts.{type_of_column, type_text, types_of_columns}
use Rattle.binlog_json.specs.Written.{member_text}

joined : (l2 name value : List ℕ) → (l2 ++ (name ++ 58 ∷ [])) ++ value ≡ l2 ++ (name ++ (58 ∷ value))
joined l2 name value = simp append_assoc

pub type_written : {E : Type 0} (r : Result (Unit {0}) E) (table : Map) (column : ℕ) (old l1 new name empty text shown : List ℕ) (t : ColumnType) → slice_get table.names column ≡ Some name → empty ≡ []
    → t ≡ slice_index_or (types_of table.sections) column unknown_type → l1 ≡ old ++ (quoted name ++ 58 ∷ []) → text ≡ empty ++ type_text t → shown ≡ text → OnOk r (new ≡ l1 ++ quoted shown)
    → OnOk r (new ≡ old ++ type_member table column)
type_written (Err x) table column old l1 new name empty text shown t named e is q s u w = tt
type_written (Ok x) table column old l1 new name empty text shown t named e is q s u w =
    let named_is : name ≡ name_of table.names column = sym (get_or_from_slice_get table.names column name [] named) in
    let shown_is : shown ≡ type_text (slice_index_or (types_of table.sections) column unknown_type) = u ∙ s ∙ ap (λ (front : List ℕ). front ++ type_text t) e ∙ ap type_text is in
    let parts : new ≡ old ++ (quoted name ++ (58 ∷ quoted shown)) = w ∙ rw q (joined old (quoted name) (quoted shown)) in
    parts ∙ ap (λ (n : List ℕ). old ++ (quoted n ++ (58 ∷ quoted shown))) named_is ∙ ap (λ (v : List ℕ). old ++ (quoted (name_of table.names column) ++ (58 ∷ quoted v))) shown_is

-- the types from a column on
abbrev pub types_from : Map → ℕ → Members
types_from table column = types_of_columns table (drop column (range_with_len 0 (length table.names)))

step : (text name : List ℕ) (later : Bool) (d : Data) (rest : Members) → ((text ++ comma_if later) ++ member_text name d) ++ members_text true rest ≡ text ++ members_text later (member name d rest)
step text name later d rest = simp append_assoc

pub types_more : (table : Map) (column : ℕ) (text comma new total : List ℕ) (later : Bool) → column < length table.names → comma ≡ text ++ comma_if later → new ≡ comma ++ type_member table column
    → text ++ members_text later (types_from table column) ≡ total → new ++ members_text true (types_from table (column + 1)) ≡ total
types_more table column text comma new total later below c w inv =
    let all = range_with_len 0 (length table.names) in
    let within : column < length all = omega (arith, length-range_with_len 0 (length table.names), below) in
    let same : 0 + column ≡ column = omega arith in
    let at : get_or all column 0 ≡ column = get_or-range_with_len 0 (length table.names) column 0 below ∙ same in
    rw (w, c) (step text (name_of table.names column) later (type_of_column table column) (types_from table (column + 1)) ∙ (rw (drop_more all column 0 within, at) at inv))

pub types_end : (table : Map) (old start text new : List ℕ) (column : ℕ) (later : Bool) → length table.names ≤ column → start ≡ old ++ 123 ∷ [] → text ++ members_text later (types_from table column) ≡ start ++ members_text false (types_from table 0)
    → new ≡ text ++ 125 ∷ [] → new ≡ old ++ (123 ∷ members_text false (types_from table 0))
types_end table old start text new column later past begun inv closed =
    let all = range_with_len 0 (length table.names) in
    let none : length all ≤ column = omega (arith, length-range_with_len 0 (length table.names), past) in
    rw closed ((rw (drop_all column all none, begun) at inv) ∙ append_assoc old (123 ∷ []) _)
