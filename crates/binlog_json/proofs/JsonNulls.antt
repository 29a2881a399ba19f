-- The JSON nulls of a change: by the bytes of documents, in the order of the columns' names, and as they are written.
use Rattle.std.proofs.Common.{inl, inr, arith, ◌+◌, ◌≡◌, ℕ, suc, ◌==◌, ◌<◌, ◌≤◌, List, [], ◌∷◌, ◌++◌, Bool, true, false, cond, not, ◌&&◌, Option, Some, None, option_map, Result, Ok, Err, OnOk, codes, map, length, drop, get_or, slice_get, slice_index_or, refl, sym, ap, ◌∙◌, append_assoc, append-nil, eqb-true, true≢false, nat_le}
use Rattle.std.specs.List.{fold, range_with_len}
use Rattle.std.proofs.lemmas.Bool.{cases_lt}
use Rattle.std.proofs.lemmas.List.{drop_all, drop_more, get_or_past}
use Rattle.std.proofs.lemmas.List.Folds.{list_any_at}
use Rattle.std.proofs.lemmas.Option.{get_or_from_slice_get}
use Rattle.json.specs.Print.{escape_byte, quoted}
use Rattle.binlog_documents.specs.Containers.{Container, array_at, container_at, document_at, element_entry, elements_of, member_entries, members_of, object_at, value_at}
use Rattle.binlog_documents.specs.Document as documents
use Rattle.binlog_documents.specs.Document.{Document, array, boolean, double, object, opaque, text}
use Rattle.binlog_documents.specs.Scalars.{◌>>=◌, Reading, counted_at, double_at, literal_at, literal_of, number_at, opaque_at, scalar_at, signed, text_at, unsigned, utf8_text}
use Rattle.binlog_table.specs.Map.{Map}
use Rattle.binlog_table.specs.NameOrder.{IsNameOrder, name_of}
use Rattle.binlog_table.specs.RowImage.{RowImage}
use Rattle.binlog_table.specs.Value as cell
use Rattle.binlog_table.specs.Value.{Content}
use Rattle.binlog_types.specs.ColumnTypes.{types_of}
use Rattle.binlog_types.specs.declared.column_type.ColumnType.{ColumnType}
use Rattle.binlog_feed.specs.Changes.{RowChange, after_of, before_of}
use Rattle.binlog_json.specs.FullLine.{strings, with_json_nulls}
use Rattle.binlog_json.specs.FullValues.{is_json, type_in, unknown_type}
use Rattle.binlog_json.specs.FullWritten.{begun, json_null_text, names_text, null_name, stands_behind}
use Rattle.binlog_json.specs.Images.{cell_in}
use Rattle.binlog_json.specs.Json.{Data, Members, compact_text, member, no_members, null, put, string, items_of, items_text, members_text}
use Rattle.binlog_json.specs.JsonNulls.{has_documents, is_json_null, is_null, is_null_document, json_nulls, names_in, null_columns, nulls_on, put_json_null}
use Rattle.binlog_json.proofs.NameOrders.{list_by, names-listed, put_by}

not_true : (b : Bool) → (b ≡ true → ⊥) → b ≡ false
not_true true never = absurd (never refl)
not_true false never = refl

-- ---- the document null has the type 4 and the value 0, or no bytes

abbrev of_reading : Reading → Bool
of_reading reading = is_null (option_map (λ x. x.0) reading)

record IsOther (reading : Reading) : Type 0 where
  is : of_reading reading ≡ false

either : (test : Bool) (one two : Reading) → IsOther one → IsOther two → IsOther (cond test one two)
either true one two p q = p
either false one two p q = q

none : IsOther None
none = record { is = refl }

made : {A : Type 0} (f : A → Document) (len : A → ℕ) (o : Option A) → ((a : A) → is_null (Some (f a)) ≡ false) → IsOther (option_map (λ a. (f a, len a)) o)
made f len None other = none
made f len (Some a) other = record { is = other a }

bound : {A : Type 0} (o : Option A) (f : A → Reading) → ((a : A) → IsOther (f a)) → IsOther (o >>= f)
bound None f other = none
bound (Some a) f other = other a

one_test : (a : Bool) (d : Document) (width : ℕ) → is_null (Some d) ≡ false → IsOther (cond a (Some (d, width)) None)
one_test true d width other = record { is = other }
one_test false d width other = none

two_tests : (a b : Bool) (bits : ℕ) → IsOther (cond a (cond b (Some (double bits, 8)) None) None)
two_tests true true bits = record { is = refl }
two_tests true false bits = none
two_tests false b bits = none

number : (width : ℕ) (f : ℕ → Document) (bytes : List ℕ) → ((n : ℕ) → is_null (Some (f n)) ≡ false) → IsOther (number_at width f bytes)
unfolding number_at
number width f bytes other = one_test (nat_le width (length bytes)) (f _) width (other _)

a_double : (bytes : List ℕ) → IsOther (double_at bytes)
unfolding double_at
a_double bytes = two_tests (nat_le 8 (length bytes)) _ _

a_text : (bytes : List ℕ) → IsOther (text_at bytes)
unfolding text_at
a_text bytes = bound (counted_at bytes) _ (λ c. made text (λ s. c.1) (utf8_text c.0) (λ s. refl))

an_opaque : (bytes : List ℕ) → IsOther (opaque_at bytes)
unfolding opaque_at
an_opaque [] = none
an_opaque (kind ∷ bytes) = made (λ c. opaque kind c.0) (λ c. c.1 + 1) (counted_at bytes) (λ c. refl)

an_array : (value : ℕ → List ℕ → Reading) (width : ℕ) (bytes : List ℕ) → IsOther (array_at value width bytes)
unfolding array_at
an_array value width bytes = bound (container_at (element_entry width) width bytes) _ (λ c. made array (λ ds. length c.bytes) (elements_of value width c) (λ ds. refl))

an_object : (value : ℕ → List ℕ → Reading) (width : ℕ) (bytes : List ℕ) → IsOther (object_at value width bytes)
unfolding object_at
an_object value width bytes = bound (container_at (member_entries width) width bytes) _ (λ c. made object (λ ms. length c.bytes) (members_of value width c) (λ ms. refl))

abbrev begins_with_0 : List ℕ → Bool
begins_with_0 [] = false
begins_with_0 (byte ∷ bytes) = byte == 0

literal_by : (a b c : Bool) → of_reading (option_map (λ d. (d, 1)) (cond a (Some documents.null) (cond b (Some (boolean true)) (cond c (Some (boolean false)) None)))) ≡ a
literal_by true b c = refl
literal_by false true c = refl
literal_by false false true = refl
literal_by false false false = refl

a_literal : (bytes : List ℕ) → of_reading (literal_at bytes) ≡ begins_with_0 bytes
unfolding literal_at
a_literal [] = refl
a_literal (code ∷ bytes) = literal_by (code == 0) (code == 1) (code == 2)

by_literal : (test : Bool) (bytes : List ℕ) (more : Reading) → IsOther more → of_reading (cond test (literal_at bytes) more) ≡ (test && begins_with_0 bytes)
by_literal true bytes more is = a_literal bytes
by_literal false bytes more is = is.is

scalar_null : (kind : ℕ) (bytes : List ℕ) → of_reading (scalar_at kind bytes) ≡ (kind == 4 && begins_with_0 bytes)
unfolding scalar_at
scalar_null kind bytes =
    by_literal (kind == 4) bytes _
    (either (kind == 5) _ _ (number 2 (signed 2) bytes (λ n. refl))
    (either (kind == 6) _ _ (number 2 unsigned bytes (λ n. refl))
    (either (kind == 7) _ _ (number 4 (signed 4) bytes (λ n. refl))
    (either (kind == 8) _ _ (number 4 unsigned bytes (λ n. refl))
    (either (kind == 9) _ _ (number 8 (signed 8) bytes (λ n. refl))
    (either (kind == 10) _ _ (number 8 unsigned bytes (λ n. refl))
    (either (kind == 11) _ _ (a_double bytes)
    (either (kind == 12) _ _ (a_text bytes)
    (either (kind == 15) _ _ (an_opaque bytes) none)))))))))

by_container : (test : Bool) (n kind : ℕ) (null_there : Bool) (one more : Reading) → (kind == n) ≡ test → (n == 4) ≡ false → IsOther one → of_reading more ≡ (kind == 4 && null_there)
    → of_reading (cond test one more) ≡ (kind == 4 && null_there)
by_container true n kind null_there one more e other is rest = is.is ∙ sym (ap (λ (b : Bool). b && null_there) (ap (λ (k : ℕ). k == 4) (eqb-true kind n e) ∙ other))
by_container false n kind null_there one more e other is rest = rest

value_null : (depth kind : ℕ) (bytes : List ℕ) → of_reading (value_at (suc depth) kind bytes) ≡ (kind == 4 && begins_with_0 bytes)
unfolding value_at
value_null depth kind bytes =
    by_container (kind == 0) 0 kind (begins_with_0 bytes) _ _ refl refl (an_object (value_at depth) 2 bytes)
    (by_container (kind == 1) 1 kind (begins_with_0 bytes) _ _ refl refl (an_object (value_at depth) 4 bytes)
    (by_container (kind == 2) 2 kind (begins_with_0 bytes) _ _ refl refl (an_array (value_at depth) 2 bytes)
    (by_container (kind == 3) 3 kind (begins_with_0 bytes) _ _ refl refl (an_array (value_at depth) 4 bytes) (scalar_null kind bytes))))

no_bytes_null : is_null (document_at []) ≡ true
unfolding document_at
no_bytes_null = refl

bytes_null : (kind : ℕ) (bytes : List ℕ) → is_null (document_at (kind ∷ bytes)) ≡ (kind == 4 && begins_with_0 bytes)
unfolding document_at
bytes_null kind bytes = value_null 99 kind bytes

no_null : (b : Bool) → (b && false) ≡ false
no_null true = refl
no_null false = refl

pub few_bytes : (bytes : List ℕ) (empty : Bool) → length bytes < 2 → empty ≡ (length bytes == 0) → empty ≡ is_null (document_at bytes)
few_bytes [] empty few is = is ∙ sym no_bytes_null
few_bytes (kind ∷ []) empty few is = is ∙ sym (bytes_null kind [] ∙ no_null (kind == 4))
few_bytes (kind ∷ (code ∷ bytes)) empty few is = absurd (omega arith)

two_bytes : (bytes : List ℕ) → 2 ≤ length bytes → is_null (document_at bytes) ≡ (slice_index_or bytes 0 0 == 4 && slice_index_or bytes 1 0 == 0)
two_bytes [] enough = absurd (omega arith)
two_bytes (kind ∷ []) enough = absurd (omega arith)
two_bytes (kind ∷ (code ∷ bytes)) enough = bytes_null kind (code ∷ bytes)

pub literal_bytes : (bytes : List ℕ) → 2 ≤ length bytes → slice_index_or bytes 0 0 ≡ 4 → (slice_index_or bytes 1 0 == 0) ≡ is_null (document_at bytes)
literal_bytes bytes enough is = sym (two_bytes bytes enough ∙ ap (λ (k : ℕ). k == 4 && slice_index_or bytes 1 0 == 0) is)

pub other_bytes : (bytes : List ℕ) → 2 ≤ length bytes → (slice_index_or bytes 0 0 ≡ 4 → ⊥) → (slice_index_or bytes 0 0 == 4) ≡ is_null (document_at bytes)
other_bytes bytes enough other =
    let is : (slice_index_or bytes 0 0 == 4) ≡ false = not_true (slice_index_or bytes 0 0 == 4) (λ e. other (eqb-true (slice_index_or bytes 0 0) 4 e)) in
    is ∙ sym (two_bytes bytes enough ∙ ap (λ (b : Bool). b && slice_index_or bytes 1 0 == 0) is)

-- ---- the columns, in the order of their names

-- the names of those of these columns whose value is the JSON null
abbrev pub nulls_listed : List ℕ → RowImage → List ℕ → List (List ℕ)
nulls_listed side image [] = []
nulls_listed side image (column ∷ columns) = null_name side image column ++ nulls_listed side image columns

turned : (b : Bool) (one two : Members) → cond b one two ≡ cond (not b) two one
turned true one two = refl
turned false one two = refl

abbrev is_other_value : RowImage → ℕ → Bool
is_other_value image column = not (is_json_null image column)

step_at : (b : Bool) (side name : List ℕ) (rest : Members)
    → map (λ (n : List ℕ). side ++ n) (names_in (cond (not b) rest (member name null rest))) ≡ cond b ((side ++ name) ∷ []) [] ++ map (λ (n : List ℕ). side ++ n) (names_in rest)
step_at true side name rest = refl
step_at false side name rest = refl

names_are : (side : List ℕ) (image : RowImage) (columns : List ℕ)
    → map (λ (n : List ℕ). side ++ n) (names_in (list_by (is_other_value image) (λ c. null) image.table.names columns)) ≡ nulls_listed side image columns
names_are side image [] = refl
names_are side image (column ∷ columns) =
    step_at (is_json_null image column) side (name_of image.table.names column) (list_by (is_other_value image) (λ c. null) image.table.names columns)
    ∙ ap (λ (names : List (List ℕ)). null_name side image column ++ names) (names_are side image columns)

pub nulls_ordered : (side : List ℕ) (image : RowImage) (order : List ℕ) → IsNameOrder image.table.names order → nulls_on side (Some image) ≡ nulls_listed side image order
nulls_ordered side image order is =
    ap (λ (step : Members → ℕ → Members). map (λ (n : List ℕ). side ++ n) (names_in (fold step no_members (range_with_len 0 (length image.table.names)))))
    (λ i ms column. turned (is_json_null image column) (put (name_of image.table.names column) null ms) ms i)
    ∙ ap (λ (ms : Members). map (λ (n : List ℕ). side ++ n) (names_in ms)) (names-listed (is_other_value image) (λ c. null) image.table.names order is)
    ∙ names_are side image order

-- ---- a table without columns of JSON

no_json : (types : List ColumnType) (column : ℕ) → has_documents types ≡ false → is_json (slice_index_or types column unknown_type).code ≡ false
no_json types column none = not_true (is_json (slice_index_or types column unknown_type).code) (λ some.
    elim (cases_lt column (length types)) [
      | inl below ↦ true≢false (sym (list_any_at (λ (t : ColumnType). is_json t.code) types column unknown_type below some) ∙ none)
      | inr past ↦ true≢false (sym some ∙ ap (λ (t : ColumnType). is_json t.code) (get_or_past types column unknown_type (omega (arith, past))))
    ])

none_put : (image : RowImage) (ms : Members) (columns : List ℕ) → ((column : ℕ) → is_json_null image column ≡ false) → fold (put_json_null image) ms columns ≡ ms
none_put image ms [] none = refl
none_put image ms (column ∷ columns) none = rw (none column) (none_put image ms columns none)

none_on : (side : List ℕ) (types : List ColumnType) (image : Option RowImage) → ((i : RowImage) → image ≡ Some i → types ≡ types_of i.table.sections) → has_documents types ≡ false → nulls_on side image ≡ []
none_on side types None are none = refl
none_on side types (Some image) are none =
    let no_nulls : (column : ℕ) → is_json_null image column ≡ false = λ column.
    ap (λ (b : Bool). b && is_null_document (cell_in image column)) (ap (λ (ts : List ColumnType). is_json (slice_index_or ts column unknown_type).code) (sym (are image refl)) ∙ no_json types column none) in
    ap (λ (ms : Members). map (λ (n : List ℕ). side ++ n) (names_in ms)) (none_put image no_members (range_with_len 0 (length image.table.names)) no_nulls)

of_table : (change : RowChange) (types : List ColumnType) (cells : Option (List Content)) → types ≡ types_of change.table.sections
    → (i : RowImage) → option_map (λ (c : List Content). record { table = change.table; cells = c }) cells ≡ Some i → types ≡ types_of i.table.sections
of_table change types None are i is = absurd (cc)
of_table change types (Some cells) are i is = are ∙ ap (λ (o : Option RowImage). types_of (table_or change.table o).sections) is
  where
    table_or : Map → Option RowImage → Map
    table_or table None = table
    table_or table (Some image) = image.table

pub none_written : (change : RowChange) (types : List ColumnType) (old : List ℕ) → types ≡ types_of change.table.sections → has_documents types ≡ false → old ≡ old ++ json_null_text (json_nulls change)
none_written change types old are none =
    rw (none_on (codes "after.") types (after_of change) (of_table change types change.row.after are) none, none_on (codes "before.") types (before_of change) (of_table change types change.row.before are) none)
    (sym (append-nil old))

-- ---- names behind one another

stays : (names : List (List ℕ)) → stands_behind true names ≡ true
stays [] = refl
stays (name ∷ names) = refl

stands_more : (later : Bool) (names more : List (List ℕ)) → stands_behind later (names ++ more) ≡ stands_behind (stands_behind later names) more
stands_more later [] more = refl
stands_more later (name ∷ names) more = sym (stays more)

three : (a b c d : List ℕ) → (a ++ (b ++ c)) ++ d ≡ a ++ (b ++ (c ++ d))
three a b c d = append_assoc a (b ++ c) d ∙ ap (λ (l : List ℕ). a ++ l) (append_assoc b c d)

text_true : (names more : List (List ℕ)) → names_text true (names ++ more) ≡ names_text true names ++ names_text true more
text_true [] more = refl
text_true (name ∷ names) more =
    ap (λ (l : List ℕ). codes "," ++ (quoted name ++ l)) (text_true names more) ∙ sym (three (codes ",") (quoted name) (names_text true names) (names_text true more))

text_more : (later : Bool) (names more : List (List ℕ)) → names_text later (names ++ more) ≡ names_text later names ++ names_text (stands_behind later names) more
text_more later [] more = refl
text_more later (name ∷ names) more =
    ap (λ (l : List ℕ). begun later ++ (quoted name ++ l)) (text_true names more) ∙ sym (three (begun later) (quoted name) (names_text true names) (names_text true more))

pub name_written : (image : RowImage) (column : ℕ) (later : Bool) (side name old l1 new empty front whole shown : List ℕ) → is_json_null image column ≡ true → slice_get image.table.names column ≡ Some name
    → l1 ≡ old ++ begun later → empty ≡ [] → front ≡ empty ++ side → whole ≡ front ++ name → shown ≡ whole → new ≡ l1 ++ quoted shown → new ≡ old ++ names_text later (null_name side image column)
name_written image column later side name old l1 new empty front whole shown is named p e f w s n =
    let named_is : name ≡ name_of image.table.names column = sym (get_or_from_slice_get image.table.names column name [] named) in
    let shown_is : shown ≡ side ++ name_of image.table.names column = s ∙ w ∙ ap (λ (l : List ℕ). l ++ name) (f ∙ ap (λ (l : List ℕ). l ++ side) e) ∙ ap (λ (l : List ℕ). side ++ l) named_is in
    let string = quoted (side ++ name_of image.table.names column) in
    rw is (n ∙ ap (λ (l : List ℕ). l ++ quoted shown) p ∙ append_assoc old (begun later) (quoted shown) ∙ ap (λ (l : List ℕ). old ++ (begun later ++ quoted l)) shown_is
    ∙ ap (λ (l : List ℕ). old ++ (begun later ++ l)) (sym (append-nil string)))

-- the next column of the loop
pub text_next : (side : List ℕ) (image : RowImage) (order start line new : List ℕ) (k : ℕ) (later now : Bool) → k < length order → line ++ names_text later (nulls_listed side image (drop k order)) ≡ start
    → new ≡ line ++ names_text later (null_name side image (get_or order k 0)) → now ≡ stands_behind later (null_name side image (get_or order k 0))
    → new ++ names_text now (nulls_listed side image (drop (k + 1) order)) ≡ start
text_next side image order start line new k later now below inv appended then_later =
    let column = get_or order k 0 in
    rw (appended, then_later, append_assoc, ← (text_more later (null_name side image column) (nulls_listed side image (drop (k + 1) order)))) (rw (drop_more order k 0 below) at inv)

pub stands_next : (side : List ℕ) (image : RowImage) (order : List ℕ) (k : ℕ) (later now end : Bool) → k < length order → stands_behind later (nulls_listed side image (drop k order)) ≡ end
    → now ≡ stands_behind later (null_name side image (get_or order k 0)) → stands_behind now (nulls_listed side image (drop (k + 1) order)) ≡ end
stands_next side image order k later now end below inv then_later =
    let column = get_or order k 0 in
    rw (then_later, ← (stands_more later (null_name side image column) (nulls_listed side image (drop (k + 1) order)))) (rw (drop_more order k 0 below) at inv)

pub text_end : (side : List ℕ) (image : RowImage) (order old line : List ℕ) (k : ℕ) (first later : Bool) → length order ≤ k → IsNameOrder image.table.names order
    → line ++ names_text later (nulls_listed side image (drop k order)) ≡ old ++ names_text first (nulls_listed side image order) → line ≡ old ++ names_text first (nulls_on side (Some image))
text_end side image order old line k first later end is inv =
    rw (nulls_ordered side image order is) (sym (append-nil line) ∙ (rw (drop_all k order end) at inv))

pub stands_end : (side : List ℕ) (image : RowImage) (order : List ℕ) (k : ℕ) (first later : Bool) → length order ≤ k → IsNameOrder image.table.names order
    → stands_behind later (nulls_listed side image (drop k order)) ≡ stands_behind first (nulls_listed side image order) → later ≡ stands_behind first (nulls_on side (Some image))
stands_end side image order k first later end is inv =
    rw (nulls_ordered side image order is) (rw (drop_all k order end) at inv)

-- ---- the whole member

abbrev close : Bool → List ℕ
close stands = cond stands (codes "]") []

items_closed : (names : List (List ℕ)) → names_text true names ++ codes "]" ≡ items_text true (items_of (map (λ text. string text) names))
items_closed [] = refl
items_closed (name ∷ names) = three (codes ",") (quoted name) (names_text true names) (codes "]") ∙ ap (λ (l : List ℕ). codes "," ++ (quoted name ++ l)) (items_closed names)

closed : (names : List (List ℕ)) → names_text false names ++ close (stands_behind false names) ≡ json_null_text names
closed [] = refl
closed (name ∷ names) =
    three (codes ",\"json_null\":[") (quoted name) (names_text true names) (codes "]") ∙ ap (λ (l : List ℕ). codes ",\"json_null\":[" ++ (quoted name ++ l)) (items_closed names)

both_closed : (after before : List (List ℕ))
    → names_text false after ++ (names_text (stands_behind false after) before ++ close (stands_behind (stands_behind false after) before)) ≡ json_null_text (after ++ before)
both_closed after before =
    let end = close (stands_behind (stands_behind false after) before) in
    sym (append_assoc (names_text false after) (names_text (stands_behind false after) before) end) ∙ ap (λ (l : List ℕ). l ++ end) (sym (text_more false after before))
    ∙ ap (λ (b : Bool). names_text false (after ++ before) ++ close b) (sym (stands_more false after before)) ∙ closed (after ++ before)

pub nulls_written : (change : RowChange) (old l1 l2 new : List ℕ) (first last : Bool) → l1 ≡ old ++ names_text false (nulls_on (codes "after.") (after_of change)) → first ≡ stands_behind false (nulls_on (codes "after.") (after_of change))
    → l2 ≡ l1 ++ names_text first (nulls_on (codes "before.") (before_of change)) → last ≡ stands_behind first (nulls_on (codes "before.") (before_of change)) → new ≡ l2 ++ close last
    → new ≡ old ++ json_null_text (json_nulls change)
nulls_written change old l1 l2 new first last p f q l r =
    let after = nulls_on (codes "after.") (after_of change) in
    let before = nulls_on (codes "before.") (before_of change) in
    let text = names_text false after in
    let stands = stands_behind false after in
    r ∙ ap (λ (t : List ℕ). t ++ close last) (q ∙ ap (λ (t : List ℕ). t ++ names_text first before) p)
    ∙ ap (λ (b : Bool). ((old ++ text) ++ names_text first before) ++ close b) l
    ∙ ap (λ (b : Bool). ((old ++ text) ++ names_text b before) ++ close (stands_behind b before)) f
    ∙ append_assoc (old ++ text) (names_text stands before) (close (stands_behind stands before)) ∙ append_assoc old text (names_text stands before ++ close (stands_behind stands before))
    ∙ ap (λ (t : List ℕ). old ++ t) (both_closed after before)

-- in front of other members
pub nulls_member : (names : List (List ℕ)) (ms : Members) → json_null_text names ++ members_text true ms ≡ members_text true (with_json_nulls names ms)
unfolding escape_byte
nulls_member [] ms = refl
nulls_member (name ∷ names) ms = append_assoc (codes ",\"json_null\":") (compact_text (strings (name ∷ names))) (members_text true ms)
