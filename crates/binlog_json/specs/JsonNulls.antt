-- The columns of a change whose document is the JSON null. A full line has null for it, as it has for NULL.
use Rattle.std.specs.Prelude.{ℕ, List, [], ◌∷◌, ◌++◌, map, length, Bool, ◌&&◌, Option, Some, None, codes, if◌then◌else◌}
use Rattle.std.specs.List.{fold, range_with_len, list_any}
use Rattle.binlog_documents.specs.Containers.{document_at}
use Rattle.binlog_documents.specs.Document as documents
use Rattle.binlog_documents.specs.Document.{Document}
use Rattle.binlog_table.specs.NameOrder.{name_of}
use Rattle.binlog_table.specs.RowImage.{RowImage}
use Rattle.binlog_table.specs.Value as cell
use Rattle.binlog_table.specs.Value.{Content}
use Rattle.binlog_types.specs.declared.column_type.ColumnType.{ColumnType}
use Rattle.binlog_feed.specs.Changes.{RowChange, after_of, before_of}
use Rattle.binlog_json.specs.FullValues.{is_json, type_in}
use Rattle.binlog_json.specs.Images.{cell_in}
use Rattle.binlog_json.specs.Json.{Members, no_members, member, null, put}

-- the document null, and none other
abbrev pub is_null : Option Document → Bool
is_null (Some documents.null) = Bool.true
is_null other = Bool.false

-- whether bytes that a column has are this document; NULL has no bytes
abbrev pub is_null_document : Content → Bool
is_null_document (cell.raw bytes) = is_null (document_at bytes)
is_null_document other = Bool.false

-- whether the value of a column, counted from 0, is the JSON null
abbrev pub is_json_null : RowImage → ℕ → Bool
is_json_null image column = is_json (type_in image.table column).code && is_null_document (cell_in image column)

-- the members with one of the column's name, where its value is the JSON null
abbrev pub put_json_null : RowImage → Members → ℕ → Members
put_json_null image ms column = if is_json_null image column then put (name_of image.table.names column) null ms else ms

abbrev pub names_in : Members → List (List ℕ)
names_in no_members = []
names_in (member name value ms) = name ∷ names_in ms

-- the names of an image's columns whose value is the JSON null, in byte order
abbrev pub null_columns : RowImage → List (List ℕ)
null_columns image = names_in (fold (put_json_null image) no_members (range_with_len 0 (length image.table.names)))

-- each behind a text that says which image it is; none where there is no image
abbrev pub nulls_on : List ℕ → Option RowImage → List (List ℕ)
nulls_on side None = []
nulls_on side (Some image) = map (λ name. side ++ name) (null_columns image)

-- those of the new row, then those of the old one
abbrev pub json_nulls : RowChange → List (List ℕ)
json_nulls c = nulls_on (codes "after.") (after_of c) ++ nulls_on (codes "before.") (before_of c)

-- whether a table of these types has columns of JSON
abbrev pub has_documents : List ColumnType → Bool
has_documents types = list_any (λ t. is_json t.code) types
