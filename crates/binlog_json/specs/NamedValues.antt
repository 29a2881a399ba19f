-- The values of ENUM and SET columns under the names that an image's table has for them, and a cell's value.
use Rattle.std.specs.Prelude.{◌≡◌, ℕ, Bool, List, [], Option, unwrap_or, MatchOption, if◌then◌else◌}
use Rattle.std.specs.Borrow.{Bor}
use Rattle.std.specs.List.{join_with_byte}
use Rattle.binlog_table.specs.MapWords.{value_names_in}
use Rattle.binlog_table.specs.RowImage.{RowImage}
use Rattle.binlog_table.specs.Value.{view}
use Rattle.binlog_table.specs.declared.cell.Cell.{Cell}
use Rattle.binlog_types.specs.declared.column_type.ColumnType.{ColumnType}
use Rattle.binlog_json.specs.FullValues.{full_data, members_text, text_data}
use Rattle.binlog_json.specs.Json.{Data}
use Rattle.binlog_json.specs.Keys.{full_key_data}
use Rattle.binlog_json.specs.Values.{content_data, enum_by, members_in, set_by, whole_number}

-- the names of the column's values, if the table has some
abbrev pub known_names : RowImage → ℕ → Option (List (List ℕ))
known_names image column = value_names_in image.table column

-- those of a SET's value
abbrev pub known_members : RowImage → ℕ → ℕ → List (List ℕ)
known_members image column number = members_in (unwrap_or (known_names image column) []) number

-- parted by commas
abbrev pub known_members_text : RowImage → ℕ → ℕ → List ℕ
known_members_text image column number = join_with_byte 44 (known_members image column number)

-- However names are given, the ENUM's value is the name that is answered, or its number where none is.
abbrev pub NamesEnum : Option (List (List ℕ)) → ℕ → Option (Bor (List ℕ)) → Type 0
NamesEnum names number result = (given : List ℕ → Data)
    → MatchOption result (enum_by given names number ≡ whole_number number) (λ name. enum_by given names number ≡ given name.now)

-- However names are given, the SET's value is that of its members' names, or its number where not all have one.
abbrev pub NamesSet : Option (List (List ℕ)) → ℕ → Bool → Type 0
NamesSet names number result = (given : List (List ℕ) → Data)
    → set_by given names number ≡ (if result then given (members_in (unwrap_or names []) number) else whole_number number)

-- the value of a cell, under the names of its column
abbrev pub cell_data : RowImage → ℕ → Cell → Data
cell_data image column cell = content_data (known_names image column) (view cell)

-- as full lines have it
abbrev pub in_full : RowImage → ℕ → ColumnType → Cell → Data
in_full image column t cell = full_data t (known_names image column) (view cell)

-- and as the keys of full lines have it
abbrev pub as_key : RowImage → ℕ → ColumnType → Cell → Data
as_key image column t cell = full_key_data t (known_names image column) (view cell)

abbrev pub full_enum : RowImage → ℕ → ColumnType → ℕ → Data
full_enum image column t number = enum_by (text_data t) (known_names image column) number

abbrev pub full_set : RowImage → ℕ → ColumnType → ℕ → Data
full_set image column t number = set_by (members_text t.charset) (known_names image column) number
