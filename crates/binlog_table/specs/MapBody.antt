-- A table map's body as the concatenation of its sections.
use Rattle.std.specs.Prelude.{◌≡◌, ℕ, ◌+◌, ◌/◌, ◌≤◌, true, List, [], ◌∷◌, ◌++◌, length, Result, Ok}
use Rattle.byteorder.specs.Endian.{little_number}
use Rattle.binlog_table.specs.declared.fault.MapFault.{MapFault}
use Rattle.binlog_table.specs.MapResult.{◌>>=◌}
use Rattle.binlog_table.specs.Packed.{IsPacked}
use Rattle.binlog_table.specs.Fields.{Fields, no_fields, with_field, is_utf8}
use Rattle.binlog_table.specs.Map.{Sections}

-- a packed length, and as many bytes
abbrev pub IsString : List ℕ → List ℕ → Type 0
IsString string text = (len : List ℕ) × IsPacked (length string) len × (text ≡ len ++ string)

-- a length of one byte up to 250, a name in UTF-8, a zero byte
abbrev pub IsName : List ℕ → List ℕ → Type 0
IsName name text = (length name ≤ 250) × (is_utf8 name ≡ true) × (text ≡ length name ∷ (name ++ 0 ∷ []))

-- fields one after another, each a type and a string
abbrev pub AreFields : List (ℕ × List ℕ) → List ℕ → Type 0
AreFields [] bytes = bytes ≡ []
AreFields (field ∷ fields) bytes =
    (text : List ℕ) × (rest : List ℕ) × (bytes ≡ field.0 ∷ (text ++ rest)) × IsString field.1 text × AreFields fields rest

-- the fields that are read: two of one type are refused, and both keys
abbrev pub collected : Fields → List (ℕ × List ℕ) → Result Fields MapFault
collected fields [] = Ok fields
collected fields (x ∷ xs) = with_field fields x.0 x.1 >>= λ more. collected more xs

-- The body is the concatenation of its sections: the table id, the flags, the names of schema and table, the number
-- of columns, their types, the metadata, the bits of the columns that may be null, the optional fields.
pub record IsMapBody (s : Sections) (body : List ℕ) : Type 0 where
  pub head : List ℕ
  pub schema : List ℕ
  pub table : List ℕ
  pub count : List ℕ
  pub metadata : List ℕ
  pub nulls : List ℕ
  pub fields : List ℕ
  pub whole : body ≡ head ++ (schema ++ (table ++ (count ++ (s.types ++ (metadata ++ (nulls ++ fields))))))
  pub head_len : length head ≡ 8
  pub table_id : s.table_id ≡ little_number 6 head
  pub schema_is : IsName s.schema schema
  pub table_is : IsName s.table table
  pub count_is : IsPacked (length s.types) count
  pub columns : (1 ≤ length s.types) × (length s.types ≤ 4096)
  pub metadata_is : IsString s.metadata metadata
  pub nulls_len : length nulls ≡ (length s.types + 7) / 8
  pub field_list : List (ℕ × List ℕ)
  pub fields_are : AreFields field_list fields
  pub collects : collected no_fields field_list ≡ Ok s.fields
