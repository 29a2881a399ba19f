-- The sections of a table map's body, and its optional fields (Table_map_event, "Optional metadata fields").
use Rattle.std.specs.Prelude.{ℕ, zero, suc, ◌+◌, Bool, false, ◌||◌, List, [], ◌∷◌, length, take, drop, slice_index, Option, Some, None, is_some, Result, Ok, Err, nat_le, nat_lt, ◌==◌, if◌then◌else◌}
use Rattle.std.specs.Str.Lossy.{utf8_valid_len}
use Rattle.binlog_table.specs.declared.fault.MapFault.{MapFault}
use Rattle.binlog_table.specs.declared.fault.MapFault.TheVariants.{BadMap}
use Rattle.binlog_table.specs.MapResult.{◌>>=◌}
use Rattle.binlog_table.specs.Packed.{packed_at}
use Rattle.binlog_table.specs.Columns.{or_bad}

abbrev pub is_utf8 : List ℕ → Bool
is_utf8 bytes = utf8_valid_len bytes == length bytes

abbrev pub text_of : List ℕ → Result (List ℕ) MapFault
text_of bytes = if is_utf8 bytes then Ok bytes else Err BadMap

-- so many bytes, and those after them
abbrev pub bytes_at : ℕ → List ℕ → Result (List ℕ × List ℕ) MapFault
bytes_at n bytes = if nat_le n (length bytes) then Ok (take n bytes, drop n bytes) else Err BadMap

-- a packed number, and the bytes after it
unfoldable pub number_at : List ℕ → Result (ℕ × List ℕ) MapFault
number_at bytes = or_bad (packed_at bytes) >>= λ x. Ok (x.0, drop x.1 bytes)

-- a packed length, and as many bytes
unfoldable pub string_at : List ℕ → Result (List ℕ × List ℕ) MapFault
string_at bytes = number_at bytes >>= λ n. bytes_at n.0 n.1

-- a length of one byte up to 250, as many bytes of UTF-8, and a zero byte
unfoldable pub name_at : List ℕ → Result (List ℕ × List ℕ) MapFault
name_at [] = Err BadMap
name_at (n ∷ bytes) =
    if nat_le n 250
    then (if nat_lt n (length bytes) then (if slice_index bytes n == 0 then (if is_utf8 (take n bytes) then Ok (take n bytes, drop (n + 1) bytes) else Err BadMap) else Err BadMap) else Err BadMap)
    else Err BadMap

-- ---- optional fields

-- The values of the fields that are read: 1 SIGNEDNESS, 4 COLUMN_NAME, 5 SET_STR_VALUE, 6 ENUM_STR_VALUE,
-- 8 SIMPLE_PRIMARY_KEY, 9 PRIMARY_KEY_WITH_PREFIX; and of those of character sets, which no map is refused for: 2 DEFAULT_CHARSET,
-- 3 COLUMN_CHARSET, 10 ENUM_AND_SET_DEFAULT_CHARSET, 11 ENUM_AND_SET_COLUMN_CHARSET; nor for 13 VECTOR_DIMENSIONALITY.
pub record Fields : Type 0 where
  pub signs : Option (List ℕ)
  pub names : Option (List ℕ)
  pub set_names : Option (List ℕ)
  pub enum_names : Option (List ℕ)
  pub key : Option (List ℕ)
  pub prefix_key : Option (List ℕ)
  pub default_charset : Option (List ℕ)
  pub column_charset : Option (List ℕ)
  pub default_name_charset : Option (List ℕ)
  pub column_name_charset : Option (List ℕ)
  pub dimensions : Option (List ℕ)

abbrev pub no_fields : Fields
no_fields = record {
  signs = None;
  names = None;
  set_names = None;
  enum_names = None;
  key = None;
  prefix_key = None;
  default_charset = None;
  column_charset = None;
  default_name_charset = None;
  column_name_charset = None;
  dimensions = None;
}

-- a field of these types stands at most once, and only one of the two keys; of two of the others the last is read
abbrev pub once : Option (List ℕ) → Fields → Result Fields MapFault
once None fields = Ok fields
once (Some value) fields = Err BadMap

abbrev pub with_other : Fields → ℕ → List ℕ → Fields
with_other f t value =
    if t == 2 then record f { default_charset = Some value } else
    (if t == 3 then record f { column_charset = Some value } else
    (if t == 10 then record f { default_name_charset = Some value } else
    (if t == 11 then record f { column_name_charset = Some value } else
    (if t == 13 then record f { dimensions = Some value } else f))))

abbrev pub with_field : Fields → ℕ → List ℕ → Result Fields MapFault
with_field f t value =
    if t == 1 then once f.signs (record f { signs = Some value }) else
    (if t == 4 then once f.names (record f { names = Some value }) else
    (if t == 5 then once f.set_names (record f { set_names = Some value }) else
    (if t == 6 then once f.enum_names (record f { enum_names = Some value }) else
    (if t == 8 then (once f.prefix_key f >>= λ g. once f.key (record f { key = Some value })) else
    (if t == 9 then (once f.key f >>= λ g. once f.prefix_key (record f { prefix_key = Some value })) else Ok (with_other f t value))))))

-- Whether a field of a type can't be added.
abbrev pub is_refused : Fields → ℕ → Bool
is_refused f t =
    if t == 1 then is_some f.signs else
    (if t == 4 then is_some f.names else
    (if t == 5 then is_some f.set_names else
    (if t == 6 then is_some f.enum_names else
    (if t == 8 || t == 9 then is_some f.key || is_some f.prefix_key else false))))

-- the fields to the end of the bytes, each a type, a packed length and as many bytes; no more than the first number
unfoldable pub fields_from : ℕ → Fields → List ℕ → Result Fields MapFault
fields_from zero f bytes = Ok f
fields_from (suc fuel) f [] = Ok f
fields_from (suc fuel) f (t ∷ bytes) = string_at bytes >>= λ v. with_field f t v.0 >>= λ g. fields_from fuel g v.1
