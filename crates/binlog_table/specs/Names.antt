-- Lists of strings, column names, the key, and the names of ENUM and SET columns.
use Rattle.std.specs.Prelude.{ℕ, zero, suc, ◌+◌, codes, decimal, Bool, true, false, not, ◌&&◌, ◌||◌, List, [], ◌∷◌, ◌++◌, length, Option, Some, None, Result, Ok, Err, unwrap_or, nat_lt, ◌==◌, if◌then◌else◌}
use Rattle.std.specs.Str.{bytes_eq}
use Rattle.std.specs.List.{list_any}
use Rattle.binlog_profile.specs.declared.profile.Profile.{Profile}
use Rattle.binlog_profile.specs.declared.profile.Profile.TheVariants.{Strict, Server}
use Rattle.binlog_table.specs.declared.fault.MapFault.{MapFault}
use Rattle.binlog_table.specs.declared.fault.MapFault.TheVariants.{BadMap, NoColumnNames}
use Rattle.binlog_table.specs.declared.column.Column.{Column}
use Rattle.binlog_table.specs.declared.column.Layout.{Layout}
use Rattle.binlog_table.specs.declared.column.Layout.TheVariants.{Enum, Set}
use Rattle.binlog_table.specs.MapResult.{◌>>=◌}
use Rattle.binlog_table.specs.Fields.{number_at, string_at, text_of}

-- nothing is left
abbrev pub used_up : List ℕ → Result ℕ MapFault
used_up bytes = if length bytes == 0 then Ok 0 else Err BadMap

-- ---- the names of columns

-- so many names, and the bytes after them
unfoldable pub names_at : ℕ → List ℕ → Result (List (List ℕ) × List ℕ) MapFault
names_at zero bytes = Ok ([], bytes)
names_at (suc n) bytes = string_at bytes >>= λ s. text_of s.0 >>= λ name. names_at n s.1 >>= λ r. Ok (name ∷ r.0, r.1)

abbrev pub is_among : List ℕ → List (List ℕ) → Bool
is_among x [] = false
is_among x (y ∷ ys) = bytes_eq x y || is_among x ys

-- no name stands twice
abbrev pub are_distinct : List (List ℕ) → Bool
are_distinct [] = true
are_distinct (x ∷ xs) = not (is_among x xs) && are_distinct xs

abbrev pub distinct_names : List (List ℕ) → Result (List (List ℕ)) MapFault
distinct_names names = if are_distinct names then Ok names else Err BadMap

-- the names of so many columns, where there is such a field
unfoldable pub column_names : ℕ → Option (List ℕ) → Result (Option (List (List ℕ))) MapFault
column_names count None = Ok None
column_names count (Some bytes) = names_at count bytes >>= λ r. used_up r.1 >>= λ _. distinct_names r.0 >>= λ names. Ok (Some names)

-- a column by its number, as mysqlbinlog writes it: `@1` for the first
abbrev pub number_name : ℕ → List ℕ
number_name number = codes "@" ++ decimal number

-- so many columns by their numbers, from a number on
abbrev pub number_names : ℕ → ℕ → List (List ℕ)
number_names number zero = []
number_names number (suc n) = number_name number ∷ number_names (number + 1) n

-- Where a map has no names of columns, the strict profile refuses it, and the server's has the columns by their numbers.
abbrev pub named : Profile → ℕ → Option (List (List ℕ)) → Result (List (List ℕ)) MapFault
named profile count (Some names) = Ok names
named Strict count None = Err NoColumnNames
named Server count None = Ok (number_names 1 count)

-- the same, where no names are no fault yet
abbrev pub names_or_none : Profile → ℕ → Option (List (List ℕ)) → List (List ℕ)
names_or_none profile count (Some names) = names
names_or_none Strict count None = []
names_or_none Server count None = number_names 1 count

abbrev pub names_in : Profile → ℕ → Option (List ℕ) → Result (List (List ℕ)) MapFault
names_in profile count field = column_names count field >>= λ names. Ok (names_or_none profile count names)

-- ---- the key

-- the index of a column, and after it the length of a prefix where the key has prefixes; the bytes after them
unfoldable pub index_at : Bool → List ℕ → Result (ℕ × List ℕ) MapFault
index_at false bytes = number_at bytes
index_at true bytes = number_at bytes >>= λ i. number_at i.1 >>= λ p. Ok (i.0, p.1)

-- an index below the count that isn't in the key
abbrev pub new_index : ℕ → List ℕ → ℕ → Result ℕ MapFault
new_index count key index = if nat_lt index count && not (list_any (λ y. y == index) key) then Ok index else Err BadMap

-- the key with the indexes to the end of the bytes; no more than the first number
unfoldable pub key_from : ℕ → Bool → ℕ → List ℕ → List ℕ → Result (List ℕ) MapFault
key_from zero prefixed count key bytes = Ok key
key_from (suc fuel) prefixed count key [] = Ok key
key_from (suc fuel) prefixed count key (b ∷ bytes) =
    index_at prefixed (b ∷ bytes) >>= λ i. new_index count key i.0 >>= λ index. key_from fuel prefixed count (key ++ index ∷ []) i.1

-- the key, which has no column where no field names one
abbrev pub key_in : ℕ → Option (List ℕ) → Option (List ℕ) → Result (List ℕ) MapFault
key_in count (Some bytes) prefixed = key_from (length bytes) false count [] bytes
key_in count None (Some bytes) = key_from (length bytes) true count [] bytes
key_in count None None = Ok []

-- ---- the names of ENUM and SET

-- so many strings, and the bytes after them
unfoldable pub strings_at : ℕ → List ℕ → Result (List (List ℕ) × List ℕ) MapFault
strings_at zero bytes = Ok ([], bytes)
strings_at (suc n) bytes = string_at bytes >>= λ s. strings_at n s.1 >>= λ r. Ok (s.0 ∷ r.0, r.1)

-- a packed count and as many strings, where there is such a field; what is left of it
unfoldable pub list_in : Option (List ℕ) → Result (Option (List (List ℕ)) × Option (List ℕ)) MapFault
list_in None = Ok (None, None)
list_in (Some bytes) = number_at bytes >>= λ n. strings_at n.0 n.1 >>= λ x. Ok (Some x.0, Some x.1)

-- the names of a column, and what is left of the fields of SETs and of ENUMs
unfoldable pub value_names_of : Layout → Option (List ℕ) → Option (List ℕ) → Result (Option (List (List ℕ)) × (Option (List ℕ) × Option (List ℕ))) MapFault
value_names_of (Set w) sets enums = list_in sets >>= λ x. Ok (x.0, (x.1, enums))
value_names_of (Enum w) sets enums = list_in enums >>= λ x. Ok (x.0, (sets, x.1))
value_names_of other sets enums = Ok (None, (sets, enums))

unfoldable pub value_names_at : List Column → Option (List ℕ) → Option (List ℕ) → Result (List (Option (List (List ℕ))) × (Option (List ℕ) × Option (List ℕ))) MapFault
value_names_at [] sets enums = Ok ([], (sets, enums))
value_names_at (column ∷ columns) sets enums =
    value_names_of column.layout sets enums >>= λ x. value_names_at columns x.1.0 x.1.1 >>= λ r. Ok (x.0 ∷ r.0, r.1)

-- the names of each column, where the fields hold exactly them
unfoldable pub value_names : List Column → Option (List ℕ) → Option (List ℕ) → Result (List (Option (List (List ℕ)))) MapFault
value_names columns sets enums =
    value_names_at columns sets enums >>= λ r. used_up (unwrap_or r.1.0 []) >>= λ _. used_up (unwrap_or r.1.1 []) >>= λ _. Ok r.0
