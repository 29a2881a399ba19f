-- What a table map says of a column.
use Rattle.std.specs.Prelude.{ℕ, ◌-◌, List, Option, None, option_and_then, slice_get, slice_index_or, ◌==◌, if◌then◌else◌}
use Rattle.binlog_table.specs.Map.{Map}

-- the names of a column's values, where it is an ENUM or a SET and the map has them
abbrev pub value_names_in : Map → ℕ → Option (List (List ℕ))
value_names_in map column = slice_index_or map.value_names column None

-- the name of a value, of which the first is number 1
abbrev pub value_name_in : Map → ℕ → ℕ → Option (List ℕ)
value_name_in map column k = option_and_then (λ names. if k == 0 then None else slice_get names (k - 1)) (value_names_in map column)
