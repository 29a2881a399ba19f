-- What the names of one column leave of the fields, without where they lie in memory.
use Rattle.std.specs.Prelude.{ℕ, List, Option}
use Rattle.binlog_table.specs.MapReads.{bytes_if}
use Rattle.binlog_table.specs.ValueNamesShown.{names_view}
use Rattle.binlog_table.specs.declared.value_names.Named.{Named}

-- the names, and what is left of the field of SETs and of that of ENUMs
abbrev pub named_view : Named → Option (List (List ℕ)) × (Option (List ℕ) × Option (List ℕ))
named_view named = (names_view named.names, (bytes_if named.sets, bytes_if named.enums))
