-- What is unfolded to compute the types of columns by the bodies of table maps.
use Rattle.std.specs.Prelude.{⊤}
use lib.Utf8.{encode}
use Rattle.std.specs.Fmt.{digits}
use Rattle.std.specs.Str.Lossy.{utf8_valid_len}
use Rattle.binlog_table.specs.Columns.{layout_at, columns_at}
use Rattle.binlog_table.specs.Fields.{number_at, string_at, name_at, fields_from}
use Rattle.binlog_table.specs.Map.{sections_after, sections_at, map_of_by, map_at_by}
use Rattle.binlog_table.specs.Names.{names_at, column_names, index_at, key_from, strings_at, list_in, value_names_of, value_names_at, value_names}
use Rattle.binlog_table.specs.Packed.{packed_at}
use Rattle.binlog_types.specs.Charsets.{charset_of}
use Rattle.binlog_types.specs.ColumnTypes.{numbers_from, types_of}

unfoldable pub on_types : ⊤
unfolding encode digits utf8_valid_len layout_at columns_at number_at string_at name_at fields_from sections_after sections_at map_of_by map_at_by names_at column_names index_at key_from strings_at list_in value_names_of value_names_at value_names packed_at charset_of numbers_from types_of
on_types = tt
