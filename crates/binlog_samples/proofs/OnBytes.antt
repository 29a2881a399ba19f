-- What is unfolded to compute the definitions on bytes that are written out.
use Rattle.std.specs.Prelude.{⊤}
use Rattle.std.specs.Fmt.{digits}
use lib.Utf8.{encode}
use Rattle.std.specs.Str.{is_utf8, chars}
use Rattle.std.specs.Str.Lossy.{utf8_valid_len}
use Rattle.binlog_frame.specs.Header.{length_field, header_of}
use Rattle.binlog_frame.specs.Reading.{stop_of, reading_from, algorithm_in, checksum_after, magic_stop, reading_of}
use Rattle.binlog_table.specs.Columns.{layout_at, columns_at}
use Rattle.binlog_table.specs.Decimal.{group_at, nines_at, digits_at, decimal_of}
use Rattle.binlog_table.specs.Extent.{extent_len}
use Rattle.binlog_table.specs.Fields.{number_at, string_at, name_at, fields_from}
use Rattle.binlog_table.specs.Image.{value_at, cell_at, cells_at, image_at}
use Rattle.binlog_table.specs.Map.{sections_after, sections_at, map_of_by, map_at_by}
use Rattle.binlog_table.specs.Names.{names_at, column_names, index_at, key_from, strings_at, list_in, value_names_of, value_names_at, value_names}
use Rattle.binlog_table.specs.Packed.{packed_at}
use Rattle.binlog_table.specs.Rows.{optional_image_at, row_at, rows_at, rows_in, rows_of}
use Rattle.binlog_table.specs.RowsBody.{rows_parts_at}
use Rattle.binlog_table.specs.Value.{fraction_of, timestamp_of, date_time_of, time_of, value_of}
use Rattle.binlog_units.specs.Bodies.{text_of, load_text_of, gtid_of, commit_time_of, is_xid, next_name_of}
use Rattle.binlog_units.specs.Symbols.{any_symbol, class, symbol}
use Rattle.binlog_units.specs.Faults.{lacks_reading, structure_fault_by}
use Rattle.binlog_feed.specs.AllFaults.{any_fault_by}

unfoldable pub on_bytes : ⊤
unfolding digits encode is_utf8 chars utf8_valid_len length_field header_of stop_of reading_from algorithm_in checksum_after magic_stop reading_of layout_at columns_at group_at nines_at digits_at decimal_of extent_len number_at string_at name_at fields_from value_at cell_at cells_at image_at sections_after sections_at map_of_by map_at_by names_at column_names index_at key_from strings_at list_in value_names_of value_names_at value_names packed_at optional_image_at row_at rows_at rows_in rows_of rows_parts_at fraction_of timestamp_of date_time_of time_of value_of text_of load_text_of gtid_of commit_time_of is_xid next_name_of class any_symbol symbol lacks_reading structure_fault_by any_fault_by
on_bytes = tt
