-- What is unfolded besides to compute lines, and the changes of a file.
use Rattle.std.specs.Prelude.{⊤}
use Rattle.uuid.specs.Text.{by_index}
use Rattle.binlog_frame.specs.Header.{length_field, header_of}
use Rattle.binlog_frame.specs.Reading.{stop_of, reading_from, algorithm_in, checksum_after, magic_stop, reading_of}
use Rattle.binlog_table.specs.Extent.{extent_len}
use Rattle.binlog_table.specs.Image.{value_at, cell_at, cells_at, image_at}
use Rattle.binlog_table.specs.Rows.{optional_image_at, row_at, rows_at, rows_in, rows_of}
use Rattle.binlog_table.specs.RowsBody.{rows_parts_at}
use Rattle.binlog_table.specs.Value.{value_of}
use Rattle.binlog_units.specs.Bodies.{text_of, load_text_of, gtid_of, commit_time_of, is_xid, next_name_of}
use Rattle.binlog_units.specs.Symbols.{any_symbol, class, symbol}
use Rattle.binlog_units.specs.Faults.{lacks_reading, structure_fault_by}
use Rattle.binlog_feed.specs.AllFaults.{any_fault_by}

unfoldable pub on_lines : ⊤
unfolding by_index length_field header_of stop_of reading_from algorithm_in checksum_after magic_stop reading_of extent_len value_at cell_at cells_at image_at optional_image_at row_at rows_at rows_in rows_of rows_parts_at value_of text_of load_text_of gtid_of commit_time_of is_xid next_name_of class any_symbol symbol lacks_reading structure_fault_by any_fault_by
on_lines = tt
