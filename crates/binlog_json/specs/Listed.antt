-- The members of an image as they are written.
use Rattle.std.specs.Prelude.{ℕ, List, [], ◌∷◌, if◌then◌else◌}
use Rattle.binlog_json.specs.Json.{Data, Members, member, no_members}
use Rattle.binlog_table.specs.RowImage.{RowImage}
use Rattle.binlog_table.specs.NameOrder.{name_of}
use Rattle.binlog_json.specs.Values.{is_absent}
use Rattle.binlog_json.specs.Images.{cell_in, value_data}

-- those of the present columns, in the order in which the columns stand
abbrev pub listed_by : (ℕ → Data) → RowImage → List ℕ → Members
listed_by value image [] = no_members
listed_by value image (column ∷ columns) = if is_absent (cell_in image column) then listed_by value image columns else member (name_of image.table.names column) (value column) (listed_by value image columns)

abbrev pub listed : RowImage → List ℕ → Members
listed image = listed_by (value_data image) image
