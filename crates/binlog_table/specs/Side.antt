-- The image of a row on a side.
use Rattle.std.specs.Prelude.{List, Option}
use Rattle.binlog_table.specs.declared.row_view.Side.{Side}
use Rattle.binlog_table.specs.declared.row_view.Side.TheVariants.{Before, After}
use Rattle.binlog_table.specs.Value.{Content}
use Rattle.binlog_table.specs.Rows.{Row}

abbrev pub image_on : Side → Row → Option (List Content)
image_on Before row = row.before
image_on After row = row.after
