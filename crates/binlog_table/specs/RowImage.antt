-- An image of a row, with the map of its table.
use Rattle.std.specs.Prelude.{List}
use Rattle.binlog_table.specs.Value.{Content}
use Rattle.binlog_table.specs.Map.{Map}

pub record RowImage : Type 0 where
  pub table : Map
  pub cells : List Content
