-- The lists of a table map, seen as what the map says.
use Rattle.std.specs.Prelude.{◌≡◌, ◌<◌, map, vec_len}
use Rattle.std.specs.List.{All}
use Rattle.std.specs.String.{string_bytes}
use Rattle.binlog_table.specs.declared.lists.Lists.{Lists}
use Rattle.binlog_table.specs.Map.{Sections, Map}
use Rattle.binlog_table.specs.NameOrder.{IsNameOrder}
use Rattle.binlog_table.specs.Steps.{AreSteps}
use Rattle.binlog_table.specs.ValueNamesShown.{names_view}

abbrev pub listed_map : Sections → Lists → Map
listed_map s l = record {
  table_id = s.table_id;
  schema = s.schema;
  table = s.table;
  columns = l.columns.items;
  names = map string_bytes l.names.names.items;
  key = l.key.items;
  value_names = map names_view l.value_names.items;
  sections = s;
}

-- The lists fit one another.
pub record AreFit (l : Lists) : Type 0 where
  pub names : vec_len l.names.names ≡ vec_len l.columns
  pub value_names : vec_len l.value_names ≡ vec_len l.columns
  pub key : All (λ i. i < vec_len l.columns) l.key.items
  pub order : IsNameOrder (map string_bytes l.names.names.items) l.names.order.items
  pub steps : AreSteps l.columns.items l.steps.items
