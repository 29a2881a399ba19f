-- What a table map owns, seen as what it says.
use Rattle.std.specs.Prelude.{◌≡◌, map, Ok}
use Rattle.binlog_profile.specs.declared.profile.Profile.TheVariants.{Server}
use Rattle.std.specs.String.{string_bytes}
use Rattle.binlog_table.specs.declared.table_map.TableMap.TheInside.{Inside}
use Rattle.binlog_table.specs.Map.{Map, map_at_by, sections_at, sections_or, has_own_names, is_strict}
use Rattle.binlog_table.specs.ListsShown.{AreFit}
use Rattle.binlog_table.specs.ValueNamesShown.{names_view}

abbrev pub map_view : Inside → Map
map_view m = record {
  table_id = m.table_id;
  schema = string_bytes m.schema;
  table = string_bytes m.table;
  columns = m.lists.columns.items;
  names = map string_bytes m.lists.names.names.items;
  key = m.lists.key.items;
  value_names = map names_view m.lists.value_names.items;
  sections = sections_or (sections_at m.body.items);
}

-- The lists fit one another, and the body that is kept spells the map by the server's profile, and by the strict one, too, where that
-- takes it in.
abbrev pub IsKept : Inside → Type 0
IsKept m =
    AreFit m.lists × (map_at_by Server m.body.items ≡ Ok (map_view m)) × (m.named ≡ has_own_names (map_view m))
    × (m.strict ≡ is_strict (map_view m).sections)
