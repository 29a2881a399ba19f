use Rattle.std.proofs.Common.{◌≤◌, ◌++◌, List, length, drop}
use Rattle.binlog_table.specs.declared.cell_places.CellPlace.{CellPlace}
use Rattle.binlog_table.specs.Image.{cells_at, IsRead}
use Rattle.binlog_table.specs.CellPlaces.{Fits}
use Rattle.binlog_table.proofs.cell_places.find_places.Given as goal

-- whatever places the columns that are left have, all have them behind those that were found
abbrev pub invariant-loop-place : goal.invariant-loop-place
invariant-loop-place l = record {
  within : l.start ≤ length l.values;
  nulls : l.null_place ≤ l.place;
  read : IsRead (cells_at (drop l.place l.columns) l.present l.nulls l.place l.null_place (drop l.start l.values));
  rest : (more : List CellPlace) → Fits (drop l.place l.columns) l.present l.nulls l.place l.null_place l.start l.values more → Fits l.columns l.present l.nulls 0 0 l.from l.values (l.places.items ++ more);
}
