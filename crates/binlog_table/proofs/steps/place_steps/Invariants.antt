use Rattle.std.proofs.Common.{◌≡◌, ◌≤◌, ◌+◌, ◌++◌, ℕ, List, length, take, drop, option_map}
use Rattle.binlog_table.specs.declared.cell_places.CellPlace.{CellPlace}
use Rattle.binlog_table.specs.CellPlaces.{Fits}
use Rattle.binlog_table.specs.Image.{set_bits, cells_at}
use Rattle.binlog_table.proofs.steps.place_steps.Given as goal

-- what is still to be read ends where the whole does; whatever places the columns that are left have, all have them behind those that were noted
abbrev pub invariant-loop-place : goal.invariant-loop-place
invariant-loop-place g l = record {
  front : 8 ≤ l.at;
  within : l.at ≤ length l.body;
  room : length l.places ≡ length l.columns;
  ends : (present : List ℕ) → set_bits present (length l.columns) ≡ length l.columns
      → option_map (λ x. l.at + x.1) (cells_at (drop l.place l.columns) present l.nulls l.place l.place (drop l.at l.body)) ≡ option_map (λ x. l.start + x.1) (cells_at l.columns present l.nulls 0 0 (drop l.start l.body));
  rest : (present : List ℕ) (more : List CellPlace) → set_bits present (length l.columns) ≡ length l.columns
      → Fits (drop l.place l.columns) present l.nulls l.place l.place l.at l.body more → Fits l.columns present l.nulls 0 0 l.start l.body (take l.place l.places ++ more);
}
