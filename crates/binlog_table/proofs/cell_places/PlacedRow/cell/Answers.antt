use Rattle.std.proofs.Common.{length, Some, slice_get, sym, ap, ◌∙◌, arith}
use Rattle.binlog_table.specs.RowImage.{RowImage}
use Rattle.binlog_table.proofs.PlacedCells.{places_count, place_at}
use Rattle.binlog_table.proofs.cell_places.PlacedRow.cell.Goals as goal

pub place_in-place-requires : goal.place_in-place-requires
place_in-place-requires c =
    let same = ap (λ (r : RowImage). length r.table.columns) c.self.view_is in
    let count = places_count c.self.inside.map.now.columns c.self.inside.body.now c.self.inside.places.now c.self.invariant in
    omega arith

pub cell_in-requires : goal.cell_in-requires
cell_in-requires c =
    let same = ap (λ (r : RowImage). length r.table.columns) c.self.view_is in
    (place_at c.self.inside.map.now.columns c.self.inside.body.now c.self.inside.places.now c.args.column c.index-columns-column.result c.place_in-place.result c.self.invariant (omega arith) (rw c.columns-columns.ensures at c.index-columns-column.is) c.place_in-place.ensures).place

pub returns : goal.returns
returns c =
    let same = ap (λ (r : RowImage). length r.table.columns) c.self.view_is in
    let at = place_at c.self.inside.map.now.columns c.self.inside.body.now c.self.inside.places.now c.args.column c.index-columns-column.result c.place_in-place.result c.self.invariant (omega arith) (rw c.columns-columns.ensures at c.index-columns-column.is) c.place_in-place.ensures in
    sym (ap (λ (r : RowImage). slice_get r.cells c.args.column) c.self.view_is) ∙ at.cell ∙ ap Some (sym c.cell_in.ensures)
