-- An image has a cell for each column.
use Rattle.std.proofs.Common.{◌≡◌, ℕ, suc, ◌+◌, cond, leb, List, [], ◌∷◌, length, take, drop, refl, sym, ap, ◌∙◌}
use Rattle.binlog_table.specs.declared.column.Column.{Column}
use Rattle.binlog_table.specs.Map.{Map}
use Rattle.binlog_table.specs.RowImage.{RowImage}
use Rattle.binlog_table.specs.Image.{bit, cell_at, cells_at, image_at, cells_of, IsRead, nulls_len}
use Rattle.binlog_table.proofs.CellWalk.{first_of_all, read_behind}

cells_at-count : (columns : List Column) (present nulls : List ℕ) (i k : ℕ) (bytes : List ℕ) → IsRead (cells_at columns present nulls i k bytes) → length (cells_of (cells_at columns present nulls i k bytes)) ≡ length columns
unfolding cells_at
cells_at-count [] present nulls i k bytes read = refl
cells_at-count (t ∷ ts) present nulls i k bytes read =
    let f = first_of_all (cell_at t (bit present i) (bit nulls k) bytes) (λ c. cells_at ts present nulls (i + 1) (cond (bit present i) (k + 1) k) (drop c.1 bytes)) read in
    ap length f.cells ∙ ap suc (cells_at-count ts present nulls (i + 1) (cond (bit present i) (k + 1) k) (drop f.len bytes) f.read)

pub image_at-count : (columns : List Column) (present bytes : List ℕ) → IsRead (image_at columns present bytes) → length (cells_of (image_at columns present bytes)) ≡ length columns
unfolding image_at
image_at-count columns present bytes read =
    let n = nulls_len present (length columns) in
    let behind = read_behind (leb n (length bytes)) n (cells_at columns present (take n bytes) 0 0 (drop n bytes)) read in
    ap length behind.1 ∙ cells_at-count columns present (take n bytes) 0 0 (drop n bytes) behind.0

pub row_image-count : (table : Map) (present bytes : List ℕ) (v : RowImage) → ◌≡◌ {A = RowImage} (record { table = table; cells = cells_of (image_at table.columns present bytes) }) v → IsRead (image_at table.columns present bytes) → length v.cells ≡ length v.table.columns
row_image-count table present bytes v is read =
    ap (λ (r : RowImage). length r.cells) (sym is) ∙ image_at-count table.columns present bytes read ∙ ap (λ (r : RowImage). length r.table.columns) is
