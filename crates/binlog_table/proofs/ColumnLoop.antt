-- The loop over the columns of a table map.
use Rattle.std.proofs.Common.{◌≡◌, ℕ, ◌+◌, ◌<◌, ◌≤◌, List, [], ◌∷◌, ◌++◌, length, get_or, drop, Result, Ok, sym, ap, ◌∙◌, append-nil}
use Rattle.std.specs.Prelude.{◌&&◌}
use Rattle.std.proofs.lemmas.List.{at_drop_more, at_drop_all}
use Rattle.binlog_table.specs.declared.fault.MapFault.{MapFault}
use Rattle.binlog_table.specs.declared.column.Column.{Column}
use Rattle.binlog_table.specs.declared.column.Layout.{Layout}
use Rattle.binlog_profile.specs.declared.profile.Profile.{Profile}
use Rattle.binlog_table.specs.MapResult.{◌>>=◌}
use Rattle.binlog_table.specs.Columns.{layout_at, stored_as, is_numeric, high_bit, next_numeric, columns_at}
use Rattle.binlog_table.proofs.Prepended.{prepended, prepended-step}

abbrev Read : Type 0
Read = Result (List Column × (List ℕ × ℕ)) MapFault

abbrev pub column_of : ℕ → List ℕ → ℕ → Layout → Column
column_of t signs j layout = record { layout = layout; unsigned = is_numeric t && high_bit signs j }

pub columns-step : (profile : Profile) (types metadata signs : List ℕ) (front : List Column) (i j : ℕ) (total : Read) → i < length types → prepended front (columns_at profile (drop i types) metadata signs j) ≡ total
    → (layout_at (stored_as profile (get_or types i 0)) metadata >>= λ l. prepended (front ++ column_of (get_or types i 0) signs j l.0 ∷ []) (columns_at profile (drop (i + 1) types) (drop l.1 metadata) signs (next_numeric (get_or types i 0) j))) ≡ total
unfolding columns_at
columns-step profile types metadata signs front i j total lt so_far =
    let t = get_or types i 0 in
    sym (prepended-step front (layout_at (stored_as profile t) metadata) (λ (l : Layout × ℕ). column_of t signs j l.0) (λ (l : Layout × ℕ). columns_at profile (drop (i + 1) types) (drop l.1 metadata) signs (next_numeric t j)))
    ∙ sym (at_drop_more (λ (ts : List ℕ). prepended front (columns_at profile ts metadata signs j)) types i 0 lt) ∙ so_far

pub columns-end : (profile : Profile) (types metadata signs : List ℕ) (front : List Column) (i j : ℕ) (total : Read) → length types ≤ i → prepended front (columns_at profile (drop i types) metadata signs j) ≡ total → total ≡ Ok (front, (metadata, j))
unfolding columns_at
columns-end profile types metadata signs front i j total le so_far =
    sym so_far ∙ at_drop_all (λ (ts : List ℕ). prepended front (columns_at profile ts metadata signs j)) types i le ∙ ap (λ (xs : List Column). Ok (xs, (metadata, j))) (append-nil front)
