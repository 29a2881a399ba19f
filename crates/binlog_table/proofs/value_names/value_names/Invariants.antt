use Rattle.std.proofs.Common.{◌≡◌, drop, map, option_map, vec_len}
use Rattle.binlog_table.specs.Names.{value_names_at}
use Rattle.binlog_table.specs.ValueNamesShown.{names_view}
use Rattle.binlog_table.proofs.Prepended.{prepended}
use Rattle.binlog_table.proofs.value_names.value_names.Given as goal

abbrev pub invariant-loop-column : goal.invariant-loop-column
invariant-loop-column l = record {
  count : vec_len l.all ≡ l.column-index;
  read : prepended (map names_view l.all.items) (value_names_at (drop l.column-index l.columns) (option_map (λ b. b.now) l.sets_left) (option_map (λ b. b.now) l.enums_left)) ≡ value_names_at l.columns (option_map (λ b. b.now) l.sets) (option_map (λ b. b.now) l.enums);
}
