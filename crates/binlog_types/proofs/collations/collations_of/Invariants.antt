use Rattle.std.proofs.Common.{◌≡◌, map}
use Rattle.std.specs.List.{range_with_len}
use Rattle.binlog_types.specs.ColumnTypes.{collation_at, collations_of}
use Rattle.binlog_types.proofs.collations.collations_of.Given as goal

abbrev pub invariant-loop-index : goal.invariant-loop-index
invariant-loop-index l = l.collations.items ≡ map (collation_at (collations_of l.each l.fn.usual)) (range_with_len 0 l.index)
