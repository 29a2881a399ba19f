use Rattle.std.proofs.Common.{◌≡◌, ◌≤◌, drop, vec_len}
use Rattle.binlog_table.specs.Columns.{columns_at}
use Rattle.binlog_table.proofs.Prepended.{prepended}
use Rattle.binlog_table.proofs.columns.columns_of.Given as goal

abbrev pub invariant-loop-code : goal.invariant-loop-code
invariant-loop-code l = record {
  count : vec_len l.columns ≡ l.code-index;
  numeric : l.numeric ≤ l.code-index;
  read : prepended l.columns.items (columns_at l.profile (drop l.code-index l.types) l.rest l.signs l.numeric) ≡ columns_at l.profile l.types l.metadata l.signs 0;
}
