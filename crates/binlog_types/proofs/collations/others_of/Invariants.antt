use Rattle.std.proofs.Common.{◌≡◌, ℕ, ◌<◌, None, get_or, length, vec_len}
use Rattle.std.specs.Option.{option_or}
use Rattle.binlog_types.specs.ColumnTypes.{other_for}
use Rattle.binlog_types.proofs.collations.others_of.Given as goal

abbrev pub invariant-loop-rest : goal.invariant-loop-rest
invariant-loop-rest l = record {
  long : vec_len l.others ≡ l.count;
  found : (k : ℕ) → k < l.count → option_or (get_or l.others.items k None) (other_for k l.rest) ≡ other_for k l.pairs;
}

abbrev pub decreases-loop-rest : goal.decreases-loop-rest
decreases-loop-rest l = length l.rest
