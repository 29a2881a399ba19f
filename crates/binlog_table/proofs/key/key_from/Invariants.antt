use Rattle.std.proofs.Common.{◌≡◌, ◌<◌, [], length}
use Rattle.std.specs.List.{All}
use Rattle.binlog_table.specs.Names.{key_from}
use Rattle.binlog_table.proofs.KeyLoop.{KeyLeft, Marks}
use Rattle.binlog_table.proofs.key.key_from.Given as goal

abbrev pub invariant-loop-rest : goal.invariant-loop-rest
invariant-loop-rest l = record {
  below : All (λ i. i < l.count) l.key.items;
  len : length l.seen.items ≡ l.count;
  marks : Marks l.seen.items l.key.items;
  read : KeyLeft l.prefixed l.count l.key.items l.rest (key_from (length l.bytes) l.prefixed l.count [] l.bytes);
}

abbrev pub decreases-loop-rest : goal.decreases-loop-rest
decreases-loop-rest l = length l.rest
