use Rattle.std.proofs.Common.{◌≡◌, length}
use Rattle.binlog_types.specs.Charsets.{charset_in}
use Rattle.binlog_types.proofs.charsets.charset_in.Given as goal

abbrev pub invariant-loop-rest : goal.invariant-loop-rest
invariant-loop-rest l = charset_in l.rest l.collation ≡ charset_in l.ranges l.collation

abbrev pub decreases-loop-rest : goal.decreases-loop-rest
decreases-loop-rest l = length l.rest
