use Rattle.std.proofs.Common.{◌≡◌, [], length}
use Rattle.binlog_json.specs.Encodings.{units_of}
use Rattle.binlog_json.proofs.Decoding.{behind}
use Rattle.binlog_json.proofs.encodings.take_units.Given as goal

abbrev pub invariant-loop-rest : goal.invariant-loop-rest
invariant-loop-rest l = behind l.units.items (units_of l.order l.rest) ≡ behind [] (units_of l.order l.bytes)

abbrev pub decreases-loop-rest : goal.decreases-loop-rest
decreases-loop-rest l = length l.rest
