use Rattle.std.proofs.Common.{◌≡◌, false, length, IsAscii}
use Rattle.binlog_json.proofs.FloatLists.{behind, floats_text}
use Rattle.binlog_json.proofs.vectors.append_vector.Given as goal

abbrev pub invariant-loop-rest : goal.invariant-loop-rest
invariant-loop-rest l = record {
  text : behind l.out.items (floats_text l.later l.rest) ≡ behind l.initial.out.items (floats_text false l.bytes);
  ascii : IsAscii l.initial.out.items → IsAscii l.out.items;
}

abbrev pub decreases-loop-rest : goal.decreases-loop-rest
decreases-loop-rest l = length l.rest
