use Rattle.std.proofs.Common.{◌+◌, ◌-◌, ◌*◌, ◌<◌, ◌≤◌}
use Rattle.float_text.specs.Shortest.{scaled_num, scaled_den}
use Rattle.float_text.proofs.candidate.with_next_digit.Given as goal

abbrev pub invariant-loop-next : goal.invariant-loop-next
invariant-loop-next g l = (l.next < l.digits + 10) × (l.next * scaled_den g.F.RawFloat.format l.power ≤ scaled_num g.F.RawFloat.format l.bits)

abbrev pub decreases-loop-next : goal.decreases-loop-next
decreases-loop-next g l = l.digits + 10 - l.next
