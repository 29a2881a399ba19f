use Rattle.std.proofs.Common.{◌+◌, ◌*◌, ◌^◌, ◌<◌, ◌≤◌}
use Rattle.float_text.specs.Shortest.{scaled_num, scaled_den}
use Rattle.float_text.proofs.candidate.long_decimal.Given as goal

abbrev pub invariant-loop-power : goal.invariant-loop-power
invariant-loop-power g l =
    (58 ≤ l.power) × (l.power ≤ 709) × (l.digits < 10 ^ 18) × (l.digits * scaled_den g.F.RawFloat.format l.power ≤ scaled_num g.F.RawFloat.format l.bits)
    × (scaled_num g.F.RawFloat.format l.bits < (l.digits + 1) * scaled_den g.F.RawFloat.format l.power)

abbrev pub decreases-loop-power : goal.decreases-loop-power
decreases-loop-power g l = l.power
