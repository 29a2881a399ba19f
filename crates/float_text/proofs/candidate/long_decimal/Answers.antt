use Rattle.std.proofs.Common.{sym, arith}
use Rattle.float_text.proofs.Generated.{none_at_greatest, next_power}
use Rattle.float_text.proofs.candidate.long_decimal.Goals as goal

pub loop-power-init : goal.loop-power-init
loop-power-init g c =
    let none = none_at_greatest g.F.RawFloat.format c.args.bits c.requires.finite in
    (omega arith, omega arith, omega arith, omega arith, omega (arith, none))

pub with_next_digit-digits-requires-clause-sizes : goal.with_next_digit-digits-requires-clause-sizes
with_next_digit-digits-requires-clause-sizes g c =
    let l = c.loop-power in
    let i = l.invariant in
    let next = next_power g.F.RawFloat.format c.args.bits l.digits l.power c.requires.finite i.0 i.1 i.3 i.4 (sym c.loop-power-test.ensures.same) in
    (omega (arith, next.0), next.1, next.2)

pub with_next_digit-digits-requires-clause-from : goal.with_next_digit-digits-requires-clause-from
with_next_digit-digits-requires-clause-from g c =
    let l = c.loop-power in
    let i = l.invariant in
    (next_power g.F.RawFloat.format c.args.bits l.digits l.power c.requires.finite i.0 i.1 i.3 i.4 (sym c.loop-power-test.ensures.same)).3

pub with_next_digit-digits-requires-clause-below : goal.with_next_digit-digits-requires-clause-below
with_next_digit-digits-requires-clause-below g c =
    let l = c.loop-power in
    let i = l.invariant in
    (next_power g.F.RawFloat.format c.args.bits l.digits l.power c.requires.finite i.0 i.1 i.3 i.4 (sym c.loop-power-test.ensures.same)).4

pub loop-power-preserved : goal.loop-power-preserved
loop-power-preserved g c =
    let l = c.loop-power in
    let i = l.invariant in
    let next = next_power g.F.RawFloat.format c.args.bits l.digits l.power c.requires.finite i.0 i.1 i.3 i.4 (sym c.loop-power-test.ensures.same) in
    let more = c.with_next_digit-digits.ensures in
    (next.1, omega (arith, next.2), omega (arith, next.0, more.size), more.from, more.below)
