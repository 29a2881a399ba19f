use Rattle.std.proofs.Common.{◌∙◌, arith}
use Rattle.fast_float.proofs.Patterns.{shape}
use Rattle.float_text.proofs.Tests.{compare_is, room, room_of_tens, few_doublings}
use Rattle.float_text.proofs.comparison.compare_exactly.Goals as goal

pub times_power-requires-clause-room : goal.times_power-requires-clause-room
times_power-requires-clause-room g c = rw (c.new-float.ensures, c.saturating_sub.ensures) (room_of_tens _ _ (omega (arith, c.decode-significand.ensures.sizes)) (omega (arith, c.requires.power)))

pub times_power-requires-2-clause-room : goal.times_power-requires-2-clause-room
times_power-requires-2-clause-room g c =
    let few = few_doublings g.F.RawFloat.format in
    rw (c.times_power.ensures, c.new-float.ensures, c.saturating_sub.ensures, c.saturating_sub-2.ensures)
    (room _ _ _ (omega (arith, c.decode-significand.ensures.sizes)) (omega (arith, c.requires.power)) (omega (arith, c.decode-significand.ensures.sizes, c.LOWEST.ensures, g.met.F.RawFloat.lowest_is)))

pub times_power-requires-3-clause-room : goal.times_power-requires-3-clause-room
times_power-requires-3-clause-room g c = rw (c.new-decimal.ensures, c.saturating_sub-3.ensures) (room_of_tens _ _ c.ranges.halves.fits (omega (arith, c.requires.power)))

pub times_power-requires-4-clause-room : goal.times_power-requires-4-clause-room
times_power-requires-4-clause-room g c =
    let s = shape g.F.RawFloat.format in
    rw (c.times_power-3.ensures, c.new-decimal.ensures, c.saturating_sub-3.ensures, c.saturating_sub-4.ensures)
    (room _ _ _ c.ranges.halves.fits (omega (arith, c.requires.power)) (omega (arith, c.LOWEST-2.ensures, g.met.F.RawFloat.lowest_is)))

pub returns : goal.returns
returns g c =
    let f = g.F.RawFloat.format in
    let low_is = c.LOWEST.ensures ∙ g.met.F.RawFloat.lowest_is in
    let low_is_2 = c.LOWEST-2.ensures ∙ g.met.F.RawFloat.lowest_is in
    c.compare.ensures
    ∙ rw (c.times_power-2.ensures, c.times_power.ensures, c.new-float.ensures, c.saturating_sub.ensures, c.saturating_sub-2.ensures, c.times_power-4.ensures, c.times_power-3.ensures, c.new-decimal.ensures, c.saturating_sub-3.ensures, c.saturating_sub-4.ensures, low_is, low_is_2)
    (compare_is f c.args.bits _ _ c.args.halves c.args.power c.decode-significand.ensures.same)
