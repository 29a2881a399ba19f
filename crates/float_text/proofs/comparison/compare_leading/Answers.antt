use Rattle.std.proofs.Common.{◌≡◌, ◌+◌, ◌-◌, ◌*◌, ◌/◌, ◌≤◌, ◌∙◌, arith}
use lib.Bits.{and_mask}
use lib.Ieee.{low}
use Rattle.fast_float.specs.Powers.{power_scale}
use Rattle.float_text.proofs.Leading.{float_is_less, float_is_greater, shifted}
use Rattle.float_text.proofs.comparison.compare_leading.Goals as goal

pub returns-then-float-decimal : goal.returns-then-float-decimal
returns-then-float-decimal g c =
    let f = g.F.RawFloat.format in
    let d = c.decode-significand in
    let row = c.power_of_ten-row in
    let low_is : c.LOWEST.result ≡ low f = c.LOWEST.ensures ∙ g.met.F.RawFloat.lowest_is in
    let s = d.result.1 + 1203 - (((c.args.power - 58) * 217706 + 58980) / 65536 + 2 + c.LOWEST.result) in
    let small : s ≤ 74 = omega (arith, c.if-places-less-2.false) in
    let kept = shifted d.result.0 s d.ensures.sizes.0 small in
    let test = rw (kept, and_mask row.result 64) at c.if-float-decimal.true in
    let places : s + (power_scale (c.args.power - 58) + low f) ≡ d.result.1 + 1203 = omega (arith, low_is, c.if-places-less.false) in
    float_is_less f c.args.bits d.result.0 d.result.1 c.args.halves c.args.power row.result s d.ensures.same c.requires.power.0 row.ensures c.ranges.halves.fits places test

pub returns-then-float-decimal-2 : goal.returns-then-float-decimal-2
returns-then-float-decimal-2 g c =
    let f = g.F.RawFloat.format in
    let d = c.decode-significand in
    let row = c.power_of_ten-row in
    let low_is : c.LOWEST.result ≡ low f = c.LOWEST.ensures ∙ g.met.F.RawFloat.lowest_is in
    let s = d.result.1 + 1203 - (((c.args.power - 58) * 217706 + 58980) / 65536 + 2 + c.LOWEST.result) in
    let small : s ≤ 74 = omega (arith, c.if-places-less-2.false) in
    let kept = shifted d.result.0 s d.ensures.sizes.0 small in
    let test = rw (kept, and_mask row.result 64) at c.if-float-decimal-2.true in
    let places : s + (power_scale (c.args.power - 58) + low f) ≡ d.result.1 + 1203 = omega (arith, low_is, c.if-places-less.false) in
    float_is_greater f c.args.bits d.result.0 d.result.1 c.args.halves c.args.power row.result s d.ensures.same c.requires.power.0 row.ensures c.ranges.halves.fits places test
