use Rattle.std.proofs.Common.{◌*◌, ◌<◌, ◌∙◌, arith}
use lib.Ieee.{hid}
use Rattle.float_text.proofs.Alone.{hidden_is, alone_of}
use Rattle.float_text.proofs.search.is_alone.Goals as goal

pub returns : goal.returns
returns g c _ =
    let f = g.F.RawFloat.format in
    let hidden = hidden_is f _ (c.DIGITS.ensures ∙ g.met.F.RawFloat.digits_is) in
    let infinity = c.INFINITY_BITS.ensures ∙ g.met.F.RawFloat.infinity_is in
    let few : 2 * c.args.digits < hid f = omega (arith, hidden, c.if-digits-hidden.false) in
    alone_of f c.args.bits c.args.digits c.args.power c.requires.finite c.requires.reads (omega (arith, c.if-digits-eq0.false)) (omega (arith, hidden, c.if-bits-hidden.false))
    (omega (arith, infinity, c.if-bits-INFINITY_BITS.false)) few
