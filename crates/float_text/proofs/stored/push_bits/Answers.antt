use Rattle.std.proofs.Common.{◌≡◌, ◌<◌, ◌*◌, ◌%◌, ◌∙◌, refl}
use lib.Ieee.{top, hid, ones}
use Rattle.float_text.proofs.Sign.{finite_text}
use Rattle.float_text.proofs.stored.push_bits.Goals as goal

pub returns-clause-text : goal.returns-clause-text
returns-clause-text g c =
    let f = g.F.RawFloat.format in
    let sign : c.SIGN_BIT.result ≡ top f = c.SIGN_BIT.ensures ∙ g.met.F.Float.sign_is in
    let infinity : c.INFINITY_BITS.result ≡ ones f * hid f = c.INFINITY_BITS.ensures ∙ g.met.F.RawFloat.infinity_is in
    let finite : c.args.bits % top f < ones f * hid f = rw (sign, infinity) at c.if-bits-SIGN_BIT.false in
    rw (finite_text f c.args.bits finite) (refl, c.in_ok-push_number.ensures.text)

pub returns-clause-json : goal.returns-clause-json
returns-clause-json g c =
    let f = g.F.RawFloat.format in
    let sign : c.SIGN_BIT.result ≡ top f = c.SIGN_BIT.ensures ∙ g.met.F.Float.sign_is in
    let infinity : c.INFINITY_BITS.result ≡ ones f * hid f = c.INFINITY_BITS.ensures ∙ g.met.F.RawFloat.infinity_is in
    let finite : c.args.bits % top f < ones f * hid f = rw (sign, infinity) at c.if-bits-SIGN_BIT.false in
    rw (finite_text f c.args.bits finite) c.in_ok-push_number.ensures.json
