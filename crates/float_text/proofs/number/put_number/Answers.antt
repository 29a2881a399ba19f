use Rattle.std.proofs.Common.{◌∙◌, ◌∷◌, [], arith}
use Rattle.std.proofs.lemmas.Str.{IsAscii-append}
use Rattle.json.proofs.Printed.Places.{Placed-then}
use Rattle.float_text.proofs.Ascii.{ascii_of}
use Rattle.float_text.proofs.Sign.{negative_is, positive_is}
use Rattle.float_text.proofs.number.put_number.Goals as goal

pub returns-then-bits-SIGN_BIT-clause-text : goal.returns-then-bits-SIGN_BIT-clause-text
returns-then-bits-SIGN_BIT-clause-text g c =
    let f = g.F.RawFloat.format in
    let s = c.SIGN_BIT-then-bits-SIGN_BIT.ensures ∙ g.met.F.Float.sign_is in
    rw (negative_is f c.args.bits _ s (omega (arith, c.if-bits-SIGN_BIT.true)) c.requires.width) (Placed-then c.put-size.ensures c.put_size.ensures.text)

pub returns-else-bits-SIGN_BIT-clause-text : goal.returns-else-bits-SIGN_BIT-clause-text
returns-else-bits-SIGN_BIT-clause-text g c =
    rw (positive_is g.F.RawFloat.format c.args.bits _ (c.SIGN_BIT.ensures ∙ g.met.F.Float.sign_is) (omega (arith, c.if-bits-SIGN_BIT.false))) c.put_size-else-bits-SIGN_BIT.ensures.text

pub returns-then-bits-SIGN_BIT-clause-json : goal.returns-then-bits-SIGN_BIT-clause-json
returns-then-bits-SIGN_BIT-clause-json g c =
    let f = g.F.RawFloat.format in
    let s = c.SIGN_BIT-then-bits-SIGN_BIT.ensures ∙ g.met.F.Float.sign_is in
    rw (negative_is f c.args.bits _ s (omega (arith, c.if-bits-SIGN_BIT.true)) c.requires.width) c.put_size.ensures.json.negative

pub returns-else-bits-SIGN_BIT-clause-json : goal.returns-else-bits-SIGN_BIT-clause-json
returns-else-bits-SIGN_BIT-clause-json g c =
    rw (positive_is g.F.RawFloat.format c.args.bits _ (c.SIGN_BIT.ensures ∙ g.met.F.Float.sign_is) (omega (arith, c.if-bits-SIGN_BIT.false))) c.put_size-else-bits-SIGN_BIT.ensures.json.alone

pub returns-then-bits-SIGN_BIT-clause-ascii : goal.returns-then-bits-SIGN_BIT-clause-ascii
returns-then-bits-SIGN_BIT-clause-ascii g c =
    let f = g.F.RawFloat.format in
    let s = c.SIGN_BIT-then-bits-SIGN_BIT.ensures ∙ g.met.F.Float.sign_is in
    rw (negative_is f c.args.bits _ s (omega (arith, c.if-bits-SIGN_BIT.true)) c.requires.width) (IsAscii-append (45 ∷ []) _ (ascii_of (45 ∷ []) tt) c.put_size.ensures.ascii)

pub returns-else-bits-SIGN_BIT-clause-ascii : goal.returns-else-bits-SIGN_BIT-clause-ascii
returns-else-bits-SIGN_BIT-clause-ascii g c =
    rw (positive_is g.F.RawFloat.format c.args.bits _ (c.SIGN_BIT.ensures ∙ g.met.F.Float.sign_is) (omega (arith, c.if-bits-SIGN_BIT.false))) c.put_size-else-bits-SIGN_BIT.ensures.ascii
