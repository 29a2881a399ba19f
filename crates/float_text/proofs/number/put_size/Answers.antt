use Rattle.std.proofs.Common.{◌≤◌, ◌∙◌, IsAscii, length, decimal, codes, arith, subst, sym}
use borrow.Author.Tests.{eq-eqb, ne_eqb}
use Rattle.std.proofs.lemmas.Fmt.{decimal_nonempty, IsAscii-decimal}
use Rattle.float_text.proofs.Ascii.{ascii_of, layout_ascii}
use Rattle.float_text.proofs.Json.{zero_size, some_size}
use Rattle.float_text.proofs.number.put_size.Goals as goal

pub returns-then-bits-eq0-clause-json : goal.returns-then-bits-eq0-clause-json
returns-then-bits-eq0-clause-json g c = zero_size g.F.RawFloat.format c.args.bits (omega (arith, c.if-bits-eq0.true))

pub returns-then-bits-eq0-clause-ascii : goal.returns-then-bits-eq0-clause-ascii
returns-then-bits-eq0-clause-ascii g c = rw (eq-eqb c.args.bits 0 c.if-bits-eq0.true) (ascii_of (codes "0.0") tt)

pub put_layout-requires-clause-sizes : goal.put_layout-requires-clause-sizes
put_layout-requires-clause-sizes g c =
    let some = decimal_nonempty c.shortest_decimal-digits.result.0 (omega arith) in
    let few = c.shortest_decimal-digits.ensures.power in
    rw (c.as_bytes.ensures.value) (rw (c.format.ensures.text) some, c.format.ensures.short, omega arith)

pub returns-clause-text : goal.returns-clause-text
returns-clause-text g c =
    let is = c.as_bytes.ensures.value ∙ c.format.ensures.text in
    rw (ne_eqb c.args.bits 0 c.if-bits-eq0.false, ← c.shortest_decimal-digits.ensures.same, ← is) c.put_layout.ensures

pub returns-clause-json : goal.returns-clause-json
returns-clause-json g c =
    let d = c.shortest_decimal-digits in
    let few : length (decimal d.result.0) ≤ 40 = rw (← c.format.ensures.text) c.format.ensures.short in
    some_size g.F.RawFloat.format c.args.bits d.result (record { some = omega arith; below = c.requires.finite }) d.ensures.same d.ensures.reads (omega arith) few (omega (arith, d.ensures.power))

pub returns-clause-ascii : goal.returns-clause-ascii
returns-clause-ascii g c =
    let d = c.shortest_decimal-digits in
    let digits = c.as_bytes.result.now in
    let is = c.as_bytes.ensures.value ∙ c.format.ensures.text in
    let ascii : IsAscii digits = subst IsAscii (sym is) (IsAscii-decimal d.result.0 (omega arith)) in
    let short : length digits ≤ 40 = rw c.as_bytes.ensures.value c.format.ensures.short in
    let few = d.ensures.power in
    rw (ne_eqb c.args.bits 0 c.if-bits-eq0.false, ← d.ensures.same, ← is) (layout_ascii digits d.result.1 (omega arith) ascii)
