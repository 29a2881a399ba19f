use Rattle.std.proofs.Common.{◌≡◌, ◌*◌, ◌/◌, ◌^◌, arith, div-add-mod'}
use Rattle.fast_float.proofs.ExactLemmas.{ten_to_pos}
use Rattle.float_text.proofs.Tests.{stripped}
use Rattle.float_text.proofs.search.without.Goals as goal

pub nonzero_rem-digits : goal.nonzero_rem-digits
nonzero_rem-digits g c = rw c.requires.factor.0 (ten_to_pos c.args.zeros)

pub returns-then-digits-factor-eq0-clause-sizes : goal.returns-then-digits-factor-eq0-clause-sizes
returns-then-digits-factor-eq0-clause-sizes g c =
    let d = c.args.decimal.0 in
    let n = c.args.zeros in
    let parts : d ≡ d / c.args.factor * c.args.factor = omega (arith, div-add-mod' d c.args.factor, c.if-digits-factor-eq0.true) in
    let whole : d ≡ d / 10 ^ n * 10 ^ n = rw c.requires.factor.0 at parts in
    let less = stripped g.F.RawFloat.format c.args.bits d c.args.decimal.1 n c.requires.finite c.requires.sizes.0 whole c.requires.reads in
    rw c.requires.factor.0 (less.2, less.3, omega arith, less.1)

pub returns-then-digits-factor-eq0-clause-reads : goal.returns-then-digits-factor-eq0-clause-reads
returns-then-digits-factor-eq0-clause-reads g c =
    let d = c.args.decimal.0 in
    let n = c.args.zeros in
    let parts : d ≡ d / c.args.factor * c.args.factor = omega (arith, div-add-mod' d c.args.factor, c.if-digits-factor-eq0.true) in
    let whole : d ≡ d / 10 ^ n * 10 ^ n = rw c.requires.factor.0 at parts in
    rw c.requires.factor.0 (stripped g.F.RawFloat.format c.args.bits d c.args.decimal.1 n c.requires.finite c.requires.sizes.0 whole c.requires.reads).0
