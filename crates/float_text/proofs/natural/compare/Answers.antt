use Rattle.std.specs.Prelude.{◌≡◌, ◌+◌, ◌-◌, ◌*◌, ◌<◌, get_or}
use mathlib.Core.Path.{ap}
use native.Mathlib.Omega.{arith}
use borrow.Author.Tests.{lt-ltb, le-ltb, eq-eqb, ne_eqb}
use Rattle.float_text.specs.Limbs.{weight, number_in}
use Rattle.float_text.proofs.LimbSums.{number_in-zero, number_in-suc, number_in_less}
use Rattle.float_text.proofs.natural.compare.Goals as goal

pub returns-then-a-i : goal.returns-then-a-i
returns-then-a-i c =
    let a = c.args.a.now in
    let b = c.args.b.now in
    let i = c.loop-i.i - 1 in
    let e : i + 1 ≡ c.loop-i.i = omega arith in
    let l : number_in a c.args.len < number_in b c.args.len = omega (arith, rw e at (number_in_less a b i (λ k. (c.type_inv.a k).fits) c.if-a-i.true)) in
    rw (lt-ltb _ _ l)

pub returns-then-a-i-2 : goal.returns-then-a-i-2
returns-then-a-i-2 c =
    let a = c.args.a.now in
    let b = c.args.b.now in
    let i = c.loop-i.i - 1 in
    let e : i + 1 ≡ c.loop-i.i = omega arith in
    let l : number_in b c.args.len < number_in a c.args.len = omega (arith, rw e at (number_in_less b a i (λ k. (c.type_inv.b k).fits) c.if-a-i-2.true)) in
    rw (le-ltb (number_in a c.args.len) (number_in b c.args.len) (omega arith), ne_eqb (number_in a c.args.len) (number_in b c.args.len) (λ x. omega arith))

pub loop-i-preserved : goal.loop-i-preserved
loop-i-preserved c =
    let i = c.loop-i.i - 1 in
    let e : i + 1 ≡ c.loop-i.i = omega arith in
    let same : get_or c.args.a.now i 0 ≡ get_or c.args.b.now i 0 = omega arith in
    (omega arith, omega (arith, rw e at (number_in-suc c.args.a.now i), rw e at (number_in-suc c.args.b.now i), ap (λ x. x * weight i) same))

pub returns : goal.returns
returns c =
    let e : c.loop-i.i ≡ 0 = omega arith in
    let same : number_in c.args.a.now c.args.len ≡ number_in c.args.b.now c.args.len = omega (arith, rw e at c.loop-i.invariant.1, number_in-zero c.args.a.now, number_in-zero c.args.b.now) in
    rw (le-ltb (number_in c.args.a.now c.args.len) (number_in c.args.b.now c.args.len) (omega arith), eq-eqb _ _ same)
