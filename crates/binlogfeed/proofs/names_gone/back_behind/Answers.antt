use Rattle.std.proofs.Common.{◌≡◌, ◌-◌, ◌<◌, ℕ, Some, subst, arith}
use Rattle.std.specs.Prelude.{slice_get}
use Rattle.std.proofs.lemmas.Option.{slice_get_within}
use Rattle.binlogfeed.proofs.NamesGone.{same_last}
use Rattle.binlogfeed.proofs.names_gone.back_behind.Goals as goal

pub returns-clause-none : goal.returns-clause-none
returns-clause-none g c file last number name below here =
    let names = g.L.Logs.names c.args.earlier.now in
    let later = g.L.Logs.names c.args.logs.now in
    let named = subst (λ (n : ℕ). slice_get names (n - 1) ≡ Some c.name.result.now) c.count-count.ensures c.name.ensures.value in
    let same = same_last names later c.name.result.now c.in-Some.file file named c.in-Some.ensures.found last in
    let within = slice_get_within later number name here in
    c.behind.invariant number name (subst (λ (k : ℕ). k < number) same below) (omega (arith, within, c.behind-test.false, c.count-files.ensures)) here
