use Rattle.std.proofs.Common.{◌-◌, eq-zero-or-pos, inl, inr, refl, sym, arith}
use Rattle.float_text.proofs.Coarsest.{read_of_test, none_at, none_coarser, same_ten, shortest_is}
use Rattle.float_text.proofs.Closest.{digits_is, upper_side, lower_side}
use Rattle.float_text.proofs.search.closest_of_coarsest.Goals as goal

pub loop-best-preserved : goal.loop-best-preserved
loop-best-preserved g c =
    let f = g.F.RawFloat.format in
    let F = c.requires.finite in
    let s = c.coarsen-start in
    let next = c.loop-best-test.ensures.yes refl in
    (omega arith, same_ten f c.args.bits s.result.0 s.result.1 F (read_of_test f _ _ _ F s.ensures.reads) s.ensures.below s.ensures.above _ (read_of_test f _ _ _ F next), next)

pub returns-clause-same : goal.returns-clause-same
returns-clause-same g c =
    let f = g.F.RawFloat.format in
    let F = c.requires.finite in
    let s = c.coarsen-start in
    let l = c.loop-best-2 in
    let read = read_of_test f _ _ _ F l.invariant.2 in
    let top = s.ensures.sizes in
    sym
    (shortest_is f c.args.bits l.best s.result.1 (omega arith) l.invariant.0 (digits_is f c.args.bits l.best s.result.1 F read l.invariant.0 l.invariant.3 (c.loop-best-2-test.ensures.no refl))
    (none_at f c.args.bits s.result.0 s.result.1 F (read_of_test f _ _ _ F s.ensures.reads) s.ensures.below s.ensures.above))

pub returns-clause-coarsest : goal.returns-clause-coarsest
returns-clause-coarsest g c x i h =
    let f = g.F.RawFloat.format in
    let F = c.requires.finite in
    let s = c.coarsen-start in
    elim (eq-zero-or-pos (i - s.result.1)) [
      | inl z ↦ omega arith
      | inr p ↦ absurd (none_coarser f c.args.bits s.result.0 s.result.1 F (read_of_test f _ _ _ F s.ensures.reads) s.ensures.below s.ensures.above x i (omega arith) (read_of_test f _ _ _ F h))
    ]

pub returns-clause-closest_above : goal.returns-clause-closest_above
returns-clause-closest_above g c x l h =
    let F = c.requires.finite in
    let b = c.loop-best-2.invariant in
    upper_side g.F.RawFloat.format c.args.bits _ _ F (read_of_test _ _ _ _ F b.2) x l (read_of_test _ _ _ _ F h) b.3

pub returns-clause-closest_below : goal.returns-clause-closest_below
returns-clause-closest_below g c x l h =
    let F = c.requires.finite in
    let b = c.loop-best-2.invariant in
    lower_side g.F.RawFloat.format c.args.bits _ _ F (read_of_test _ _ _ _ F b.2) x l (read_of_test _ _ _ _ F h) (c.loop-best-2-test.ensures.no refl)
