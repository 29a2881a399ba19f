use Rattle.std.proofs.Common.{◌≡◌, ◌+◌, ◌-◌, ◌*◌, ◌/◌, ◌<◌, true}
use Rattle.float_text.specs.Shortest.{reads_as}
use Rattle.float_text.specs.Search.{IsBestUp}
use Rattle.float_text.proofs.search.closest_of_coarsest.Given as goal

abbrev pub invariant-loop-best : goal.invariant-loop-best
invariant-loop-best g l = (0 < l.best) × (l.best < (l.start / 10 + 1) * 10) × (reads_as g.F.RawFloat.format l.bits l.best l.greatest ≡ true)

abbrev pub decreases-loop-best : goal.decreases-loop-best
decreases-loop-best g l = (l.start / 10 + 1) * 10 - l.best

abbrev pub invariant-loop-best-2 : goal.invariant-loop-best-2
invariant-loop-best-2 g l =
    (0 < l.best) × (l.best < (l.start / 10 + 1) * 10) × (reads_as g.F.RawFloat.format l.bits l.best l.greatest ≡ true) × IsBestUp g.F.RawFloat.format l.bits l.best l.greatest

abbrev pub decreases-loop-best-2 : goal.decreases-loop-best-2
decreases-loop-best-2 g l = l.best
