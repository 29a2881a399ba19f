use Rattle.std.proofs.Common.{subst, sym}
use Rattle.binlog_select.specs.Intervals.{IsJoined, SameNumbers}
use Rattle.binlog_select.proofs.JoiningLemmas.{merges_sorted}
use Rattle.binlog_select.proofs.joining.joined.Goals as goal

pub returns-clause-joined : goal.returns-clause-joined
returns-clause-joined c =
    subst IsJoined (sym c.in_ok-joined.ensures)
    (merges_sorted _ _ c.args.sorted.now c.in-Some.ensures.cases.0 c.requires.valid c.requires.rising).0

pub returns-clause-same : goal.returns-clause-same
returns-clause-same c =
    let merges = merges_sorted _ _ c.args.sorted.now c.in-Some.ensures.cases.0 c.requires.valid c.requires.rising in
    subst (λ xs. SameNumbers xs c.args.sorted.now) (sym c.in_ok-joined.ensures) merges.1
