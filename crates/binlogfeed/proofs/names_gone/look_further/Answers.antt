use Rattle.std.proofs.Common.{ℕ, List, inr, ap, subst₂, map, string_bytes}
use Rattle.binlog_feed.specs.Following.{RefusesGoOn}
use Rattle.binlogfeed.specs.LookSteps.{HoldsBack}
use Rattle.binlogfeed.specs.NamesGone.{IsBack, LacksGone}
use Rattle.binlogfeed.proofs.NamesGone.{err_both, ok_so}
use Rattle.binlogfeed.proofs.names_gone.look_further.Goals as goal

pub returns-in-Ok-clause-new_names : goal.returns-in-Ok-clause-new_names
returns-in-Ok-clause-new_names g c =
    ok_so c.look_on.result (subst₂ (λ (gone names : List (List ℕ)). LacksGone gone names (g.L.Logs.names c.args.logs)) (ap (map string_bytes) c.deref.ensures.value) c.logs.ensures.names c.in_default.ensures.none)

pub returns-in-Ok-clause-refused : goal.returns-in-Ok-clause-refused
returns-in-Ok-clause-refused g c =
    err_both c.look_on.result (λ back. RefusesGoOn c.args.feed (g.L.Logs.names c.args.logs) back.0) (HoldsBack g.L.Logs c.args.feed c.args.logs)
    (λ back. IsBack (map string_bytes c.args.gone.now.items) c.args.feed.names (g.L.Logs.names c.args.logs) back.0) c.look_on.ensures.refused c.look_on.ensures.held_back

pub returns-in-Err-clause-refused : goal.returns-in-Err-clause-refused
returns-in-Err-clause-refused g c = inr (tt, λ honest now settled later_differ sound differ none continues. tt)
