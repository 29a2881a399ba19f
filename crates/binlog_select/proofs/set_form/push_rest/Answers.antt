use Rattle.std.proofs.Common.{◌∙◌, refl}
use Rattle.std.proofs.lemmas.Result.{IfOk-from_err}
use Rattle.binlog_select.specs.declared.interval.Interval.{Interval}
use Rattle.binlog_select.proofs.AppendLemmas.{OnErr-from, BeginsWith-same, BeginsWith-more, BeginsWith-trans, next_texts-more, next_texts-all}
use Rattle.binlog_select.proofs.set_form.push_rest.Goals as goal

pub loop-interval-init : goal.loop-interval-init
loop-interval-init c = (refl, BeginsWith-same _ _ refl)

pub returns-in_err-push_next : goal.returns-in_err-push_next
returns-in_err-push_next c = record { ok = IfOk-from_err c.from_residual.result _ c.from_residual.ensures.0; err = OnErr-from c.from_residual.result (BeginsWith-trans _ _ _ c.loop-interval.invariant.1 c.in_err-push_next.ensures.err) }

pub loop-interval-preserved : goal.loop-interval-preserved
loop-interval-preserved c =
    let d : Interval = record { source = record { server = 0; high = 0; low = 0 }; first = 0; last = 0 } in (
      next_texts-more c.loop-interval.source c.args.rest.now c.loop-interval.interval-index d _ _ c.loop-interval-test.true c.in_ok-push_next.ensures.ok ∙ c.loop-interval.invariant.0,
      BeginsWith-more _ _ _ _ c.loop-interval.invariant.1 c.in_ok-push_next.ensures.ok,
    )

pub returns-clause-ok : goal.returns-clause-ok
returns-clause-ok c = next_texts-all c.loop-interval.source c.args.rest.now c.loop-interval.interval-index _ _ c.loop-interval-test.false c.loop-interval.invariant.0
