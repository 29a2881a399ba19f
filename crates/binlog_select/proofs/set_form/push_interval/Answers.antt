use lib.Utf8.{encode}
use Rattle.std.proofs.lemmas.Result.{IfOk-from_err, on_ok_weaker, on_err_weaker}
use Rattle.binlog_select.proofs.AppendLemmas.{OnErr-from, BeginsWith-same, begins_1, begins_2, begins_3, one_number, more_numbers}
use Rattle.binlog_select.proofs.set_form.push_interval.Goals as goal

pub returns-in_err-push : goal.returns-in_err-push
returns-in_err-push c = record { ok = IfOk-from_err c.from_residual.result _ c.from_residual.ensures.0; err = OnErr-from c.from_residual.result (BeginsWith-same _ _ c.in_err-push.ensures.bytes) }

pub returns-in_err-push_number : goal.returns-in_err-push_number
returns-in_err-push_number c = record { ok = IfOk-from_err c.from_residual-in_err-push_number.result _ c.from_residual-in_err-push_number.ensures.0; err = OnErr-from c.from_residual-in_err-push_number.result (begins_1 _ _ _ _ c.in_ok-push.ensures.bytes c.in_err-push_number.ensures.err) }

pub returns-then-interval-clause-ok : goal.returns-then-interval-clause-ok
unfolding encode
returns-then-interval-clause-ok c = one_number c.args.interval _ _ _ c.if-interval.true c.in_ok-push.ensures.bytes c.in_ok-push_number.ensures.ok

pub returns-in_err-push-2 : goal.returns-in_err-push-2
returns-in_err-push-2 c = record { ok = IfOk-from_err c.from_residual-in_err-push-2.result _ c.from_residual-in_err-push-2.ensures.0; err = OnErr-from c.from_residual-in_err-push-2.result (begins_2 _ _ _ _ _ _ c.in_ok-push.ensures.bytes c.in_ok-push_number.ensures.ok c.in_err-push-2.ensures.bytes) }

pub returns-clause-ok : goal.returns-clause-ok
unfolding encode
returns-clause-ok c =
    on_ok_weaker c.push_number-2.result
    (more_numbers c.args.interval _ _ _ _ _ c.if-interval.false c.in_ok-push.ensures.bytes c.in_ok-push_number.ensures.ok c.in_ok-push-2.ensures.bytes)
    c.push_number-2.ensures.ok

pub returns-clause-err : goal.returns-clause-err
returns-clause-err c = on_err_weaker c.push_number-2.result (begins_3 _ _ _ _ _ _ _ _ c.in_ok-push.ensures.bytes c.in_ok-push_number.ensures.ok c.in_ok-push-2.ensures.bytes) c.push_number-2.ensures.err
