use Rattle.std.proofs.Common.{◌∙◌, sym, Some, None}
use Rattle.binlog_select.proofs.SetTextLemmas.{between-none, between-rising, between-falling, interval_of-read}
use Rattle.binlog_select.proofs.set_text.interval_of.Goals as goal

pub returns-in_default-gtid_number-2-clause-read : goal.returns-in_default-gtid_number-2-clause-read
returns-in_default-gtid_number-2-clause-read c =
    sym (between-none c.args.source (Some c.in-Some-gtid_number.first))
    ∙ interval_of-read c.args.source c.args.text.now c.in-Some.first.now c.in-Some.last.now (Some c.in-Some-gtid_number.first) None c.in-Some.ensures.parts c.in-Some-gtid_number.ensures c.in_default-gtid_number-2.ensures

pub returns-then-first-last-clause-read : goal.returns-then-first-last-clause-read
returns-then-first-last-clause-read c =
    between-falling c.args.source c.in-Some-gtid_number.first c.in-Some-gtid_number-2.last c.if-first-last.true
    ∙ interval_of-read c.args.source c.args.text.now c.in-Some.first.now c.in-Some.last.now (Some c.in-Some-gtid_number.first) (Some c.in-Some-gtid_number-2.last) c.in-Some.ensures.parts c.in-Some-gtid_number.ensures c.in-Some-gtid_number-2.ensures

pub returns-clause-read : goal.returns-clause-read
returns-clause-read c =
    sym (between-rising c.args.source c.in-Some-gtid_number.first c.in-Some-gtid_number-2.last c.if-first-last.false)
    ∙ interval_of-read c.args.source c.args.text.now c.in-Some.first.now c.in-Some.last.now (Some c.in-Some-gtid_number.first) (Some c.in-Some-gtid_number-2.last) c.in-Some.ensures.parts c.in-Some-gtid_number.ensures c.in-Some-gtid_number-2.ensures
