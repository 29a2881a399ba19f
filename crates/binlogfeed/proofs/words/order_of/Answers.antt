use Rattle.std.proofs.Common.{codes, inl}
use Rattle.binlogfeed.proofs.Found.{named_else, named_same, none_answers, other_answers}
use Rattle.binlogfeed.proofs.Parsing.{named_answers}
use Rattle.binlogfeed.proofs.words.order_of.Goals as goal

pub returns-in_default : goal.returns-in_default
returns-in_default c = inl (none_answers c.args.matches.now c.in_default.ensures.name)

pub returns-then-eq : goal.returns-then-eq
returns-then-eq c =
    named_answers c.args.matches.now (codes "transactions") c.in-Some.name.now _ c.transactions.result c.in-Some.ensures.name c.in-Some.ensures.rows
    (named_same c.in-Some.name.now (codes "transactions") c.eq.result c.eq.ensures c.if-eq.true) c.transactions.ensures

pub returns-then-eq-2 : goal.returns-then-eq-2
returns-then-eq-2 c =
    named_answers c.args.matches.now (codes "read") c.in-Some.name.now _ c.read.result c.in-Some.ensures.name c.in-Some.ensures.rows
    (named_same c.in-Some.name.now (codes "read") c.eq-else-eq.result c.eq-else-eq.ensures c.if-eq-2.true) c.read.ensures

pub returns-then-eq-3 : goal.returns-then-eq-3
returns-then-eq-3 c =
    named_answers c.args.matches.now (codes "history") c.in-Some.name.now _ c.history.result c.in-Some.ensures.name c.in-Some.ensures.rows
    (named_same c.in-Some.name.now (codes "history") c.eq-else-eq-2.result c.eq-else-eq-2.ensures c.if-eq-3.true) c.history.ensures

pub returns-else-eq-3 : goal.returns-else-eq-3
returns-else-eq-3 c =
    inl (other_answers c.args.matches.now c.in-Some.name.now _ c.in-Some.ensures.name c.in-Some.ensures.rows
    (named_else c.in-Some.name.now (codes "transactions") c.eq.result c.eq.ensures c.if-eq.false)
    (named_else c.in-Some.name.now (codes "read") c.eq-else-eq.result c.eq-else-eq.ensures c.if-eq-2.false)
    (named_else c.in-Some.name.now (codes "history") c.eq-else-eq-2.result c.eq-else-eq-2.ensures c.if-eq-3.false))
