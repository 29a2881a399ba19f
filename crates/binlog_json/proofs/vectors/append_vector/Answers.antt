use Rattle.std.proofs.Common.{◌∙◌, Some, sym, ap, arith}
use Rattle.std.proofs.lemmas.Bool.{eqb-true, eqb-false}
use Rattle.binlog_json.proofs.FloatLists.{float_more, float_none, bytes_left, closed, is_read, is_none, marked, parted}
use Rattle.binlog_json.proofs.vectors.append_vector.Goals as goal

pub returns-then-not-branch-clause-text : goal.returns-then-not-branch-clause-text
returns-then-not-branch-clause-text c =
    is_none c.args.out.now.items c.push.new.self.items _ c.args.bytes.now (sym c.loop-rest.invariant.text
    ∙ float_none c.loop-rest.out.items c.append_comma.new.out.items c.push_stored.new.out.items c.loop-rest.rest.now c.loop-rest.later _ (omega arith)
    (rw c.split_at.ensures.front at c.in_ok-push_stored.ensures.text) c.if-not-branch.true)

pub returns-then-not-branch-clause-ascii : goal.returns-then-not-branch-clause-ascii
returns-then-not-branch-clause-ascii c = λ ascii.
    c.in_ok-push_stored.ensures.ascii (parted _ _ c.loop-rest.later c.in_ok-append_comma.ensures (c.loop-rest.invariant.ascii (marked _ _ 91 (omega arith) c.in_ok-push.ensures.items ascii)))

pub loop-rest-preserved : goal.loop-rest-preserved
loop-rest-preserved c = record {
  text = rw c.split_at.ensures.back (sym (float_more c.loop-rest.out.items c.append_comma.new.out.items c.push_stored.new.out.items c.loop-rest.rest.now c.loop-rest.later _
      c.in_ok-append_comma.ensures (omega arith) (rw c.split_at.ensures.front at c.in_ok-push_stored.ensures.text) c.if-not-branch.false) ∙ c.loop-rest.invariant.text);
  ascii = λ ascii. c.in_ok-push_stored.ensures.ascii (parted _ _ c.loop-rest.later c.in_ok-append_comma.ensures (c.loop-rest.invariant.ascii ascii));
}

pub returns-then-not-is_empty-clause-text : goal.returns-then-not-is_empty-clause-text
returns-then-not-is_empty-clause-text c =
    is_none c.args.out.now.items c.push.new.self.items _ c.args.bytes.now (sym c.loop-rest.invariant.text ∙ bytes_left c.loop-rest.out.items c.loop-rest.rest.now c.loop-rest.later (omega arith) (eqb-false _ 0 (sym c.if-not-is_empty.ensures)))

pub returns-clause-text : goal.returns-clause-text
returns-clause-text c =
    is_read c.args.out.now.items c.push.new.self.items _ c.args.bytes.now c.in_ok-push.ensures.items
    (sym c.loop-rest.invariant.text ∙ (closed c.loop-rest.out.items c.loop-rest.rest.now c.loop-rest.later (eqb-true _ 0 (sym c.if-not-is_empty.ensures)) ∙ ap Some (sym c.in_ok-push-2.ensures.items)))

pub returns-clause-ascii : goal.returns-clause-ascii
returns-clause-ascii c = λ ascii. marked _ _ 93 (omega arith) c.in_ok-push-2.ensures.items (c.loop-rest.invariant.ascii (marked _ _ 91 (omega arith) c.in_ok-push.ensures.items ascii))
