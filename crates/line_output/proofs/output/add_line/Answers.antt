use Rattle.std.proofs.Common.{List, ℕ, ◌++◌, ap, subst, ◌∙◌}
use Rattle.line_output.specs.Sending.{AppendsBeginning, IsSending}
use Rattle.line_output.proofs.Sending.{add_failed}
use Rattle.line_output.proofs.output.add_line.Goals as goal

pub returns-clause-adds : goal.returns-clause-adds
returns-clause-adds g c =
    subst (λ (text : List ℕ). IsSending (g.W.Write.contents c.args.out.now) (g.W.Write.contents c.send_enough.new.out) c.send_enough.new.waiting.items text)
    (c.in_ok-extend_from_slice.ensures.items ∙ ap (λ (text : List ℕ). c.args.waiting.now.items ++ text) c.as_bytes.ensures.value) c.in_ok-send_enough.ensures.ok

pub returns-in_err-send_enough-clause-adds : goal.returns-in_err-send_enough-clause-adds
returns-in_err-send_enough-clause-adds g c =
    add_failed (g.W.Write.contents c.args.out.now) (g.W.Write.contents c.send_enough.new.out) c.args.waiting.now.items c.send_enough.new.waiting.items c.args.line.now
    c.from_residual-in_err-send_enough.result
    (subst (λ (text : List ℕ). AppendsBeginning (g.W.Write.contents c.args.out.now) (g.W.Write.contents c.send_enough.new.out) text)
    (c.in_ok-extend_from_slice.ensures.items ∙ ap (λ (text : List ℕ). c.args.waiting.now.items ++ text) c.as_bytes.ensures.value) c.in_err-send_enough.ensures.err)
    c.from_residual-in_err-send_enough.ensures.1
