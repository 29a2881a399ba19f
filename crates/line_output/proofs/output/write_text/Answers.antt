use Rattle.std.proofs.Common.{◌-◌, ◌++◌, length, take, drop, sym, ap, subst, ◌∙◌, arith, length-take}
use Rattle.line_output.proofs.Sending.{beginning_taken, beginning_more, appends_kept}
use lib.Seq.{take-add, take-take}
use Rattle.std.specs.Io.KnownBytes.{Appends}
use Rattle.std.proofs.KnownBytes.{Appends-trans}
use Rattle.line_output.proofs.output.write_text.Goals as goal

pub loop-written-preserved : goal.loop-written-preserved
loop-written-preserved g c =
    let done = c.loop-written.written in
    let n = c.in-Ok.count in
    let xs = c.args.text.now in
    let before = c.loop-written.invariant in
    let fits = c.in-Ok.ensures.bound in
    let most = length-take (length xs - done) (drop done xs) in
    let joined = ap (λ l. take done xs ++ l) (take-take n (length xs - done) (drop done xs) (omega arith)) ∙ sym (take-add done n xs) in
    (omega arith, subst (Appends _ _) joined (Appends-trans _ _ _ _ _ before.1 c.in-Ok.ensures.bytes))

pub returns-in-Ok-eq0-clause-err : goal.returns-in-Ok-eq0-clause-err
returns-in-Ok-eq0-clause-err g c =
    let before = c.loop-written.invariant in
    beginning_more _ _ _ c.loop-written.written _ (Appends-trans _ _ _ _ _ before.1 c.in-Ok-eq0.ensures.bytes)

pub returns-in-Err-clause-err : goal.returns-in-Err-clause-err
returns-in-Err-clause-err g c =
    let before = c.loop-written.invariant in
    beginning_taken _ _ _ c.loop-written.written (appends_kept _ _ _ _ before.1 c.in-Err.ensures.bytes)
