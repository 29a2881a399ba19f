use Rattle.std.proofs.Common.{◌≡◌, ◌≤◌, ◌+◌, ◌<◌, ℕ, length, [], ◌∷◌, ◌++◌, List, sym, subst, ap, ◌∙◌, arith}
use Rattle.binlog_table.specs.declared.steps.Step.{Step}
use Rattle.binlog_table.specs.Steps.{AreFirstSteps, AreSteps, IsStepOf}
use Rattle.binlog_table.proofs.StepsOver.{one_more}
use Rattle.binlog_table.proofs.steps.steps_of.Goals as goal

pub loop-column-init : goal.loop-column-init
loop-column-init c = (ap length c.new-steps.ensures.items, λ i column step lt. absurd (omega arith))

pub loop-column-preserved : goal.loop-column-preserved
loop-column-preserved c =
    subst (λ (steps : List Step). AreFirstSteps (c.loop-column.column-index + 1) c.args.columns.now steps) (sym c.in_ok-push.ensures.items)
    (one_more c.args.columns.now c.loop-column.steps.items c.loop-column.column-index c.column-item.result c.step_of.result c.loop-column.invariant c.loop-column-test.true c.column-item.is c.step_of.ensures)

pub returns : goal.returns
returns c =
    let all : c.loop-column.column-index ≡ length c.args.columns.now = omega (arith, c.loop-column-test.false, c.loop-column.auto.column-index-end) in
    subst (λ (n : ℕ). AreFirstSteps n c.args.columns.now c.loop-column.steps.items) all c.loop-column.invariant
