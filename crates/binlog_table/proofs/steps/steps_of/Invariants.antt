use Rattle.binlog_table.specs.Steps.{AreFirstSteps}
use Rattle.binlog_table.proofs.steps.steps_of.Given as goal

abbrev pub invariant-loop-column : goal.invariant-loop-column
invariant-loop-column l = AreFirstSteps l.column-index l.columns l.steps.items
