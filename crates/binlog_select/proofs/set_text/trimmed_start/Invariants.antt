use Rattle.std.proofs.Common.{◌≡◌, length}
use Rattle.binlog_select.specs.SetText.{without_leading_blanks}
use Rattle.binlog_select.proofs.set_text.trimmed_start.Given as goal

abbrev pub invariant-loop-rest : goal.invariant-loop-rest
invariant-loop-rest l = without_leading_blanks l.rest ≡ without_leading_blanks l.text

abbrev pub decreases-loop-rest : goal.decreases-loop-rest
decreases-loop-rest l = length l.rest
