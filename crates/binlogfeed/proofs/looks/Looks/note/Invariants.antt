use Rattle.binlogfeed.specs.LookSteps.{look_at_files}
use Rattle.binlogfeed.proofs.looks.Looks.note.Given as goal

abbrev pub ghost-add_for : goal.ghost-add_for
ghost-add_for g a = look_at_files a._logs.now
