use Rattle.std.proofs.Common.{refl, Some, ap, codes, inr, sym, ◌∙◌}
use Rattle.clap.specs.Words.{found_of, rows_of}
use Rattle.binlogfeed.specs.Words.{texts}
use Rattle.binlogfeed.specs.declared.words_fault.WordsFault.TheVariants.{OutOfMemory}
use Rattle.binlogfeed.proofs.Found.{failed}
use Rattle.binlogfeed.proofs.words.read.Goals as goal

pub returns-in_err-files : goal.returns-in_err-files
returns-in_err-files c = failed (Some (codes "read", rows_of (found_of c.args.matches.now))) OutOfMemory c.from_residual.result tt c.from_residual.ensures.1

pub returns-then-lacks_files : goal.returns-then-lacks_files
returns-then-lacks_files c =
    let lacks = c.lacks_files.ensures.yes c.if-lacks_files.true in
    inr (rows_of (found_of c.args.matches.now), refl, lacks.0, sym c.in_ok-files.ensures ∙ ap texts (sym c.deref.ensures.value) ∙ lacks.1)

pub returns-in_default : goal.returns-in_default
returns-in_default c = (codes "read", rows_of (found_of c.args.matches.now), refl, sym c.profile_given.ensures ∙ c.in_default.is)
