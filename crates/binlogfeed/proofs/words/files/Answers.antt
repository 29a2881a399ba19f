use Rattle.std.proofs.Common.{ap, codes, ◌∙◌}
use Rattle.std.proofs.lemmas.Result.{IfOk-weaker}
use Rattle.clap.specs.Words.{found_of}
use Rattle.binlogfeed.specs.Words.{texts}
use Rattle.binlogfeed.proofs.Building.{given, none_given}
use Rattle.binlogfeed.proofs.words.files.Goals as goal

pub returns-in-Some : goal.returns-in-Some
returns-in-Some c =
    IfOk-weaker c.copied.result _ _ (λ v is. ap texts is ∙ given (found_of c.args.matches.now) (codes "file") _ c.in-Some.ensures) c.copied.ensures

pub returns-in-None : goal.returns-in-None
returns-in-None c = ap texts c.new.ensures.items ∙ none_given (found_of c.args.matches.now) (codes "file") c.in-None.ensures
