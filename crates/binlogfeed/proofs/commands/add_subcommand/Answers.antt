use Rattle.binlogfeed.specs.Commands.{app_of_words}
use Rattle.binlogfeed.proofs.Building.{subcommand_added}
use Rattle.binlogfeed.proofs.commands.add_subcommand.Goals as goal

pub returns-in-Ok-subcommand : goal.returns-in-Ok-subcommand
returns-in-Ok-subcommand c = λ app before.
    subcommand_added c.args.command c.subcommand.result c.subcommand-in-Ok-subcommand.result c.in-Ok.command c.in-Ok-subcommand.added app (app_of_words c.args.words.now)
    c.in-Ok.is c.in-Ok-subcommand.is c.subcommand-in-Ok-subcommand.ensures before c.subcommand.ensures
