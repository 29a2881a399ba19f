use Rattle.binlogfeed.proofs.Building.{flag_built}
use Rattle.binlogfeed.proofs.commands.flag_argument.Goals as goal

pub returns-clause-rule : goal.returns-clause-rule
returns-clause-rule c =
    flag_built c.new.result c.long.result c.help.result c.action.result c.args.words.now c.new.ensures.rule c.long.ensures c.help.ensures c.action.ensures
