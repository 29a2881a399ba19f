use Rattle.binlogfeed.proofs.Building.{option_built}
use Rattle.binlogfeed.proofs.commands.value_argument.Goals as goal

pub returns-clause-rule : goal.returns-clause-rule
returns-clause-rule c =
    option_built c.new.result c.long.result c.value_name.result c.help.result c.required.result c.action.result c.args.words.now
    c.new.ensures.rule c.long.ensures c.value_name.ensures c.help.ensures c.required.ensures c.action.ensures
