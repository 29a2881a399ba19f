use Rattle.std.proofs.lemmas.List.{take_rest}
use Rattle.binlog_json.proofs.LabelTexts.{without_first}
use Rattle.binlog_json.proofs.labels.joined.Goals as goal

pub returns-else-later-clause-label : goal.returns-else-later-clause-label
returns-else-later-clause-label c = rw (c.if-later.false, take_rest c.args.label.now 1) (without_first c.args.label.now c.args.count c.requires.some)
