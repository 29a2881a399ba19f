use Rattle.binlog_table.specs.DecimalShown.{decimal_view}
use Rattle.binlog_json.proofs.LineParts.{always}
use Rattle.binlog_json.proofs.SplitTexts.{quoted_split}
use Rattle.binlog_json.proofs.texts.push_decimal.Goals as goal

pub returns-in-Some-clause-as_is : goal.returns-in-Some-clause-as_is
returns-in-Some-clause-as_is c = always c.push_split.result _ (quoted_split (decimal_view c.args.decimal) c.in-Some.whole c.in-Some.fraction c.in-Some.ensures.parts)
