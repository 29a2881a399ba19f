use Rattle.binlog_json.proofs.DigitLists.{all_shown, all_but_last_shown}
use Rattle.binlog_json.proofs.digits.shown_fraction.Goals as goal

pub returns-then-precision-eq0 : goal.returns-then-precision-eq0
returns-then-precision-eq0 c = all_shown c.args.precision c.args.fraction c.if-precision-eq0.true

pub returns-else-precision-eq0 : goal.returns-else-precision-eq0
returns-else-precision-eq0 c = all_but_last_shown c.args.precision c.args.fraction c.if-precision-eq0.false
