use Rattle.std.proofs.Common.{arith}
use Rattle.std.proofs.lemmas.Grind.{common_steps}
use Rattle.binlog_json.proofs.DigitLists.{left_shown, left_utf8}
use Rattle.binlog_json.proofs.digits.push_whole.Goals as goal

pub from_utf8_unchecked-requires : goal.from_utf8_unchecked-requires
from_utf8_unchecked-requires c = left_utf8 c.args.digits.now c.args.shown.now c.loop-at.at c.requires.digits c.requires.shown

pub returns : goal.returns
returns c =
    let left = left_shown c.args.digits.now c.args.shown.now c.loop-at.at c.requires.shown in
    grind (arith, common_steps)
