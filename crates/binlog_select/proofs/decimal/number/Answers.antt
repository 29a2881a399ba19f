use Rattle.std.proofs.Common.{arith}
use Rattle.std.proofs.lemmas.Bool.Decides.{nat_tests}
use Rattle.binlog_select.proofs.DecimalLemmas.{overflows}
use Rattle.binlog_select.proofs.decimal.number.Goals as goal

pub returns-in_default : goal.returns-in_default
returns-in_default c =
    overflows c.args.digits.now c.loop-digit.digit-index c.loop-digit.value (omega arith) (grind (arith, nat_tests)) (grind (arith, nat_tests)) c.in_default.ensures c.loop-digit.invariant.2
