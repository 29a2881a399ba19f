use Rattle.std.proofs.Common.{◌≡◌, ◌<◌, length, get_or, arith}
use Rattle.binlog_select.proofs.DecimalLemmas.{leading_zero, plain_number_is}
use Rattle.binlog_select.proofs.decimal.plain_number.Goals as goal
use Rattle.binlog_select.proofs.decimal.plain_number.Goals.{else-digits-gt1-via-then-digits-gt1+else-digits-eq48, else-digits-gt1-via-else-digits-gt1}

pub returns-then-digits-eq48 : goal.returns-then-digits-eq48
returns-then-digits-eq48 c = leading_zero c.args.digits.now c.if-digits-gt1.true c.if-digits-eq48.true

pub returns : goal.returns
returns c =
    let plain : 1 < length c.args.digits.now → get_or c.args.digits.now 0 0 ≡ 48 → ⊥ =
    elim c.else-digits-gt1.branch [
      | else-digits-gt1-via-then-digits-gt1+else-digits-eq48 w ↦ λ long first. w.if-digits-eq48.false first
      | else-digits-gt1-via-else-digits-gt1 w ↦ λ long first. absurd (omega arith)
    ] in
    rw c.number.ensures (plain_number_is c.args.digits.now plain)
