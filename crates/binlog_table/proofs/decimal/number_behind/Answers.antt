use Rattle.std.proofs.Common.{◌≡◌, ◌+◌, ◌%◌, ℕ, Some, drop, ap, ◌∙◌, arith}
use Rattle.binlog_table.specs.Decimal.{plain, digits_of, group_len}
use Rattle.binlog_table.proofs.Options.{stops_at, goes_on}
use Rattle.binlog_table.proofs.DecimalParts.{behind-two, behind-short, behind-long, joined_small}
use Rattle.binlog_table.proofs.decimal.number_behind.Goals as goal

pub returns-then-digits-lt9-clause-value : goal.returns-then-digits-lt9-clause-value
returns-then-digits-lt9-clause-value c =
    let text = plain c.args.text.now in
    behind-short c.args.digits (drop c.args.at text) (drop (c.args.at + group_len (c.args.digits % 9)) text) c.group_at.result c.if-digits-lt9.true c.group_at.ensures.value

pub returns-in_err-first-clause-value : goal.returns-in_err-first-clause-value
returns-in_err-first-clause-value c =
    rw c.from_residual.ensures (stops_at _ _ _ c.in_err-first.ensures.value (behind-two c.args.digits (drop c.args.at (plain c.args.text.now)) c.if-digits-lt9.false c.requires.few))

pub returns-in_err-last-clause-value : goal.returns-in_err-last-clause-value
returns-in_err-last-clause-value c =
    let text = plain c.args.text.now in
    let first = goes_on _ (digits_of 9 c.in_ok-first.first, drop (c.args.at + 4) text) _ _ c.in_ok-first.ensures.value (behind-two c.args.digits (drop c.args.at text) c.if-digits-lt9.false c.requires.few) in
    rw c.from_residual-in_err-last.ensures (stops_at _ _ _ c.in_err-last.ensures.value first)

pub returns-clause-value : goal.returns-clause-value
returns-clause-value c =
    let text = plain c.args.text.now in
    let len = c.args.digits % 9 in
    let whole = behind-long c.args.digits c.in_ok-first.first c.in_ok-last.last (drop c.args.at text) (drop (c.args.at + 4) text) (drop (c.args.at + 4 + group_len len) text) c.if-digits-lt9.false c.requires.few c.in_ok-last.ensures.small c.in_ok-first.ensures.value c.in_ok-last.ensures.value in
    ap (λ (n : ℕ). Some (digits_of c.args.digits n)) c.joined.ensures ∙ whole

pub returns-clause-small : goal.returns-clause-small
returns-clause-small c =
    let all : 9 + c.args.digits % 9 ≡ c.args.digits = omega (arith, c.if-digits-lt9.false, c.requires.few) in
    rw c.joined.ensures (joined_small 9 (c.args.digits % 9) c.args.digits c.in_ok-first.first c.in_ok-last.last all c.in_ok-first.ensures.small c.in_ok-last.ensures.small)
