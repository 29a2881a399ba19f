use Rattle.std.proofs.Common.{◌≡◌, ◌+◌, ◌%◌, ℕ, Some, drop, ap, sym, subst, zero-add, refl, ◌∙◌, arith}
use Rattle.binlog_table.specs.Decimal.{plain, digits_of, group_at, group_len}
use Rattle.binlog_table.specs.DecimalParts.{front_at}
use Rattle.binlog_table.proofs.Options.{stops_at, goes_on}
use Rattle.binlog_table.proofs.DecimalParts.{front-two, front-short, front-long, joined_small}
use Rattle.binlog_table.proofs.decimal.number_in_front.Goals as goal

pub returns-in_err-first-clause-value : goal.returns-in_err-first-clause-value
unfolding front_at
returns-in_err-first-clause-value c = rw (c.from_residual.ensures, ← c.in_err-first.ensures.value) refl

pub returns-then-digits-lt9-clause-value : goal.returns-then-digits-lt9-clause-value
returns-then-digits-lt9-clause-value c =
    let text = plain c.args.text.now in
    rw c.group_len-at.ensures.value (front-short c.args.digits c.in_ok-first.first text (drop (group_len (c.args.digits % 9)) text) c.if-digits-lt9.true (rw zero-add at c.in_ok-first.ensures.value))

pub returns-in_err-last-clause-value : goal.returns-in_err-last-clause-value
returns-in_err-last-clause-value c =
    let text = plain c.args.text.now in
    let first = goes_on (group_at (c.args.digits % 9) text) (digits_of (c.args.digits % 9) c.in_ok-first.first, drop (group_len (c.args.digits % 9)) text) _ _ (rw zero-add at c.in_ok-first.ensures.value) (front-two c.args.digits text c.if-digits-lt9.false c.requires.few) in
    rw c.from_residual-in_err-last.ensures (stops_at _ _ _ (rw c.group_len-at.ensures.value at c.in_err-last.ensures.value) first)

pub returns-clause-value : goal.returns-clause-value
returns-clause-value c =
    let text = plain c.args.text.now in
    let rest = drop (c.group_len-at.result + 4) text in
    let behind : 0 + group_len (c.args.digits % 9) ≡ c.group_len-at.result = zero-add (group_len (c.args.digits % 9)) ∙ sym c.group_len-at.ensures.value in
    let first = subst (λ (at : ℕ). Some (digits_of (c.args.digits % 9) c.in_ok-first.first, drop at text) ≡ group_at (c.args.digits % 9) text) behind c.in_ok-first.ensures.value in
    let whole = front-long c.args.digits c.in_ok-first.first c.in_ok-last.last text (drop c.group_len-at.result text) rest c.if-digits-lt9.false c.requires.few c.in_ok-last.ensures.small first c.in_ok-last.ensures.value in
    ap (λ (n : ℕ). Some (digits_of c.args.digits n, rest)) c.joined.ensures ∙ whole

pub returns-clause-small : goal.returns-clause-small
returns-clause-small c =
    let all : c.args.digits % 9 + 9 ≡ c.args.digits = omega (arith, c.if-digits-lt9.false, c.requires.few) in
    rw c.joined.ensures (joined_small (c.args.digits % 9) 9 c.args.digits c.in_ok-first.first c.in_ok-last.last all c.in_ok-first.ensures.small c.in_ok-last.ensures.small)
