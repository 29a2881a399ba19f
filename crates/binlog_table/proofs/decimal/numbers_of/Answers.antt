use Rattle.std.proofs.Common.{drop}
use Rattle.binlog_table.specs.Decimal.{plain, digits_of}
use Rattle.binlog_table.proofs.Options.{stops_at, goes_on}
use Rattle.binlog_table.proofs.DecimalParts.{parts-all}
use Rattle.binlog_table.proofs.decimal.numbers_of.Goals as goal

pub returns-in_err-whole-clause-digits : goal.returns-in_err-whole-clause-digits
returns-in_err-whole-clause-digits c =
    rw (c.from_residual.ensures, ← c.size.view_is, ← c.from.ensures, ← c.from-scale.ensures) (stops_at _ _ _ c.in_err-whole.ensures.value (parts-all c.from.result c.from-scale.result (plain c.args.text.now)))

pub returns-in_err-fraction-clause-digits : goal.returns-in_err-fraction-clause-digits
returns-in_err-fraction-clause-digits c =
    let front = goes_on _ (digits_of _ c.in_ok-whole.whole, drop c.in_ok-whole.at (plain c.args.text.now)) _ _ c.in_ok-whole.ensures.value (parts-all c.from.result c.from-scale.result (plain c.args.text.now)) in
    rw (c.from_residual-in_err-fraction.ensures, ← c.size.view_is, ← c.from.ensures, ← c.from-scale.ensures) (stops_at _ _ _ c.in_err-fraction.ensures.value front)

pub returns-clause-digits : goal.returns-clause-digits
returns-clause-digits c =
    let front = goes_on _ (digits_of _ c.in_ok-whole.whole, drop c.in_ok-whole.at (plain c.args.text.now)) _ _ c.in_ok-whole.ensures.value (parts-all c.from.result c.from-scale.result (plain c.args.text.now)) in
    rw (← c.size.view_is, ← c.from.ensures, ← c.from-scale.ensures) (goes_on _ (digits_of _ c.in_ok-fraction.fraction) _ _ c.in_ok-fraction.ensures.value front)
