use Rattle.std.proofs.Common.{◌≡◌, Option, option_map, ap}
use Rattle.binlog_table.specs.Decimal.{Decimal}
use Rattle.binlog_table.specs.Value.{decimal}
use Rattle.binlog_table.specs.DecimalDigits.{DecimalDigits}
use Rattle.binlog_table.proofs.WholeDecimals.{decimal-some, decimal-none}
use Rattle.binlog_table.proofs.decimal.decimal_of.Goals as goal

pub returns-then-has_digits : goal.returns-then-has_digits
returns-then-has_digits c =
    let precision : c.size.inside.precision ≡ c.args.size.precision = ap (λ (d : DecimalDigits). d.precision) c.size.view_is in
    let scale : c.size.inside.scale ≡ c.args.size.scale = ap (λ (d : DecimalDigits). d.scale) c.size.view_is in
    rw (precision, scale) (ap (λ (o : Option Decimal). option_map decimal o) (decimal-some c.args.size.precision c.args.size.scale c.args.text.now c.if-has_digits.ensures))

pub returns-else-has_digits : goal.returns-else-has_digits
returns-else-has_digits c = ap (λ (o : Option Decimal). option_map decimal o) (decimal-none c.args.size.precision c.args.size.scale c.args.text.now c.if-has_digits.ensures)
