-- A decimal without where it lies in memory.
use Rattle.std.specs.Prelude.{[], unwrap_or}
use Rattle.binlog_table.specs.declared.decimal_view.DecimalView.{DecimalView}
use Rattle.binlog_table.specs.Decimal.{Decimal, is_negative, plain, digits_at}

abbrev pub decimal_view : DecimalView → Decimal
decimal_view d = record {
  negative = is_negative d.text.now;
  digits = unwrap_or (digits_at d.precision d.scale (plain d.text.now)) [];
  scale = d.scale;
}
