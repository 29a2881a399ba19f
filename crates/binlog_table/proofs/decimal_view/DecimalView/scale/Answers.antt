use Rattle.std.proofs.Common.{arith}
use Rattle.binlog_table.specs.Decimal.{plain}
use Rattle.binlog_table.proofs.DecimalDigitLists.{shown-length}
use Rattle.binlog_table.proofs.decimal_view.DecimalView.scale.Goals as goal

pub returns-clause-within : goal.returns-clause-within
returns-clause-within c =
    let d = c.args.self.now in
    omega (arith, shown-length d.precision d.scale (plain d.text.now) d.size.within d.has_digits, c.from.ensures)
