use Rattle.std.proofs.Common.{List, ℕ, length, ap, arith}
use Rattle.std.proofs.lemmas.List.{length-append}
use Rattle.binlog_table.specs.Decimal.{digits_of}
use Rattle.binlog_table.proofs.DecimalDigitLists.{digits_of-length}
use Rattle.binlog_table.proofs.decimal.push_group.Goals as goal

pub returns-clause-len : goal.returns-clause-len
returns-clause-len c =
    let number = c.in_ok-number.number in
    omega (arith, ap (λ (ds : List ℕ). length ds) c.push_number.ensures, length-append c.args.digits.now (digits_of c.args.len number), digits_of-length c.args.len number)
