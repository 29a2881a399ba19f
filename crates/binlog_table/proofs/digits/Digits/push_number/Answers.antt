use Rattle.std.proofs.Common.{ℕ, ◌<◌, ◌≤◌, ◌+◌, List, length, take, subst, sym, ap, arith}
use Rattle.std.specs.List.{All}
use Rattle.std.proofs.lemmas.List.{length-take}
use Rattle.std.proofs.lemmas.List.Elements.{All-append}
use Rattle.binlog_table.specs.Decimal.{digits_of}
use Rattle.binlog_table.proofs.DecimalDigitLists.{digits_of-small}
use Rattle.binlog_table.proofs.digits.Digits.push_number.Goals as goal

pub invariant_of-self : goal.invariant_of-self
invariant_of-self c =
    let front = take c.self.inside.len c.self.inside.digits in
    let digits = digits_of c.args.len c.args.number in
    let seen = ap (λ (ds : List ℕ). length ds) c.self.view_is in
    let room : c.self.inside.len + c.args.len ≤ 65 = grind (arith, length-take) in
    (room, subst (All (λ (x : ℕ). x < 10)) (sym c.write_digits.ensures) (All-append (λ (x : ℕ). x < 10) front digits c.self.invariant.1 (digits_of-small c.args.len c.args.number)))
