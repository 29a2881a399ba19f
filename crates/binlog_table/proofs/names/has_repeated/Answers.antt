use Rattle.std.proofs.Common.{◌≤◌, length, refl, arith}
use Rattle.std.proofs.lemmas.List.{length-map}
use Rattle.binlog_table.specs.NameOrder.{name_in}
use Rattle.binlog_table.proofs.NameOrders.{repeated-at}
use Rattle.binlog_table.proofs.names.has_repeated.Goals as goal

pub returns-then-is_repeated-clause-yes : goal.returns-then-is_repeated-clause-yes
returns-then-is_repeated-clause-yes c = λ is names sorted.
    let yes = c.if-is_repeated.ensures.yes refl in
    repeated-at names c.args.sorted.now c.loop-place.place sorted yes.0 (omega arith) yes.1

pub returns-clause-no : goal.returns-clause-no
returns-clause-no c = λ is k lt.
    let end : length c.args.sorted.now ≤ c.loop-place.place = omega arith in
    c.loop-place.invariant k (omega (arith, length-map c.args.sorted.now name_in))
