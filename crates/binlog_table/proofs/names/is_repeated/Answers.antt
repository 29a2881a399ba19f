use Rattle.std.proofs.Common.{◌-◌, arith}
use Rattle.binlog_table.proofs.NameOrders.{same-names}
use Rattle.binlog_table.proofs.names.is_repeated.Goals as goal

pub returns-then-place-gt0-clause-yes : goal.returns-then-place-gt0-clause-yes
returns-then-place-gt0-clause-yes c = λ yes.
    (c.if-place-gt0.true, (same-names c.args.sorted.now (c.args.place - 1) c.args.place _ _ c.eq.result (omega arith) c.requires c.eq.ensures).0 yes)

pub returns-then-place-gt0-clause-no : goal.returns-then-place-gt0-clause-no
returns-then-place-gt0-clause-no c = λ no some same.
    let yes = (same-names c.args.sorted.now (c.args.place - 1) c.args.place _ _ c.eq.result (omega arith) c.requires c.eq.ensures).1 same in
    absurd cc
