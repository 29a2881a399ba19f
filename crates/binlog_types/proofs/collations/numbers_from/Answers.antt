use Rattle.std.proofs.Common.{◌≡◌, ◌-◌, Some, None}
use Rattle.std.proofs.lemmas.List.{take_rest}
use Rattle.binlog_table.specs.Packed.{packed_at}
use Rattle.binlog_types.specs.ColumnTypes.{numbers_from}
use Rattle.binlog_types.proofs.Numbers.{numbers-more, numbers-none, numbers-end}
use Rattle.binlog_types.proofs.collations.numbers_from.Goals as goal

pub returns-in_default : goal.returns-in_default
returns-in_default c =
    let none : packed_at c.loop.rest.now ≡ None = cc c.in_default.ensures.value in
    numbers-none c.loop.numbers.items c.loop.rest.now (numbers_from c.args.most c.args.bytes.now) (c.args.most - c.loop.counter) c.loop.invariant none

pub loop-preserved : goal.loop-preserved
loop-preserved c =
    let some : packed_at c.loop.rest.now ≡ Some (c.in-Some.number, c.in-Some.len) = cc c.in-Some.ensures.value in
    rw (c.in_ok-push.ensures.items, take_rest c.loop.rest.now c.in-Some.len)
    (numbers-more c.loop.numbers.items c.loop.rest.now (numbers_from c.args.most c.args.bytes.now) c.args.most c.loop.counter (c.in-Some.number, c.in-Some.len) c.loop-test.true c.loop.invariant some)

pub returns : goal.returns
returns c = numbers-end c.loop.numbers.items c.loop.rest.now (numbers_from c.args.most c.args.bytes.now) c.args.most c.loop.counter c.loop-test.false c.loop.invariant
