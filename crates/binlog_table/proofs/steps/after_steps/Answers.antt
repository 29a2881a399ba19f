use Rattle.std.proofs.Common.{drop, arith}
use Rattle.binlog_table.proofs.Options.{stops_at, goes_on}
use Rattle.binlog_table.proofs.CellWalk.{present-step, walk-ends}
use Rattle.binlog_table.proofs.steps.after_steps.Goals as goal

pub returns-in_err-len-clause-value : goal.returns-in_err-len-clause-value
returns-in_err-len-clause-value g c = λ present all.
    let null = c.bit_of-is_null.ensures (λ a. c.requires.nulls a c.loop-place.place) in
    let step = present-step c.args.columns.now present c.args.nulls.now c.loop-place.place c.index-columns-place.result _ c.loop-place.at c.args.body.now _ c.loop-place-test.true c.index-columns-place.is all null (c.loop-place.invariant.ends present all) in
    rw c.from_residual.ensures (stops_at _ _ _ c.in_err-len.ensures.value step)

pub loop-place-preserved : goal.loop-place-preserved
loop-place-preserved g c = record {
  front = omega (arith, c.loop-place.invariant.front);
  within = omega (arith, c.in_ok-len.ensures.within);
  ends = λ present all.
      let null = c.bit_of-is_null.ensures (λ a. c.requires.nulls a c.loop-place.place) in
      let step = present-step c.args.columns.now present c.args.nulls.now c.loop-place.place c.index-columns-place.result _ c.loop-place.at c.args.body.now _ c.loop-place-test.true c.index-columns-place.is all null (c.loop-place.invariant.ends present all) in
      goes_on _ c.in_ok-len.len _ _ c.in_ok-len.ensures.value step;
}

pub returns-clause-value : goal.returns-clause-value
returns-clause-value g c = λ present all.
    walk-ends c.args.columns.now present c.args.nulls.now c.loop-place.place c.loop-place.place c.loop-place.at (drop c.loop-place.at c.args.body.now) _ c.loop-place-test.false (c.loop-place.invariant.ends present all)
