use Rattle.std.proofs.Common.{◌+◌, ◌≡◌, cond, arith, drop}
use Rattle.std.proofs.lemmas.List.{take_rest}
use Rattle.binlog_table.specs.Image.{bit}
use Rattle.binlog_table.proofs.Options.{stops_at, goes_on}
use Rattle.binlog_table.proofs.CellWalk.{walk-step, walk-ends}
use Rattle.binlog_table.proofs.image.after_cells.Goals as goal
use Rattle.binlog_table.proofs.image.after_cells.Goals.{then-is_present, else-is_present}

pub returns-in_err-len-clause-value : goal.returns-in_err-len-clause-value
returns-in_err-len-clause-value c =
    let step = walk-step c.args.columns.now c.args.present.now c.args.nulls.now c.loop-place.place c.loop-place.null_place c.index-columns-place.result c.loop-place.at c.args.body.now _ c.loop-place-test.true c.index-columns-place.is c.loop-place.invariant.ends in
    rw c.from_residual.ensures (stops_at _ _ _ (rw (c.bit-is_present.ensures, c.bit.ensures, take_rest c.args.body.now c.loop-place.at) at c.in_err-len.ensures.value) step)

pub loop-place-preserved : goal.loop-place-preserved
loop-place-preserved c =
    let next : c.if-is_present.null_place ≡ cond (bit c.args.present.now c.loop-place.place) (c.loop-place.null_place + 1) c.loop-place.null_place = elim c.if-is_present.branch [ then-is_present w ↦ grind arith | else-is_present w ↦ grind arith ] in
    let step = walk-step c.args.columns.now c.args.present.now c.args.nulls.now c.loop-place.place c.loop-place.null_place c.index-columns-place.result c.loop-place.at c.args.body.now _ c.loop-place-test.true c.index-columns-place.is c.loop-place.invariant.ends in
    record {
      within = omega (arith, c.in_ok-len.ensures.within);
      nulls = elim c.if-is_present.branch [ then-is_present w ↦ omega arith | else-is_present w ↦ omega arith ];
      ends = rw next (goes_on _ c.in_ok-len.len _ _ (rw (c.bit-is_present.ensures, c.bit.ensures, take_rest c.args.body.now c.loop-place.at) at c.in_ok-len.ensures.value) step);
    }

pub returns-clause-value : goal.returns-clause-value
returns-clause-value c = walk-ends c.args.columns.now c.args.present.now c.args.nulls.now c.loop-place.place c.loop-place.null_place c.loop-place.at (drop c.loop-place.at c.args.body.now) _ c.loop-place-test.false c.loop-place.invariant.ends
