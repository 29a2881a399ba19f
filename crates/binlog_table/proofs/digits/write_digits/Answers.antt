use Rattle.std.proofs.Common.{◌+◌, ◌-◌, ◌%◌, ◌≤◌, length, arith, ◌∙◌}
use Rattle.std.proofs.lemmas.List.{length-set, take-set-le}
use Rattle.binlog_table.proofs.DecimalDigitLists.{left-next, digit-before, digits-written}
use Rattle.binlog_table.proofs.digits.write_digits.Goals as goal

pub loop-place-preserved : goal.loop-place-preserved
loop-place-preserved c =
    let l = c.loop-place in
    let room : c.args.start + c.args.len ≤ length l.digits = omega (arith, l.invariant.size, c.requires) in
    record {
      within = omega arith;
      size = simp length-set l.invariant.size;
      before = take-set-le c.args.start l.digits (c.args.start + (l.place - 1)) (l.left % 10) (omega arith) ∙ l.invariant.before;
      left = left-next l.digits c.args.start l.place c.args.len c.args.number l.left c.loop-place-test.true l.invariant.within room l.invariant.left;
      written = digit-before l.digits c.args.start l.place c.args.len c.args.number l.left c.loop-place-test.true l.invariant.within room l.invariant.left l.invariant.written;
    }

pub returns : goal.returns
returns c =
    digits-written c.loop-place.digits c.args.digits.now c.args.start c.loop-place.place c.args.len c.args.number (omega (arith, c.loop-place-test.false)) c.loop-place.invariant.before c.loop-place.invariant.written
