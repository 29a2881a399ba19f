use Rattle.std.proofs.Common.{arith}
use Rattle.std.proofs.lemmas.List.{length-set}
use Rattle.binlog_json.proofs.DigitLists.{shown_more, shown_whole}
use Rattle.binlog_json.proofs.digits.shown_digits.Goals as goal

pub loop-place-preserved : goal.loop-place-preserved
loop-place-preserved c = record {
  size = simp length-set c.loop-place.invariant.size;
  front = shown_more c.args.digits.now c.loop-place.shown c.loop-place.place c.loop-place-test.true (omega (arith, c.requires.few, c.loop-place.invariant.size)) c.loop-place.invariant.front;
}

pub returns : goal.returns
returns c = shown_whole c.args.digits.now c.loop-place.shown c.loop-place.place (omega arith) c.loop-place.invariant.front
