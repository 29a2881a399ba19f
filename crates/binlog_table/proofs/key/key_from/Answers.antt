use Rattle.std.proofs.Common.{◌≡◌, ◌<◌, true, ◌∷◌, ◌++◌, [], length, ◌∙◌, arith}
use Rattle.std.proofs.lemmas.List.{length-set}
use Rattle.std.proofs.lemmas.Bool.Decides.{nat_tests}
use Rattle.std.proofs.lemmas.List.Elements.{All-push}
use Rattle.binlog_table.specs.Names.{index_at, new_index}
use Rattle.binlog_table.proofs.FirstFaults.{fails_first, goes_first, fails_as}
use Rattle.binlog_table.proofs.MapListReadings.{index-less}
use Rattle.binlog_table.proofs.KeyLoop.{key-step, key-more, key-end, marks-more, marks-index}
use Rattle.binlog_table.proofs.key.key_from.Goals as goal

pub returns-in-Err-clause-key : goal.returns-in-Err-clause-key
returns-in-Err-clause-key c =
    let step = key-step c.args.prefixed c.args.count c.loop-rest.key.items c.loop-rest.rest.now _ (grind (arith, nat_tests)) c.loop-rest.invariant.read in
    fails_first c.in-Err.fault (index_at c.args.prefixed c.loop-rest.rest.now) _ _ (fails_as _ _ c.in-Err.ensures) step

pub returns-in-Err-unseen-clause-key : goal.returns-in-Err-unseen-clause-key
returns-in-Err-unseen-clause-key c =
    let step = key-step c.args.prefixed c.args.count c.loop-rest.key.items c.loop-rest.rest.now _ (grind (arith, nat_tests)) c.loop-rest.invariant.read in
    let new = marks-index c.args.count c.loop-rest.seen.items c.loop-rest.key.items c.in-Ok.value.0 c.loop-rest.invariant.len c.loop-rest.invariant.marks in
    fails_first c.in-Err-unseen.fault (new_index c.args.count c.loop-rest.key.items c.in-Ok.value.0) _ _ (fails_as _ _ (new ∙ rw c.deref.ensures.value at c.in-Err-unseen.ensures.value))
    (goes_first (index_at c.args.prefixed c.loop-rest.rest.now) (c.in-Ok.value.0, c.in-Ok.value.1.now) _ _ c.in-Ok.ensures step)

pub loop-rest-smaller : goal.loop-rest-smaller
loop-rest-smaller c = index-less c.args.prefixed c.loop-rest.rest.now (c.in-Ok.value.0, c.in-Ok.value.1.now) c.in-Ok.ensures

pub loop-rest-preserved : goal.loop-rest-preserved
loop-rest-preserved c =
    let items : c.push.new.self.items ≡ c.loop-rest.key.items ++ c.in-Ok-unseen.value ∷ [] = c.in_ok-push.ensures.items in
    let below : c.in-Ok-unseen.value < length c.loop-rest.seen.items = rw c.deref.ensures.value at c.in-Ok-unseen.ensures.below in
    let new = marks-index c.args.count c.loop-rest.seen.items c.loop-rest.key.items c.in-Ok.value.0 c.loop-rest.invariant.len c.loop-rest.invariant.marks in
    record {
      below = rw items (All-push (λ i. i < c.args.count) c.loop-rest.key.items c.in-Ok-unseen.value c.loop-rest.invariant.below (omega (arith, below, c.loop-rest.invariant.len)));
      len = length-set c.loop-rest.seen.items c.in-Ok-unseen.value true ∙ c.loop-rest.invariant.len;
      marks = rw items (marks-more c.loop-rest.seen.items c.loop-rest.key.items c.in-Ok-unseen.value below c.loop-rest.invariant.marks);
      read = rw items (key-more c.args.prefixed c.args.count c.loop-rest.key.items c.loop-rest.rest.now _ (c.in-Ok.value.0, c.in-Ok.value.1.now) c.in-Ok-unseen.value (grind (arith, nat_tests)) c.loop-rest.invariant.read c.in-Ok.ensures (new ∙ rw c.deref.ensures.value at c.in-Ok-unseen.ensures.value));
    }

pub returns-clause-key : goal.returns-clause-key
returns-clause-key c = key-end c.args.prefixed c.args.count c.loop-rest.key.items c.loop-rest.rest.now _ (grind (arith, nat_tests)) c.loop-rest.invariant.read
