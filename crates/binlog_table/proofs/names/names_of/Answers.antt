use Rattle.std.proofs.Common.{◌≡◌, ℕ, List, ◌++◌, ◌∷◌, [], map, ap, ◌∙◌, arith}
use Rattle.std.proofs.lemmas.List.{map_push}
use Rattle.std.specs.String.{string_bytes}
use Rattle.binlog_table.specs.Fields.{text_of, string_at}
use Rattle.binlog_table.proofs.FirstFaults.{fails_first, goes_first, fails_as}
use Rattle.binlog_table.proofs.StringLoop.{names-step, names-done}
use Rattle.binlog_table.proofs.names.names_of.Goals as goal

pub returns-in-Err-clause-names : goal.returns-in-Err-clause-names
returns-in-Err-clause-names c =
    fails_first c.in-Err.fault (string_at c.loop.rest.now) _ _ (fails_as _ _ c.in-Err.ensures) (names-step c.args.count c.loop.counter (map string_bytes c.loop.names.items) c.loop.rest.now _ c.loop-test.true c.loop.invariant.read)

pub returns-in-Err-text_of-clause-names : goal.returns-in-Err-text_of-clause-names
returns-in-Err-text_of-clause-names c =
    fails_first c.in-Err-text_of.fault (text_of c.in-Ok.value.0.now) _ _ (fails_as _ _ c.in-Err-text_of.ensures)
    (goes_first (string_at c.loop.rest.now) (c.in-Ok.value.0.now, c.in-Ok.value.1.now) _ _ c.in-Ok.ensures (names-step c.args.count c.loop.counter (map string_bytes c.loop.names.items) c.loop.rest.now _ c.loop-test.true c.loop.invariant.read))

pub loop-preserved : goal.loop-preserved
loop-preserved c =
    let e : map string_bytes c.push.new.self.items ≡ map string_bytes c.loop.names.items ++ c.in-Ok-text_of.value.now ∷ [] = rw c.in_ok-push.ensures.items (map_push string_bytes c.loop.names.items c.in_ok-from_str.field-0 ∙ ap (λ (s : List ℕ). map string_bytes c.loop.names.items ++ s ∷ []) c.in_ok-from_str.ensures.ok) in
    let step = names-step c.args.count c.loop.counter (map string_bytes c.loop.names.items) c.loop.rest.now _ c.loop-test.true c.loop.invariant.read in
    record {
      count = omega (arith, c.in_ok-push.ensures.len, c.loop.invariant.count);
      read = rw e (goes_first (text_of c.in-Ok.value.0.now) c.in-Ok-text_of.value.now _ _ c.in-Ok-text_of.ensures (goes_first (string_at c.loop.rest.now) (c.in-Ok.value.0.now, c.in-Ok.value.1.now) _ _ c.in-Ok.ensures step));
    }

pub returns-clause-names : goal.returns-clause-names
returns-clause-names c = names-done c.args.count c.loop.counter (map string_bytes c.loop.names.items) c.loop.rest.now _ c.loop-test.false c.loop.invariant.read
