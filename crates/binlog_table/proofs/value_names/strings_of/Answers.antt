use Rattle.std.proofs.Common.{◌≡◌, ℕ, List, ◌++◌, ◌∷◌, [], map, Vec, ap, ◌∙◌}
use Rattle.std.specs.declared.alloc.Global.{Global}
use Rattle.std.proofs.lemmas.List.{map_push}
use Rattle.binlog_table.specs.Fields.{string_at}
use Rattle.binlog_table.proofs.FirstFaults.{fails_first, goes_first, fails_as}
use Rattle.binlog_table.proofs.StringLoop.{strings-step, strings-done}
use Rattle.binlog_table.proofs.value_names.strings_of.Goals as goal

abbrev bytes_in : Vec ℕ Global → List ℕ
bytes_in v = v.items

pub returns-in-Err : goal.returns-in-Err
returns-in-Err c =
    fails_first c.in-Err.fault (string_at c.loop.rest.now) _ _ (fails_as _ _ c.in-Err.ensures) (strings-step c.args.count c.loop.counter (map bytes_in c.loop.strings.items) c.loop.rest.now _ c.loop-test.true c.loop.invariant)

pub loop-preserved : goal.loop-preserved
loop-preserved c =
    let e : map bytes_in c.push.new.self.items ≡ map bytes_in c.loop.strings.items ++ c.in-Ok.value.0.now ∷ [] = rw c.in_ok-push.ensures.items (map_push bytes_in c.loop.strings.items c.in_ok-from_slice.field-0 ∙ ap (λ (s : List ℕ). map bytes_in c.loop.strings.items ++ s ∷ []) c.in_ok-from_slice.ensures.items) in
    rw e (goes_first (string_at c.loop.rest.now) (c.in-Ok.value.0.now, c.in-Ok.value.1.now) _ _ c.in-Ok.ensures (strings-step c.args.count c.loop.counter (map bytes_in c.loop.strings.items) c.loop.rest.now _ c.loop-test.true c.loop.invariant))

pub returns : goal.returns
returns c = strings-done c.args.count c.loop.counter (map bytes_in c.loop.strings.items) c.loop.rest.now _ c.loop-test.false c.loop.invariant
