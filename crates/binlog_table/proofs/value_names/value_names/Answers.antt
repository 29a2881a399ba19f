use Rattle.std.proofs.Common.{◌≡◌, [], ◌∷◌, ◌++◌, map, true, false, refl, sym, ◌∙◌, arith}
use Rattle.std.proofs.lemmas.List.{map_push}
use Rattle.binlog_table.specs.MapReads.{bytes_if}
use Rattle.binlog_table.specs.Names.{value_names_of, value_names_at, value_names}
use Rattle.binlog_table.specs.ValueNamesShown.{names_view}
use Rattle.binlog_table.proofs.FirstFaults.{fails_first, goes_first}
use Rattle.binlog_table.proofs.ValueNameLoop.{value-names-step, value-names-left}
use Rattle.binlog_table.proofs.value_names.value_names.Goals as goal

pub returns-in-Err-clause-names : goal.returns-in-Err-clause-names
unfolding value_names
returns-in-Err-clause-names c =
    let step = value-names-step c.args.columns.now c.loop-column.column-index (map names_view c.loop-column.all.items) (bytes_if c.loop-column.sets_left, bytes_if c.loop-column.enums_left) _ c.column-item.result c.loop-column-test.true c.column-item.is c.loop-column.invariant.read in
    let stop = fails_first c.in-Err.fault (value_names_of c.column-item.result.layout (bytes_if c.loop-column.sets_left) (bytes_if c.loop-column.enums_left)) _ _ c.in-Err.ensures step in
    fails_first c.in-Err.fault (value_names_at c.args.columns.now (bytes_if c.args.sets) (bytes_if c.args.enums)) _ _ stop refl

pub loop-column-preserved : goal.loop-column-preserved
loop-column-preserved c =
    let e : map names_view c.push.new.self.items ≡ map names_view c.loop-column.all.items ++ names_view c.in-Ok.value.names ∷ [] = rw c.in_ok-push.ensures.items (map_push names_view c.loop-column.all.items c.in-Ok.value.names) in
    let step = value-names-step c.args.columns.now c.loop-column.column-index (map names_view c.loop-column.all.items) (bytes_if c.loop-column.sets_left, bytes_if c.loop-column.enums_left) _ c.column-item.result c.loop-column-test.true c.column-item.is c.loop-column.invariant.read in
    record {
      count = omega (arith, c.in_ok-push.ensures.len, c.loop-column.invariant.count);
      read = rw e (goes_first (value_names_of c.column-item.result.layout (bytes_if c.loop-column.sets_left) (bytes_if c.loop-column.enums_left)) (names_view c.in-Ok.value.names, (bytes_if c.in-Ok.value.sets, bytes_if c.in-Ok.value.enums)) _ _ c.in-Ok.ensures step);
    }

pub returns-then-not-is_used_up-clause-names : goal.returns-then-not-is_used_up-clause-names
returns-then-not-is_used_up-clause-names c =
    value-names-left c.args.columns.now (bytes_if c.args.sets) (bytes_if c.args.enums) c.loop-column.column-index (map names_view c.loop-column.all.items) (bytes_if c.loop-column.sets_left, bytes_if c.loop-column.enums_left) false _ c.loop-column-test.false c.loop-column.invariant.read (sym c.if-not-is_used_up.true ∙ c.is_used_up.ensures) refl

pub returns-then-not-is_used_up-2-clause-names : goal.returns-then-not-is_used_up-2-clause-names
returns-then-not-is_used_up-2-clause-names c =
    value-names-left c.args.columns.now (bytes_if c.args.sets) (bytes_if c.args.enums) c.loop-column.column-index (map names_view c.loop-column.all.items) (bytes_if c.loop-column.sets_left, bytes_if c.loop-column.enums_left) true false c.loop-column-test.false c.loop-column.invariant.read (sym c.if-not-is_used_up.false ∙ c.is_used_up.ensures) (sym c.if-not-is_used_up-2.true ∙ c.is_used_up-2.ensures)

pub returns-clause-names : goal.returns-clause-names
returns-clause-names c =
    value-names-left c.args.columns.now (bytes_if c.args.sets) (bytes_if c.args.enums) c.loop-column.column-index (map names_view c.loop-column.all.items) (bytes_if c.loop-column.sets_left, bytes_if c.loop-column.enums_left) true true c.loop-column-test.false c.loop-column.invariant.read (sym c.if-not-is_used_up.false ∙ c.is_used_up.ensures) (sym c.if-not-is_used_up-2.false ∙ c.is_used_up-2.ensures)
