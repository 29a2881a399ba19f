use Rattle.std.proofs.Common.{◌≡◌, ◌+◌, ◌∷◌, ◌++◌, [], ℕ, List, map, ap, sym, ◌∙◌, arith}
use Rattle.std.proofs.lemmas.List.{map_push}
use Rattle.std.specs.String.{string_bytes}
use Rattle.binlog_table.specs.Names.{number_name, number_names}
use Rattle.binlog_table.proofs.NumberNames.{number_names-more}
use Rattle.binlog_table.proofs.names.number_names.Goals as goal

pub loop-column-preserved : goal.loop-column-preserved
loop-column-preserved c =
    let same : 1 + c.loop-column.column ≡ c.loop-column.column + 1 = omega arith in
    let name = c.in_ok-number_name.ensures ∙ ap number_name (sym same) in
    record {
      count = omega (arith, c.in_ok-push.ensures.len, c.loop-column.invariant.count);
      names = rw c.in_ok-push.ensures.items (map_push string_bytes c.loop-column.names.items c.in_ok-number_name.field-0
          ∙ ap (λ (front : List (List ℕ)). front ++ string_bytes c.in_ok-number_name.field-0 ∷ []) c.loop-column.invariant.names
          ∙ ap (λ (last : List ℕ). number_names 1 c.loop-column.column ++ last ∷ []) name ∙ sym (number_names-more 1 c.loop-column.column));
    }
