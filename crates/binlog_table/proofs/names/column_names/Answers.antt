use Rattle.std.proofs.Common.{[], arith}
use Rattle.std.proofs.lemmas.Cmp.{nat_list_cmp_total}
use Rattle.std.proofs.lemmas.List.Sorted.{IsPermutation-refl}
use Rattle.std.proofs.lemmas.Map.Keys.{sorted_from_all_adjacent}
use Rattle.binlog_table.specs.NameOrder.{IsNameOrder}
use Rattle.binlog_table.proofs.names.column_names.Goals as goal

no_names : IsNameOrder [] []
no_names = record { each = IsPermutation-refl []; ascending = sorted_from_all_adjacent nat_list_cmp_total [] [] (λ k lt. absurd (omega arith)) }

pub returns-in-Strict-clause-order : goal.returns-in-Strict-clause-order
returns-in-Strict-clause-order c = rw (c.new-in-Strict.ensures.items, c.new.ensures.items) no_names
