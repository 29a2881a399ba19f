use Rattle.std.proofs.Common.{◌≡◌, ◌∙◌, ap, subst, refl, map, Ok, arith}
use Rattle.std.specs.String.{string_bytes}
use Rattle.binlog_table.specs.MapResult.{Fails}
use Rattle.binlog_table.specs.Names.{number_names, distinct_names}
use Rattle.binlog_table.proofs.NumberNames.{number_names-distinct}
use Rattle.binlog_table.proofs.names.numbered_columns.Goals as goal

pub returns-in-Err-clause-names : goal.returns-in-Err-clause-names
returns-in-Err-clause-names c =
    let numbers : distinct_names (number_names 1 c.args.count) ≡ Ok (number_names 1 c.args.count) = rw (number_names-distinct 1 c.args.count (omega arith)) refl in
    let are : map string_bytes c.deref.result.now ≡ number_names 1 c.args.count = ap (map string_bytes) c.deref.ensures.value ∙ c.in_ok-names.ensures.names in
    subst (Fails c.in-Err.fault) (ap distinct_names are ∙ numbers) c.in-Err.ensures.distinct
