use Rattle.std.proofs.Common.{sym, ◌∙◌}
use Rattle.binlog_json.proofs.ValueNames.{enum_zero}
use Rattle.binlog_json.proofs.names.enum_name.Goals as goal

pub returns-then-number-eq0 : goal.returns-then-number-eq0
returns-then-number-eq0 c =
    λ given. rw c.if-number-eq0.true (enum_zero given _ c.in_ok-value_name_count.field-0 (sym c.in_ok-value_name_count.was ∙ c.value_name_count.ensures))
