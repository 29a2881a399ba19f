use Rattle.std.proofs.Common.{◌∙◌, sym}
use Rattle.binlog_json.proofs.ValueNames.{named_all, named_some}
use Rattle.binlog_json.proofs.names.is_named.Goals as goal

pub returns-then-count-ge64 : goal.returns-then-count-ge64
returns-then-count-ge64 c = λ given. named_all given _ c.in-Some.count c.args.number (sym c.in-Some.is ∙ c.value_name_count.ensures) c.if-count-ge64.true c.ranges.number.fits

pub returns-else-count-ge64 : goal.returns-else-count-ge64
returns-else-count-ge64 c = λ given. named_some given _ c.in-Some.count c.args.number (sym c.in-Some.is ∙ c.value_name_count.ensures)
