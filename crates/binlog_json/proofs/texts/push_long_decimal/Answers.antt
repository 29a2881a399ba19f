use Rattle.std.proofs.Common.{◌<◌, ◌∙◌, subst}
use Rattle.std.specs.List.{All}
use Rattle.binlog_table.specs.DecimalShown.{decimal_view}
use Rattle.binlog_json.proofs.AsIs.{quoted_decimal}
use Rattle.binlog_json.proofs.LineParts.{always}
use Rattle.binlog_json.proofs.texts.push_long_decimal.Goals as goal

pub returns-clause-as_is : goal.returns-clause-as_is
returns-clause-as_is c =
    always c.push_scaled.result _ (quoted_decimal (decimal_view c.args.decimal) (subst (All (λ d. d < 10)) (c.as_slice-digits.ensures.value ∙ c.digits-digits.ensures) c.as_slice-digits.ensures.small))
