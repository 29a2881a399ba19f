use Rattle.std.proofs.Common.{sym, ap, ◌∙◌, is_some, drop}
use Rattle.binlog_table.specs.Decimal.{plain}
use Rattle.binlog_table.proofs.Options.{is_some-map}
use Rattle.binlog_table.proofs.DecimalGroups.{digits-some}
use Rattle.binlog_table.proofs.decimal.has_digits.Goals as goal

pub returns : goal.returns
returns c =
    let text = plain c.args.text.now in
    c.is_some.ensures ∙ sym (is_some-map (λ end. drop end text) c.after_digits.result) ∙ ap is_some c.after_digits.ensures ∙ sym (digits-some c.args.size.precision c.args.size.scale text)
