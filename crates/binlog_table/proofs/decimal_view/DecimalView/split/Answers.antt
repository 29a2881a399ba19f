use Rattle.std.proofs.Common.{arith}
use Rattle.std.proofs.lemmas.Bool.{false≢true}
use Rattle.binlog_table.specs.Decimal.{plain, digits_at, is_negative}
use Rattle.binlog_table.proofs.DecimalDigitLists.{shown-length}
use Rattle.binlog_table.proofs.DecimalParts.{split_some, split_is}
use Rattle.binlog_table.proofs.decimal_view.DecimalView.split.Goals as goal

pub returns-then-self-gt17-clause-few : goal.returns-then-self-gt17-clause-few
returns-then-self-gt17-clause-few c =
    let d = c.args.self.now in
    let len = shown-length d.precision d.scale (plain d.text.now) d.size.within d.has_digits in
    (λ some. absurd (false≢true some), λ few. absurd (omega (arith, len, few, c.if-self-gt17.true)))

pub returns-clause-few : goal.returns-clause-few
returns-clause-few c =
    let d = c.args.self.now in
    let len = shown-length d.precision d.scale (plain d.text.now) d.size.within d.has_digits in
    (λ some. omega (arith, len, c.if-self-gt17.false), λ few. split_some d.precision d.scale (digits_at d.precision d.scale (plain d.text.now)) c.numbers_of.result c.numbers_of.ensures.digits d.has_digits)

pub returns-clause-parts : goal.returns-clause-parts
returns-clause-parts c =
    let d = c.args.self.now in
    let text = plain d.text.now in
    split_is d.precision d.scale (is_negative d.text.now) (digits_at d.precision d.scale text) c.numbers_of.result (shown-length d.precision d.scale text d.size.within d.has_digits)
    c.numbers_of.ensures.digits c.numbers_of.ensures.front c.numbers_of.ensures.behind
