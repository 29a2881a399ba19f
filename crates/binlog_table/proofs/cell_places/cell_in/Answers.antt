use Rattle.std.proofs.Common.{is_some, sym, ap, ◌∙◌}
use Rattle.std.proofs.lemmas.Bool.{not-true, not-false}
use Rattle.std.proofs.lemmas.Option.{same_Some}
use Rattle.binlog_table.proofs.PlacedCells.{text_is, absent_is, null_is}
use Rattle.binlog_table.proofs.cell_places.cell_in.Goals as goal

pub returns-then-not-place : goal.returns-then-not-place
returns-then-not-place c = sym (absent_is c.args.column.now c.args.values.now c.args.place (not-true _ c.if-not-place.true))

pub returns-then-place : goal.returns-then-place
returns-then-place c = sym (null_is c.args.column.now c.args.values.now c.args.place (not-false _ c.if-not-place.false) c.if-place.true)

pub known_value-requires-clause-extent : goal.known_value-requires-clause-extent
known_value-requires-clause-extent c = (text_is c.args.column.now c.args.values.now c.args.place (not-false _ c.if-not-place.false) c.if-place.false c.requires).spelled.ends

pub known_value-requires-clause-known : goal.known_value-requires-clause-known
known_value-requires-clause-known c =
    ap is_some (text_is c.args.column.now c.args.values.now c.args.place (not-false _ c.if-not-place.false) c.if-place.false c.requires).spelled.means

pub returns : goal.returns
returns c =
    let text = text_is c.args.column.now c.args.values.now c.args.place (not-false _ c.if-not-place.false) c.if-place.false c.requires in
    same_Some _ _ (sym c.known_value.ensures ∙ text.spelled.means) ∙ sym text.read
