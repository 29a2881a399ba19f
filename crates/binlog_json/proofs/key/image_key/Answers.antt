use Rattle.binlog_json.specs.LineBytes.{line_bytes}
use Rattle.std.proofs.Common.{eqb-true, length, refl, sym, ◌∙◌, ap, Some}
use Rattle.std.proofs.lemmas.List.{nil_from_length}
use Rattle.binlog_json.proofs.KeyTexts.{key_more, key_lacks, key_ends}
use Rattle.binlog_json.proofs.key.image_key.Goals as goal

pub loop-column-preserved : goal.loop-column-preserved
loop-column-preserved c =
    key_more c.args.style c.args.image.now c.args.other c.key-columns.result.now c.loop-column.column-index
    (line_bytes c.loop-column.text) (line_bytes c.append_comma.new.out) (line_bytes c.append_of_either.new.out) c.loop-column.later c.in_ok-later.later _
    c.loop-column-test.true c.in_ok-append_comma.ensures c.in_ok-later.ensures.text c.in_ok-later.ensures.has c.if-not-later.false c.loop-column.invariant

pub returns-then-is_empty : goal.returns-then-is_empty
returns-then-is_empty c = rw (← c.key-columns.ensures.value, nil_from_length c.key-columns.result.now (eqb-true (length c.key-columns.result.now) 0 (sym c.if-is_empty.ensures))) refl

pub returns-then-not-later : goal.returns-then-not-later
returns-then-not-later c =
    key_lacks c.args.style c.args.image.now c.args.other c.key-columns.result.now c.loop-column.column-index (line_bytes c.new-text.result) (line_bytes c.push_str.new.self) (line_bytes c.loop-column.text) c.loop-column.later
    c.in_ok-later.later c.key-columns.ensures.value c.if-is_empty.ensures c.loop-column-test.true c.new-text.ensures.bytes c.in_ok-push_str.ensures.bytes c.in_ok-later.ensures.has c.if-not-later.true c.loop-column.invariant

pub returns : goal.returns
returns c =
    ap Some c.into_string.ensures.value ∙ key_ends c.args.style c.args.image.now c.args.other c.key-columns.result.now c.loop-column.column-index (line_bytes c.new-text.result) (line_bytes c.push_str.new.self) (line_bytes c.loop-column.text)
    (line_bytes c.push_str-2.new.self) c.loop-column.later c.key-columns.ensures.value c.if-is_empty.ensures c.loop-column-test.false c.new-text.ensures.bytes
    c.in_ok-push_str.ensures.bytes c.in_ok-push_str-2.ensures.bytes c.loop-column.invariant
