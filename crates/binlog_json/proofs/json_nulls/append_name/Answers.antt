use Rattle.std.proofs.Common.{◌∙◌, ◌++◌, ℕ, List, ap, sym}
use Rattle.binlog_table.specs.RowImage.{RowImage}
use Rattle.binlog_json.specs.JsonNulls.{is_json_null}
use Rattle.binlog_json.specs.LineBytes.{line_bytes}
use Rattle.binlog_json.proofs.JsonNulls.{name_written}
use Rattle.binlog_json.proofs.json_nulls.append_name.Goals as goal

pub returns-clause-text : goal.returns-clause-text
returns-clause-text c =
    name_written c.args.image.now c.args.column c.args.later c.args.side.now c.column_name.result.now (line_bytes c.args.line.now) (line_bytes c.push_str.new.self) (line_bytes c.append.new.out) _ _ _ c.as_str.result.now
    (ap (λ (image : RowImage). is_json_null image c.args.column) (sym c.requires.row) ∙ sym c.is_json_null.ensures ∙ c.if-not-is_json_null.false)
    c.column_name.ensures (c.in_ok-push_str.ensures.bytes ∙ ap (λ (text : List ℕ). line_bytes c.args.line.now ++ text) c.begin.ensures) c.clear.ensures.bytes c.in_ok-push_str-2.ensures.bytes c.in_ok-push_str-3.ensures.bytes c.as_str.ensures.value
    c.in_ok-append.ensures
