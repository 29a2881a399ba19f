use Rattle.std.proofs.Common.{◌∙◌, ◌++◌, ℕ, ap, decimal}
use Rattle.binlog_json.specs.LineBytes.{line_bytes}
use Rattle.binlog_json.specs.Written.{stated_by}
use Rattle.binlog_json.proofs.StatedLines.{statement_written}
use Rattle.binlog_json.proofs.stated.append_statement.Goals as goal

pub returns : goal.returns
returns c =
    statement_written c.push_str-4.result (stated_by c.args.statement.now) (line_bytes c.args.line.now) (line_bytes c.push_str.new.self) (line_bytes c.append_text.new.out) (line_bytes c.push_str-2.new.self)
    (line_bytes c.append_text-2.new.out) (line_bytes c.push_str-3.new.self) (line_bytes c.append_number.new.out) (line_bytes c.push_str-4.new.self)
    c.in_ok-push_str.ensures.bytes c.in_ok-append_text.ensures c.in_ok-push_str-2.ensures.bytes c.in_ok-append_text-2.ensures c.in_ok-push_str-3.ensures.bytes
    (c.in_ok-append_number.ensures ∙ ap (λ (n : ℕ). line_bytes c.push_str-3.new.self ++ decimal n) c.from.ensures) c.push_str-4.ensures.bytes
