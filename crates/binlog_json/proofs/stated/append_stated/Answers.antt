use Rattle.std.proofs.Common.{◌∙◌, decimal, ap}
use Rattle.binlog_feed.specs.Changes.{view}
use Rattle.binlog_json.specs.LineBytes.{line_bytes}
use Rattle.binlog_json.specs.Written.{kind_part}
use Rattle.binlog_json.proofs.StatedLines.{stated_written}
use Rattle.binlog_json.proofs.stated.append_stated.Goals as goal

pub returns : goal.returns
returns c =
    stated_written c.push_str-5.result (view c.args.change.now) (line_bytes c.args.line.now) (line_bytes c.push_str.new.self) (line_bytes c.push_str-2.new.self) (line_bytes c.push_str-3.new.self)
    (line_bytes c.append_statements.new.line) (line_bytes c.push_str-4.new.self) (line_bytes c.append_number.new.out) (line_bytes c.push_str-5.new.self) _ _ _ _ _
    c.in_ok-push_str.ensures.bytes c.in_ok-push_str-2.ensures.bytes c.in_ok-push_str-3.ensures.bytes c.in_ok-append_statements.ensures c.in_ok-push_str-4.ensures.bytes c.in_ok-append_number.ensures
    c.push_str-5.ensures.bytes (c.first_front.ensures ∙ c.requires.front) (c.kind_member.ensures ∙ ap kind_part c.kind.ensures) (c.place.ensures ∙ c.requires.place) (ap decimal c.token.ensures.count)
    (c.end.ensures ∙ c.requires.end)
