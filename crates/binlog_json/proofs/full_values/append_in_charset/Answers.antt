use Rattle.std.proofs.Common.{◌∙◌, ◌++◌, ℕ, List, ap}
use Rattle.json.specs.Print.{quoted}
use Rattle.binlog_types.specs.Charsets.{charset_name}
use Rattle.binlog_json.specs.LineBytes.{line_bytes}
use Rattle.binlog_json.proofs.Charsets.{charset_written}
use Rattle.binlog_json.proofs.full_values.append_in_charset.Goals as goal

pub returns : goal.returns
returns c =
    charset_written c.push_str-3.result (line_bytes c.args.out.now) (line_bytes c.push_str.new.self) (line_bytes c.append_base64.new.out) (line_bytes c.push_str-2.new.self) (line_bytes c.append.new.out) (line_bytes c.push_str-3.new.self)
    (charset_name c.args.charset) c.args.bytes.now c.in_ok-push_str.ensures.bytes c.in_ok-append_base64.ensures c.in_ok-push_str-2.ensures.bytes
    (c.in_ok-append.ensures ∙ ap (λ (name : List ℕ). line_bytes c.push_str-2.new.self ++ quoted name) c.charset_name.ensures) c.push_str-3.ensures.bytes
