use Rattle.std.proofs.Common.{◌≡◌, drop, string_bytes}
use Rattle.binlog_json.specs.Encodings.{text_by}
use Rattle.binlog_json.proofs.Decoding.{behind}
use Rattle.binlog_json.proofs.encodings.append_by.Given as goal

abbrev pub invariant-loop-byte : goal.invariant-loop-byte
invariant-loop-byte l = behind (string_bytes l.text) (text_by l.table (drop l.byte-index l.bytes)) ≡ behind (string_bytes l.initial.text) (text_by l.table l.bytes)
