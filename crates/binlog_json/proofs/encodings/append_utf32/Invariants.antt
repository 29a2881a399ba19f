use Rattle.std.proofs.Common.{◌≡◌, length, string_bytes}
use Rattle.binlog_json.specs.Encodings.{utf32_text}
use Rattle.binlog_json.proofs.Decoding.{behind}
use Rattle.binlog_json.proofs.encodings.append_utf32.Given as goal

abbrev pub invariant-loop-rest : goal.invariant-loop-rest
invariant-loop-rest l = behind (string_bytes l.text) (utf32_text l.rest) ≡ behind (string_bytes l.initial.text) (utf32_text l.bytes)

abbrev pub decreases-loop-rest : goal.decreases-loop-rest
decreases-loop-rest l = length l.rest
