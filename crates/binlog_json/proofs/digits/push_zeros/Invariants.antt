use Rattle.binlog_json.specs.LineBytes.{line_bytes}
use Rattle.std.proofs.Common.{◌≡◌, ◌++◌, replicate}
use Rattle.binlog_json.proofs.digits.push_zeros.Given as goal

abbrev pub invariant-loop-place : goal.invariant-loop-place
invariant-loop-place l = (line_bytes l.text) ≡ line_bytes l.initial.text ++ replicate l._place 48
