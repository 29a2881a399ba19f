use Rattle.std.proofs.Common.{◌≡◌, ◌++◌, replicate}
use Rattle.binlog_documents.proofs.padded.push_copies.Given as goal

abbrev pub invariant-loop-place : goal.invariant-loop-place
invariant-loop-place l = l.out.items ≡ l.initial.out.items ++ replicate l._place l.byte
