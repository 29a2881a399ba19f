use Rattle.std.proofs.Common.{◌≡◌, map, take}
use Rattle.std.specs.Prelude.{string_bytes}
use Rattle.binlogfeed.specs.Words.{texts}
use Rattle.binlogfeed.proofs.program.borrowed.Given as goal

abbrev pub invariant-words : goal.invariant-words
invariant-words l = texts l.borrowed.items ≡ map string_bytes (take l.word-index l.words)
