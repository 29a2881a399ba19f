use Rattle.std.proofs.Common.{◌≡◌, map, take}
use Rattle.std.specs.Prelude.{string_bytes}
use Rattle.binlogfeed.specs.Words.{texts}
use Rattle.binlogfeed.proofs.options.names_of.Given as goal

abbrev pub invariant-words : goal.invariant-words
invariant-words l = map string_bytes l.names.items ≡ texts (take l.word-index l.word-items)
