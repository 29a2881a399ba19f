use Rattle.std.proofs.Common.{take}
use Rattle.binlogfeed.specs.Options.{AreNames}
use Rattle.binlogfeed.specs.Words.{texts}
use Rattle.binlogfeed.proofs.options.kinds_of.Given as goal

abbrev pub invariant-words : goal.invariant-words
invariant-words l = AreNames l.profile (texts (take l.word-index l.word-items)) l.kinds.items
