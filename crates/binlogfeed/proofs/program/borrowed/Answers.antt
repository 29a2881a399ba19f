use Rattle.std.proofs.Common.{◌∙◌, ap, string_bytes}
use Rattle.binlogfeed.proofs.Listing.{loans_more}
use Rattle.binlogfeed.proofs.program.borrowed.Goals as goal

pub words-preserved : goal.words-preserved
words-preserved c =
    loans_more c.args.words.now c.words.word-index c.word-item.result c.words.borrowed.items c.push.new.self.items c.as_str.result
    c.words-test.true c.words.invariant (c.as_str.ensures.value ∙ ap string_bytes (c.word-item.is)) c.in_ok-push.ensures.items
