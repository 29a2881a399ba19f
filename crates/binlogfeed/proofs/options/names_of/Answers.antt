use Rattle.binlogfeed.proofs.Listing.{names_more}
use Rattle.binlogfeed.proofs.options.names_of.Goals as goal

pub words-preserved : goal.words-preserved
words-preserved c =
    names_more c.deref-word-items.result.now c.words.word-index _ c.words.names.items c.push.new.self.items c.in_ok-name.name
    c.words-test.true c.words.invariant c.in_ok-name.ensures.ok c.in_ok-push.ensures.items
