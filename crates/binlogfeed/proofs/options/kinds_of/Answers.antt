use Rattle.std.proofs.Common.{refl, ap, ◌∙◌}
use Rattle.binlogfeed.specs.Words.{texts}
use Rattle.binlogfeed.proofs.Listing.{first_bad_word, kinds_more}
use Rattle.binlogfeed.proofs.options.kinds_of.Goals as goal

pub words-preserved : goal.words-preserved
words-preserved c =
    kinds_more c.args.profile c.deref-word-items.result.now c.words.word-index _ c.words.kinds.items c.push.new.self.items c.in-Some.kind
    c.words-test.true c.words.invariant c.in-Some.ensures c.in_ok-push-in-Some.ensures.items

pub returns-in-None-clause-err : goal.returns-in-None-clause-err
returns-in-None-clause-err c =
    let whole = ap texts c.deref-word-items.ensures.value ∙ c.in_ok-words.ensures in
    c.event_fault.ensures c.args.profile c.args.list.now
    (first_bad_word c.args.profile c.args.list.now c.deref-word-items.result.now c.words.word-index _ c.words.kinds.items _ whole c.words.invariant c.words-test.true
    refl c.in-None.ensures)
