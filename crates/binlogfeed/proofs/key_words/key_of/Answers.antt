use Rattle.binlogfeed.proofs.key_words.key_of.Goals as goal

pub returns-in-Ok-clause-ok : goal.returns-in-Ok-clause-ok
returns-in-Ok-clause-ok c = c.compact_key.ensures.ok c.args.text.now c.in-Ok.ensures.ok

pub returns-in-Ok-clause-err : goal.returns-in-Ok-clause-err
returns-in-Ok-clause-err c = c.compact_key.ensures.err c.args.text.now c.in-Ok.ensures.ok
