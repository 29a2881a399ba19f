use Rattle.binlogfeed.specs.Follow.{supplied}
use Rattle.binlogfeed.proofs.program.answer_words.Given as goal

abbrev pub ghost-carry_out : goal.ghost-carry_out
ghost-carry_out g a = (supplied a.profile g.supply 0).files

abbrev pub ghost-follow : goal.ghost-follow
ghost-follow g a = g.supply
