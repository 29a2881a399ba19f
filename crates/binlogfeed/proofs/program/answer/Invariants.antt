use Rattle.std.proofs.Common.{[]}
use Rattle.binlogfeed.proofs.program.answer.Given as goal

abbrev pub ghost-answer_words : goal.ghost-answer_words
ghost-answer_words g a = []
