use Rattle.binlogfeed.proofs.program.carry_out.Given as goal

abbrev pub ghost-open : goal.ghost-open
ghost-open g a = g.contents
