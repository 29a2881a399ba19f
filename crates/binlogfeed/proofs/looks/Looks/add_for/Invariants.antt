use Rattle.binlogfeed.proofs.looks.Looks.add_for.Given as goal

abbrev pub ghost-add : goal.ghost-add
ghost-add g a = g.look
