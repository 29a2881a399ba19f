use Rattle.std.proofs.Common.{subst}
use Rattle.binlog_select.specs.Intervals.{IsJoined}
use Rattle.binlog_select.proofs.SetFormLemmas.{names_itself, strict_names_itself}
use Rattle.binlog_select.proofs.gtid_set.written_form_names_the_set.Goals as goal

pub returns-clause-server : goal.returns-clause-server
returns-clause-server c = names_itself c.args.set.now (subst IsJoined c.set.view_is c.set.invariant)

pub returns-clause-strict : goal.returns-clause-strict
returns-clause-strict c = strict_names_itself c.args.set.now (subst IsJoined c.set.view_is c.set.invariant)
