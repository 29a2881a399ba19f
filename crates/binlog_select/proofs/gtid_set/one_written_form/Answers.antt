use Rattle.std.proofs.Common.{ap, subst}
use Rattle.binlog_select.specs.Intervals.{IsJoined}
use Rattle.binlog_select.specs.SetForm.{written}
use Rattle.binlog_select.proofs.UniqueLemmas.{same_list}
use Rattle.binlog_select.proofs.gtid_set.one_written_form.Goals as goal

pub returns-clause-value : goal.returns-clause-value
returns-clause-value c = λ same. same_list c.args.a.now c.args.b.now (subst IsJoined c.a.view_is c.a.invariant) (subst IsJoined c.b.view_is c.b.invariant) same

pub returns-clause-written : goal.returns-clause-written
returns-clause-written c = λ same. ap written (same_list c.args.a.now c.args.b.now (subst IsJoined c.a.view_is c.a.invariant) (subst IsJoined c.b.view_is c.b.invariant) same)
