use Rattle.std.proofs.Common.{subst}
use Rattle.binlog_select.specs.Intervals.{IsJoined}
use Rattle.binlog_select.proofs.UniqueLemmas.{same_list, Same-named}
use Rattle.binlog_select.proofs.gtid_set.one_set_for_each_text.Goals as goal

pub returns : goal.returns
returns c = λ profile text names also.
    same_list c.args.a.now c.args.b.now (subst IsJoined c.a.view_is c.a.invariant) (subst IsJoined c.b.view_is c.b.invariant)
    (Same-named profile text c.args.a.now c.args.b.now names also)
