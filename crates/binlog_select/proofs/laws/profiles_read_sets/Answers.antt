use Rattle.binlog_select.proofs.AlikeLemmas.{profiles_read_sets}
use Rattle.binlog_select.proofs.laws.profiles_read_sets.Goals as goal

pub returns : goal.returns
returns c = profiles_read_sets
