use Rattle.binlog_select.proofs.NamesLemmas.{from_list-IsPermutation}
use Rattle.binlog_select.proofs.names.NamesFromVecString.from.Goals as goal

pub returns : goal.returns
returns c = from_list-IsPermutation _ _ c.sort_unstable.ensures.permutation
