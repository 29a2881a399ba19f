use Rattle.binlog_select.proofs.TagLemmas.{ranks_tell_apart}
use Rattle.binlog_select.proofs.laws.one_tag.Goals as goal

pub returns : goal.returns
returns c = ranks_tell_apart
