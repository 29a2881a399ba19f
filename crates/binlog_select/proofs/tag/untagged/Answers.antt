use Rattle.binlog_select.proofs.TagLemmas.{untagged_is}
use Rattle.binlog_select.proofs.tag.untagged.Goals as goal

pub returns : goal.returns
returns c = untagged_is c.args.server
