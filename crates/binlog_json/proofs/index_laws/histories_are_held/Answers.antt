use Rattle.binlog_json.proofs.Indexes.{histories_held}
use Rattle.binlog_json.proofs.index_laws.histories_are_held.Goals as goal

pub returns : goal.returns
returns c = histories_held
