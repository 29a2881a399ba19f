use Rattle.binlog_json.proofs.Indexes.{places_lend}
use Rattle.binlog_json.proofs.index_laws.places_lend_their_changes.Goals as goal

pub returns : goal.returns
returns c = places_lend
