use Rattle.binlog_json.proofs.Indexes.{kept_go_on, all_go_on}
use Rattle.binlog_json.proofs.index_laws.indexes_go_on.Goals as goal

pub returns-clause-kept : goal.returns-clause-kept
returns-clause-kept c = kept_go_on

pub returns-clause-all : goal.returns-clause-all
returns-clause-all c = all_go_on
