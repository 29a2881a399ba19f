use Rattle.std.proofs.Common.{rules}
use Rattle.binlog_select.proofs.SourceLemmas.{same_bytes}
use Rattle.binlog_select.proofs.laws.one_source.Goals as goal

pub returns : goal.returns
returns c = λ same. same_bytes c.args.a c.args.b (search rules) (search rules) (search rules) (search rules) same
