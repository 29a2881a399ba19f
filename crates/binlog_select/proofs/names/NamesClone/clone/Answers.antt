use Rattle.std.proofs.Common.{◌∙◌, ap}
use Rattle.std.specs.FinSet as set
use Rattle.binlog_select.proofs.NamesLemmas.{AreInByteOrder-copied, bytes_of-copied}
use Rattle.binlog_select.proofs.names.NamesClone.clone.Goals as goal

pub invariant_of-result : goal.invariant_of-result
invariant_of-result c = AreInByteOrder-copied _ _ c.in_ok-clone.ensures.cases.0 c.self.invariant

pub returns-clause-cases : goal.returns-clause-cases
returns-clause-cases c = ap (λ ts. set.from_list ts) (bytes_of-copied _ _ c.in_ok-clone.ensures.cases.0) ∙ c.self.view_is

pub returns-clause-same : goal.returns-clause-same
returns-clause-same c = returns-clause-cases c
