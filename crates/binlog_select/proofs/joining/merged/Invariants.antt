use Rattle.std.proofs.Common.{◌≡◌, ◌++◌, drop}
use Rattle.binlog_select.specs.Joining.{merged}
use Rattle.binlog_select.proofs.joining.merged.Given as goal

abbrev pub invariant-loop-next : goal.invariant-loop-next
invariant-loop-next l = l.joined.items ++ merged l.current (drop l.next-index l.rest) ≡ merged l.fn.first l.rest
