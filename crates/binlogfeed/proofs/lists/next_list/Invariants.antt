use Rattle.std.proofs.Common.{map, string_bytes}
use Rattle.binlogfeed.proofs.InputLines.{ReadsPaths}
use Rattle.binlogfeed.proofs.lists.next_list.Given as goal

abbrev pub invariant-lines : goal.invariant-lines
invariant-lines g l = ReadsPaths (g.B.Read.remaining l.fn.input) (g.B.Read.remaining l.input) (map string_bytes l.paths.items)
