use Rattle.std.proofs.Common.{map, string_bytes}
use Rattle.binlogfeed.proofs.NamesGone.{HasKept}
use Rattle.binlogfeed.proofs.names_gone.keep_names.Given as goal

abbrev pub invariant-files : goal.invariant-files
invariant-files g l = HasKept (map string_bytes l.fn.gone.items) (map string_bytes l.gone.items) (g.L.Logs.names l.earlier) (g.L.Logs.names l.logs) l.number
