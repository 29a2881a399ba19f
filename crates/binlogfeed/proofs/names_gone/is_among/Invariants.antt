use Rattle.std.proofs.Common.{map, string_bytes}
use Rattle.binlog_feed.specs.Searching.{IsNoneNamed}
use Rattle.binlogfeed.proofs.names_gone.is_among.Given as goal

abbrev pub invariant-names : goal.invariant-names
invariant-names l = IsNoneNamed (map string_bytes l.names) l.name l.number
