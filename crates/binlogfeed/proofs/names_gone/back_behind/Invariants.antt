use Rattle.std.proofs.Common.{◌≡◌, ℕ, ◌<◌, List, length, map, string_bytes, Some}
use Rattle.std.specs.Prelude.{slice_get}
use Rattle.binlog_feed.specs.Searching.{IsNoneNamed}
use Rattle.binlogfeed.proofs.names_gone.back_behind.Given as goal

abbrev pub invariant-behind : goal.invariant-behind
invariant-behind g l = (number : ℕ) (name : List ℕ) → l.file < number → number < l.number → slice_get (g.L.Logs.names l.logs) number ≡ Some name
    → IsNoneNamed (map string_bytes l.gone) name (length (map string_bytes l.gone))
