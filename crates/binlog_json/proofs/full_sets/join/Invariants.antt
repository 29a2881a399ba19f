use Rattle.std.proofs.Common.{◌≡◌, ◌++◌, drop, map, false}
use Rattle.binlog_json.proofs.Joined.{joined_behind}
use Rattle.binlog_json.proofs.full_sets.join.Given as goal

abbrev pub invariant-loop-name : goal.invariant-loop-name
invariant-loop-name l =
    l.bytes.items ++ joined_behind l.later l.between (map (λ name. name.now) (drop l.name-index l.members)) ≡ l.initial.bytes.items ++ joined_behind false l.between (map (λ name. name.now) l.members)
