use Rattle.std.proofs.Common.{◌≡◌, ◌-◌, ◌<◌, ◌^◌, ◌++◌, [], drop, map, unwrap_or}
use Rattle.binlog_table.specs.MapWords.{value_names_in}
use Rattle.binlog_json.specs.Values.{members_in}
use Rattle.binlog_json.proofs.names.members_of.Given as goal

abbrev pub invariant-loop-place : goal.invariant-loop-place
invariant-loop-place l =
    let names = unwrap_or (value_names_in l.image.table l.column) [] in
    (map (λ name. name.now) l.members.items ++ members_in (drop (l.place - 1) names) l.rest ≡ members_in names l.number)
    × (l.rest < 2 ^ (65 - l.place))
