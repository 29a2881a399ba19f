use Rattle.std.proofs.Common.{◌≡◌, ◌-◌, ◌<◌, ◌^◌, ◌++◌, [], drop, unwrap_or, false}
use Rattle.binlog_table.specs.MapWords.{value_names_in}
use Rattle.binlog_json.specs.Joining.{joined_from}
use Rattle.binlog_json.specs.Values.{members_in}
use Rattle.binlog_json.proofs.names.append_names.Given as goal

abbrev pub invariant-loop-place : goal.invariant-loop-place
invariant-loop-place l =
    let names = unwrap_or (value_names_in l.image.table l.column) [] in
    (l.text.items ++ joined_from l.later (members_in (drop (l.place - 1) names) l.rest) ≡ l.initial.text.items ++ joined_from false (members_in names l.number))
    × (l.rest < 2 ^ (65 - l.place))
