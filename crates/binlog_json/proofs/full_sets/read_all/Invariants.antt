use Rattle.std.proofs.Common.{◌≡◌, [], ◌∷◌, drop, map, option_map, false, string_bytes}
use Rattle.binlog_json.specs.Encodings.{all_decoded}
use Rattle.binlog_json.proofs.Decoding.{behind}
use Rattle.binlog_json.proofs.Joined.{joined_behind}
use Rattle.binlog_json.proofs.full_sets.read_all.Given as goal

abbrev pub invariant-loop-name : goal.invariant-loop-name
invariant-loop-name l =
    behind (string_bytes l.text) (option_map (joined_behind l.later (44 ∷ [])) (all_decoded l.encoding (map (λ name. name.now) (drop l.name-index l.members))))
    ≡ behind (string_bytes l.initial.text) (option_map (joined_behind false (44 ∷ [])) (all_decoded l.encoding (map (λ name. name.now) l.members)))
