use Rattle.binlog_json.specs.LineBytes.{line_bytes}
use Rattle.std.proofs.Common.{◌≡◌, ◌++◌, drop, false, option_map}
use Rattle.binlog_json.specs.Json.{items_of, items_text}
use Rattle.binlog_json.specs.Keys.{values_in}
use Rattle.binlog_json.proofs.key.image_key.Given as goal

abbrev pub invariant-loop-column : goal.invariant-loop-column
invariant-loop-column l =
    option_map (λ values. (line_bytes l.text) ++ items_text l.later (items_of values)) (values_in l.style l.image l.other (drop l.column-index l.columns))
    ≡ option_map (λ values. (line_bytes l.initial.text) ++ items_text false (items_of values)) (values_in l.style l.image l.other l.columns)
