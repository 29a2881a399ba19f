use Rattle.std.proofs.Common.{◌≡◌, drop}
use Rattle.serde_json.specs.View.{items_view}
use Rattle.binlogfeed.specs.KeyWords.{are_key_parts}
use Rattle.binlogfeed.proofs.key_words.are_parts.Given as goal

abbrev pub invariant-loop-part : goal.invariant-loop-part
invariant-loop-part l = are_key_parts l.style (items_view l.parts) ≡ are_key_parts l.style (items_view (drop l.part-index l.parts))
