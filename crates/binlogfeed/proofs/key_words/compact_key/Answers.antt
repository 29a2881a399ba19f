use Rattle.std.proofs.Common.{◌≡◌, true, sym, ◌∙◌}
use Rattle.serde_json.specs.View.{view}
use Rattle.binlogfeed.specs.KeyWords.{is_key}
use Rattle.binlogfeed.proofs.KeyParts.{key_float}
use Rattle.binlogfeed.proofs.key_words.compact_key.Goals as goal

pub returns-clause-ok : goal.returns-clause-ok
returns-clause-ok c = λ text reads.
    let value = view c.args.value.now in
    let yes : is_key c.args.style value ≡ true = sym c.is_key.ensures ∙ c.if-not-is_key.false in
    (value, reads, yes, c.in_ok-key.ensures.text (key_float c.args.style value yes))
