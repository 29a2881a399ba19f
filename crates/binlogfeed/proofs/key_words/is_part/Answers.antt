use Rattle.std.proofs.Common.{sym, ◌∙◌}
use Rattle.binlogfeed.proofs.KeyParts.{object_part}
use Rattle.binlogfeed.proofs.key_words.is_part.Goals as goal

pub returns-in-Object : goal.returns-in-Object
returns-in-Object c =
    c.is_key_object.ensures ∙ sym (object_part c.args.style c.args.part.now c.in-Object.members c.len.result c.in-Object.is c.len.ensures.len)
