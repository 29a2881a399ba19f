use Rattle.std.proofs.Common.{◌++◌, ◌∙◌, ap, string_bytes}
use Rattle.binlog_select.proofs.TagLemmas.{all_bytes}
use Rattle.binlog_select.proofs.tag.push_tag_bytes.Goals as goal

pub returns-clause-ok : goal.returns-clause-ok
returns-clause-ok c = c.loop-byte.invariant ∙ ap (λ bytes. string_bytes c.args.text.now ++ bytes) (all_bytes c.args.number c.loop-byte.byte-index c.loop-byte-test.false)
