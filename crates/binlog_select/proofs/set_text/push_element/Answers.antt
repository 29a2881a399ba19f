use Rattle.std.proofs.Common.{ap, ◌∙◌, sym}
use Rattle.binlog_select.specs.Parts.{parts}
use Rattle.binlog_select.specs.SetText.{colon}
use Rattle.binlog_select.proofs.ReadingLemmas.{intervals_in-cut}
use Rattle.binlog_select.proofs.set_text.push_element.Goals as goal

pub returns-clause-read : goal.returns-clause-read
returns-clause-read c =
    let cut = intervals_in-cut c.args.profile c.args.text.now c.in-Some.server.now c.in-Some.texts.now c.in-Some-source_of.server (ap (parts colon) (sym c.trimmed.ensures) ∙ c.in-Some.ensures.parts) c.in-Some-source_of.ensures in
    rw (cut, ← c.untagged.ensures) c.push_intervals.ensures.read
