use Rattle.std.proofs.Common.{◌∙◌, refl, [], arith, rules}
use Rattle.binlog_select.specs.Parts.{parts}
use Rattle.binlog_select.specs.SetText.{comma}
use Rattle.binlog_select.proofs.ReadingLemmas.{place_after, reading-more, reading-last, first_bad}
use Rattle.binlog_select.proofs.set_text.read_elements.Goals as goal

pub returns-in_err-push_element-clause-refused : goal.returns-in_err-push_element-clause-refused
returns-in_err-push_element-clause-refused c = λ k is.
    first_bad c.args.profile (parts comma c.args.text.now) c.loop-element.at c.in-Some.element.now (parts comma c.in-Some.more.now) (c.loop-element.invariant.0 ∙ c.in-Some.ensures.parts)
    k c.loop-element.intervals.items c.push_element.new.intervals.items c.in_err-push_element.field-0.0 c.loop-element.invariant.1 c.in_err-push_element.ensures.read (search rules)

pub loop-element-preserved : goal.loop-element-preserved
loop-element-preserved c =
    let left = c.loop-element.invariant.0 ∙ c.in-Some.ensures.parts in (
      place_after c.args.profile (parts comma c.args.text.now) c.loop-element.at c.in-Some.element.now (parts comma c.in-Some.more.now) left,
      reading-more c.args.profile (parts comma c.args.text.now) c.loop-element.at c.in-Some.element.now (parts comma c.in-Some.more.now) left _ _ c.loop-element.invariant.1 c.in_ok-push_element.ensures.read,
      c.in_ok-push_element.ensures.valid,
      omega (arith, c.in-Some.ensures.shorter),
    )

pub returns-in_err-push_element-2-clause-refused : goal.returns-in_err-push_element-2-clause-refused
returns-in_err-push_element-2-clause-refused c = λ k is.
    first_bad c.args.profile (parts comma c.args.text.now) c.loop-element.at c.loop-element.rest.now [] (c.loop-element.invariant.0 ∙ c.in_default.ensures.parts)
    k c.loop-element.intervals.items c.push_element-2.new.intervals.items c.in_err-push_element-2.field-0.0 c.loop-element.invariant.1 c.in_err-push_element-2.ensures.read (search rules)

pub returns-clause-read : goal.returns-clause-read
returns-clause-read c =
    reading-last c.args.profile (parts comma c.args.text.now) c.loop-element.at c.loop-element.rest.now [] (c.loop-element.invariant.0 ∙ c.in_default.ensures.parts)
    _ _ refl c.loop-element.invariant.1 c.in_ok-push_element-2.ensures.read
