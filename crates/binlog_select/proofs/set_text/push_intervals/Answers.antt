use Rattle.std.proofs.Common.{◌≡◌, ◌∙◌, Err, ap, subst, sym, rules}
use Rattle.binlog_select.specs.Appending.{Appends, appended, spelled, one_interval}
use Rattle.binlog_select.proofs.ReadingLemmas.{Appends-last, Appends-refused, bad_plain, bad_tagged, interval_read, last_plain, last_tagged, tagged_read}
use Rattle.binlog_select.proofs.TagLemmas.{IsSource-tagged}
use Rattle.binlog_select.proofs.set_text.push_intervals.Goals as goal

pub returns-in_default-split_once-clause-read : goal.returns-in_default-split_once-clause-read
returns-in_default-split_once-clause-read c =
    let tag = sym c.names_tag.ensures ∙ c.if-names_tag.true in
    let last = last_tagged c.args.profile c.loop-part.source c.in-Some.part.now c.loop-part.rest.now c.in-Some.more.now c.in-Some.ensures.parts tag c.in_default-split_once.ensures.parts in
    Appends-last c.args.at (one_interval c.named-source.result c.in-Some.more.now) (spelled c.args.profile c.args.source c.args.text.now)
    c.loop-part.intervals.items c.args.intervals.now.items c.push_interval.new.intervals.items c.push_interval.result
    (ap (λ s. appended c.loop-part.intervals.items (one_interval s c.in-Some.more.now)) c.named-source.ensures
    ∙ ap (appended c.loop-part.intervals.items) (sym last) ∙ c.loop-part.invariant.0) c.push_interval.ensures.read

pub returns-in_err-push_interval-clause-read : goal.returns-in_err-push_interval-clause-read
returns-in_err-push_interval-clause-read c =
    let tag = sym c.names_tag.ensures ∙ c.if-names_tag.true in
    let fault = c.in_err-push_interval.field-0.0 in
    let is : c.from_residual.result ≡ Err fault = search rules in
    subst (λ r. Appends c.args.at (spelled c.args.profile c.args.source c.args.text.now) c.args.intervals.now.items c.push_interval-then-names_tag.new.intervals.items r) (sym is)
    (Appends-refused c.args.at (one_interval c.named-source.result c.in-Some-split_once.next.now) (spelled c.args.profile c.loop-part.source c.loop-part.rest.now)
    (spelled c.args.profile c.args.source c.args.text.now) c.loop-part.intervals.items c.args.intervals.now.items c.push_interval-then-names_tag.new.intervals.items fault
    (λ bad. bad_tagged c.args.profile c.loop-part.source c.in-Some.part.now c.in-Some-split_once.next.now c.loop-part.rest.now c.in-Some.more.now c.in-Some-split_once.behind.now
    c.in-Some.ensures.parts tag c.in-Some-split_once.ensures.parts (ap (λ s. one_interval s c.in-Some-split_once.next.now) (sym c.named-source.ensures) ∙ bad))
    c.loop-part.invariant.0 c.in_err-push_interval.ensures.read)

pub loop-part-preserved-then-names_tag : goal.loop-part-preserved-then-names_tag
loop-part-preserved-then-names_tag c =
    let tag = sym c.names_tag.ensures ∙ c.if-names_tag.true in
    rw c.named-source.ensures (
      tagged_read c.args.profile c.loop-part.source c.in-Some.part.now c.in-Some-split_once.next.now c.loop-part.rest.now c.in-Some.more.now c.in-Some-split_once.behind.now
          c.loop-part.intervals.items _ _ c.in-Some.ensures.parts tag c.in-Some-split_once.ensures.parts
          (ap (λ s. appended c.loop-part.intervals.items (one_interval s c.in-Some-split_once.next.now)) (sym c.named-source.ensures) ∙ c.in_ok-push_interval.ensures.read)
          c.loop-part.invariant.0,
      c.in_ok-push_interval.ensures.valid,
      IsSource-tagged c.args.profile c.loop-part.source.server c.in-Some.part.now c.loop-part.invariant.2.server tag,
    )

pub returns-in_err-push_interval-2-clause-read : goal.returns-in_err-push_interval-2-clause-read
returns-in_err-push_interval-2-clause-read c =
    let plain = sym c.names_tag.ensures ∙ c.if-names_tag.false in
    let fault = c.in_err-push_interval-2.field-0.0 in
    let is : c.from_residual-in_err-push_interval-2.result ≡ Err fault = search rules in
    subst (λ r. Appends c.args.at (spelled c.args.profile c.args.source c.args.text.now) c.args.intervals.now.items c.push_interval-else-names_tag.new.intervals.items r) (sym is)
    (Appends-refused c.args.at (one_interval c.loop-part.source c.in-Some.part.now) (spelled c.args.profile c.loop-part.source c.loop-part.rest.now)
    (spelled c.args.profile c.args.source c.args.text.now) c.loop-part.intervals.items c.args.intervals.now.items c.push_interval-else-names_tag.new.intervals.items fault
    (bad_plain c.args.profile c.loop-part.source c.in-Some.part.now c.loop-part.rest.now c.in-Some.more.now c.in-Some.ensures.parts plain)
    c.loop-part.invariant.0 c.in_err-push_interval-2.ensures.read)

pub loop-part-preserved : goal.loop-part-preserved
loop-part-preserved c =
    let plain = sym c.names_tag.ensures ∙ c.if-names_tag.false in (
      interval_read c.args.profile c.loop-part.source c.in-Some.part.now c.loop-part.rest.now c.in-Some.more.now c.loop-part.intervals.items _ _
          c.in-Some.ensures.parts plain c.in_ok-push_interval-2.ensures.read c.loop-part.invariant.0,
      c.in_ok-push_interval-2.ensures.valid,
      c.loop-part.invariant.2,
    )

pub returns-clause-read : goal.returns-clause-read
returns-clause-read c =
    Appends-last c.args.at (one_interval c.loop-part.source c.loop-part.rest.now) (spelled c.args.profile c.args.source c.args.text.now)
    c.loop-part.intervals.items c.args.intervals.now.items c.push_interval-2.new.intervals.items c.push_interval-2.result
    (ap (appended c.loop-part.intervals.items) (sym (last_plain c.args.profile c.loop-part.source c.loop-part.rest.now c.in_default.ensures.parts)) ∙ c.loop-part.invariant.0)
    c.push_interval-2.ensures.read
