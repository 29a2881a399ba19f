use Rattle.binlog_json.specs.Keys.{value_in}
use Rattle.std.proofs.Common.{append-nil, ◌∙◌, sym}
use Rattle.binlog_json.proofs.KeyTexts.{first_or, none_first}
use Rattle.binlog_json.proofs.key.append_of_either.Goals as goal

pub returns-then-branch : goal.returns-then-branch
returns-then-branch c =
    rw (first_or (value_in c.args.style c.args.image.now c.args.column) _ _ c.in_ok-append_of.ensures.has c.if-branch.true)
    (record { text = c.in_ok-append_of.ensures.text; has = sym c.if-branch.true ∙ c.in_ok-append_of.ensures.has })

pub returns-in-Some : goal.returns-in-Some
returns-in-Some c =
    let none = none_first (value_in c.args.style c.args.image.now c.args.column) _ c.in_ok-append_of.ensures.has c.if-branch.false in
    let same = simp (none, append-nil) at c.in_ok-append_of.ensures.text in
    rw (none, c.in-Some.is) (record { text = rw same at c.append_of-in-Some.ensures.text; has = c.append_of-in-Some.ensures.has })
