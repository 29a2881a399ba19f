use Rattle.std.proofs.Common.{◌≡◌, ◌∙◌, ◌+◌, ◌<◌, ◌≤◌, Some, length, sym, arith, length-drop}
use Rattle.std.proofs.lemmas.List.{take_rest}
use Rattle.binlog_documents.specs.Drafts.{said}
use Rattle.binlog_documents.specs.Scalars.{length_at}
use Rattle.binlog_documents.proofs.PlainStrings.{text-none, text-short, text-whole}
use Rattle.binlog_documents.proofs.documents.append_text_at.Goals as goal

pub returns-in_default-clause-text : goal.returns-in_default-clause-text
returns-in_default-clause-text c = text-none c.args.bytes.now (said c.args.out.now) (said c.args.out.now) (sym c.text_length_at.ensures.value ∙ c.in_default.is)

pub returns-then-len-text-clause-text : goal.returns-then-len-text-clause-text
returns-then-len-text-clause-text c =
    let counted : length_at 5 c.args.bytes.now ≡ Some (c.in-Some.len, c.in-Some.begin) = cc in
    let beyond : length c.args.bytes.now < c.in-Some.begin + c.in-Some.len = omega (arith, length-drop c.in-Some.begin c.args.bytes.now, c.if-len-text.true, c.in-Some.ensures.within) in
    text-short c.args.bytes.now (said c.args.out.now) (said c.args.out.now) c.in-Some.len c.in-Some.begin counted beyond

pub returns-then-not-branch-clause-text : goal.returns-then-not-branch-clause-text
returns-then-not-branch-clause-text c =
    let counted : length_at 5 c.args.bytes.now ≡ Some (c.in-Some.len, c.in-Some.begin) = cc in
    let room : c.in-Some.begin + c.in-Some.len ≤ length c.args.bytes.now = omega (arith, length-drop c.in-Some.begin c.args.bytes.now, c.if-len-text.false, c.in-Some.ensures.within) in
    let whole = text-whole c.args.bytes.now (said c.args.out.now) (said c.append_text.new.out) c.in-Some.len c.in-Some.begin c.in_ok-append_text.field-0 counted room (rw (take_rest c.args.bytes.now c.in-Some.begin) at c.in_ok-append_text.ensures) in
    rw c.if-not-branch.true at whole

pub returns-clause-text : goal.returns-clause-text
returns-clause-text c =
    let counted : length_at 5 c.args.bytes.now ≡ Some (c.in-Some.len, c.in-Some.begin) = cc in
    let room : c.in-Some.begin + c.in-Some.len ≤ length c.args.bytes.now = omega (arith, length-drop c.in-Some.begin c.args.bytes.now, c.if-len-text.false, c.in-Some.ensures.within) in
    let whole = text-whole c.args.bytes.now (said c.args.out.now) (said c.append_text.new.out) c.in-Some.len c.in-Some.begin c.in_ok-append_text.field-0 counted room (rw (take_rest c.args.bytes.now c.in-Some.begin) at c.in_ok-append_text.ensures) in
    rw c.if-not-branch.false at whole
