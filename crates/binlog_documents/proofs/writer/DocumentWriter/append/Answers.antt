use Rattle.std.proofs.Common.{◌≡◌, Some, sym, subst, arith}
use Rattle.std.specs.Str.{IsUtf8}
use Rattle.std.proofs.lemmas.Str.{IsUtf8-append}
use Rattle.binlog_documents.specs.Values.{value_text}
use Rattle.binlog_documents.proofs.ReadDocuments.{AreBytes, bytes_by_index}
use Rattle.binlog_documents.proofs.JsonTexts.{text_utf8, behind_json, nothing_json}
use Rattle.binlog_documents.proofs.writer.DocumentWriter.append.Goals as goal

pub returns-clause-utf8 : goal.returns-clause-utf8
returns-clause-utf8 c before =
    let is : Some c.in-Some.text.now ≡ value_text c.args.value.now = rw c.in-Some.is at c.in_ok-text.ensures.text in
    let bytes : AreBytes c.args.value.now = bytes_by_index c.args.value.now (λ place. omega (arith, c.type_inv.value place)) in
    subst IsUtf8 (sym c.in_ok-extend_from_slice.ensures.items) (IsUtf8-append _ _ before (text_utf8 c.args.value.now c.in-Some.text.now bytes is))

pub returns-clause-json : goal.returns-clause-json
returns-clause-json c =
    behind_json c.args.value.now _ c.in-Some.text.now _ c.in_ok-extend_from_slice.ensures.items (rw c.in-Some.is at c.in_ok-text.ensures.json)

pub returns-in_default-clause-json : goal.returns-in_default-clause-json
returns-in_default-clause-json c = nothing_json c.args.value.now c.args.out.now.items (rw c.in_default.is at c.in_ok-text.ensures.text)
