use Rattle.std.proofs.Common.{◌≡◌, ◌∙◌, Some, ap, arith}
use Rattle.binlog_documents.specs.Values.{value_text}
use Rattle.binlog_documents.proofs.ReadDocuments.{AreBytes, bytes_by_index}
use Rattle.binlog_documents.proofs.JsonTexts.{text_json, whole}
use Rattle.binlog_documents.proofs.writer.DocumentWriter.text.Goals as goal

pub returns-then-branch : goal.returns-then-branch
returns-then-branch c =
    let is : Some c.as_bytes.result.now ≡ value_text c.args.value.now = ap Some c.as_bytes.ensures.value ∙ whole (value_text c.args.value.now) _ _ _ c.if-branch.true c.clear.ensures.bytes c.in_ok-append_document.ensures in
    let bytes : AreBytes c.args.value.now = bytes_by_index c.args.value.now (λ place. omega (arith, c.type_inv.value place)) in
    record { text = is; json = text_json c.args.value.now c.as_bytes.result.now bytes is }
