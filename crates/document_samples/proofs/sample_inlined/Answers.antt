use Rattle.std.proofs.Common.{pos, negsuc, refl, arith}
use Rattle.binlog_documents.specs.Document.{integer, array, no_elements, element}
use Rattle.binlog_documents.proofs.ReadIsSpelled.{document_found}
use Rattle.document_samples.specs.Bytes.{hex}
use Rattle.document_samples.specs.Inlined.{one_number}
use Rattle.document_samples.proofs.OnDocuments.{on_documents}
use Rattle.document_samples.proofs.Unspelled.{other}
use Rattle.document_samples.proofs.sample_inlined.Goals as goal

pub returns-clause-spelled_in_entries : goal.returns-clause-spelled_in_entries
unfolding on_documents
returns-clause-spelled_in_entries c =
    (document_found (hex "02 01 00 07 00 06 ff ff") one_number refl, document_found (hex "03 01 00 00 00 0d 00 00 00 06 ff ff 00 00") one_number refl)

pub returns-clause-not_spelled_at_places : goal.returns-clause-not_spelled_at_places
unfolding on_documents
returns-clause-not_spelled_at_places c = (
  other one_number (array (element (integer (pos 7)) no_elements)) (hex "02 01 00 09 00 06 07 00 ff ff") 1 refl (λ e. omega (arith, e)),
  other one_number (array (element (integer (pos 13)) no_elements)) (hex "03 01 00 00 00 0f 00 00 00 06 0d 00 00 00 ff ff") 1 refl (λ e. omega (arith, e)),
  other one_number (array (element (integer (negsuc 0)) no_elements)) (hex "02 01 00 07 00 05 ff ff") 1 refl (λ e. omega (arith, e)),
)
