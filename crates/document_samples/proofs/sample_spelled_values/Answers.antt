use Rattle.std.proofs.Common.{pos, negsuc, [], ◌∷◌, refl, arith, true, false}
use Rattle.std.specs.Prelude.{codes}
use Rattle.binlog_documents.specs.Document.{null, boolean, integer, double, text, opaque, array, object, no_elements, no_members, member}
use Rattle.binlog_documents.proofs.ReadIsSpelled.{document_found}
use Rattle.document_samples.specs.Bytes.{hex}
use Rattle.document_samples.specs.Shapes.{nested, nested_document}
use Rattle.document_samples.specs.SpelledValues.{minus_one, two_members}
use Rattle.document_samples.proofs.OnDocuments.{on_documents}
use Rattle.document_samples.proofs.Unspelled.{unread, other}
use Rattle.document_samples.proofs.sample_spelled_values.Goals as goal

pub returns-clause-spelled_literals : goal.returns-clause-spelled_literals
unfolding on_documents
returns-clause-spelled_literals c = (
  document_found [] null refl,
  document_found (hex "04 00 07") null refl,
  document_found (hex "04 01") (boolean true) refl,
  document_found (hex "04 02") (boolean false) refl,
  other null (boolean true) (hex "04 01") 0 refl (λ e. omega (arith, e)),
  other (boolean true) (boolean false) (hex "04 02") 0 refl (λ e. omega (arith, e)),
  unread (boolean false) (hex "04 03") refl,
  other (boolean false) null [] 0 refl (λ e. omega (arith, e)),
)

pub returns-clause-spelled_integers : goal.returns-clause-spelled_integers
unfolding on_documents
returns-clause-spelled_integers c = (
  document_found (hex "05 ff ff 07") (integer (negsuc 0)) refl,
  document_found (hex "06 ff ff 07") (integer (pos 65535)) refl,
  document_found (hex "07 00 00 00 80 07") (integer (negsuc 2147483647)) refl,
  document_found (hex "08 ff ff ff ff 07") (integer (pos 4294967295)) refl,
  document_found (hex "09 ff ff ff ff ff ff ff ff 07") (integer (negsuc 0)) refl,
  document_found (hex "0a ff ff ff ff ff ff ff ff 07") (integer (pos 18446744073709551615)) refl,
)

pub returns-clause-integers_not_spelled : goal.returns-clause-integers_not_spelled
unfolding on_documents
returns-clause-integers_not_spelled c = (
  other (integer (pos 65535)) (integer (negsuc 0)) (hex "05 ff ff") 0 refl (λ e. omega (arith, e)),
  other (integer (negsuc 0)) (integer (pos 65535)) (hex "06 ff ff") 0 refl (λ e. omega (arith, e)),
  other (integer (negsuc 0)) (integer (pos 4294967295)) (hex "08 ff ff ff ff") 0 refl (λ e. omega (arith, e)),
  unread (integer (pos 65535)) (hex "06 ff") refl,
  unread (integer (pos 65535)) (hex "08 ff ff 00") refl,
  unread (integer (pos 65535)) (hex "0a ff ff 00 00 00 00 00") refl,
)

pub returns-clause-spelled_doubles : goal.returns-clause-spelled_doubles
unfolding on_documents
returns-clause-spelled_doubles c = (
  document_found (hex "0b 00 00 00 00 00 00 f8 3f 07") (double 0x3ff8000000000000) refl,
  unread (double 0x7ff0000000000000) (hex "0b 00 00 00 00 00 00 f0 7f") refl,
  unread (double 0x7ff8000000000001) (hex "0b 01 00 00 00 00 00 f8 7f") refl,
)

pub returns-clause-spelled_texts : goal.returns-clause-spelled_texts
unfolding on_documents
returns-clause-spelled_texts c = (
  document_found (hex "0c 02 61 62 07") (text (codes "ab")) refl,
  document_found (hex "0c 82 00 61 62") (text (codes "ab")) refl,
  document_found (hex "0c 81 80 80 80 00 61") (text (codes "a")) refl,
  document_found (hex "0f fc 02 61 ff 07") (opaque 252 (0x61 ∷ 0xff ∷ [])) refl,
  unread (text (codes "a")) (hex "0c 81 80 80 80 80 00 61") refl,
  unread (text (codes "ab")) (hex "0c 03 61 62") refl,
  unread (text (0xff ∷ [])) (hex "0c 01 ff") refl,
  unread (opaque 252 (0x61 ∷ 0xff ∷ [])) (hex "0f fc 03 61 ff") refl,
)

pub returns-clause-spelled_containers : goal.returns-clause-spelled_containers
unfolding on_documents
returns-clause-spelled_containers c = (
  document_found (hex "03 01 00 00 00 15 00 00 00 09 0d 00 00 00 ff ff ff ff ff ff ff ff") minus_one refl,
  document_found (hex "00 02 00 15 00 12 00 01 00 14 00 01 00 05 01 00 05 02 00 61 ff 62") two_members refl,
  document_found (hex "03 00 00 00 00 08 00 00 00") (array no_elements) refl,
  document_found (hex "00 00 00 04 00") (object no_members) refl,
)

pub returns-clause-containers_not_spelled : goal.returns-clause-containers_not_spelled
unfolding on_documents
returns-clause-containers_not_spelled c = (
  unread minus_one (hex "03 01 00 00 00 0d 00 00 00 09 ff ff ff ff") refl,
  unread minus_one (hex "03 01 00 00 00 15 00 00 00 09 0e 00 00 00 ff ff ff ff ff ff ff ff") refl,
  unread two_members (hex "00 02 00 14 00 13 00 01 00 12 00 01 00 05 01 00 05 02 00 62 61") refl,
  unread (object (member (codes "a") (integer (pos 1)) (member (codes "a") (integer (pos 2)) no_members))) (hex "00 02 00 14 00 12 00 01 00 12 00 01 00 05 01 00 05 02 00 61 61") refl,
  unread (object (member (0xff ∷ []) (integer (pos 1)) no_members)) (hex "00 01 00 0c 00 0b 00 01 00 05 01 00 ff") refl,
)

pub returns-clause-spelled_depths : goal.returns-clause-spelled_depths
unfolding on_documents
returns-clause-spelled_depths c = (document_found (nested 100) (nested_document 100) refl, unread (nested_document 101) (nested 101) refl)
