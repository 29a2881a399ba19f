-- What bytes don't spell, by what reading finds in them.
use Rattle.std.proofs.Common.{◌≡◌, ◌∙◌, ℕ, List, None, Some, sym, ap}
use Rattle.std.specs.Prelude.{slice_index}
use Rattle.std.proofs.lemmas.Option.{none-some, same_Some}
use Rattle.binlog_documents.specs.Document.{Document}
use Rattle.binlog_documents.specs.Containers.{document_at}
use Rattle.binlog_documents.specs.Spelling.{Spells}
use Rattle.binlog_documents.specs.Texts.{document_text}
use Rattle.binlog_documents.proofs.Spelled.{document_only}

-- What reading finds nothing in, spells nothing.
pub unread : (d : Document) (bytes : List ℕ) → document_at bytes ≡ None → Spells d bytes → ⊥
unread d bytes none is = absurd (none-some d (sym none ∙ document_only d bytes is))

-- nor does what another document is read in, whose text has another byte at some place
pub other : (d e : Document) (bytes : List ℕ) (place : ℕ) → document_at bytes ≡ Some e → (slice_index (document_text e) place ≡ slice_index (document_text d) place → ⊥) → Spells d bytes → ⊥
other d e bytes place read differ is = differ (ap (λ (x : Document). slice_index (document_text x) place) (same_Some e d (sym read ∙ document_only d bytes is)))
