-- The text of a column's value.
use Rattle.std.specs.Prelude.{ℕ, List, Option, option_map}
use Rattle.binlog_documents.specs.Containers.{document_at}
use Rattle.binlog_documents.specs.Texts.{document_text}

-- that of the document which it is, where it is one
abbrev pub value_text : List ℕ → Option (List ℕ)
value_text value = option_map document_text (document_at value)
