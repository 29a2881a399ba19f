-- What a draft says.
use Rattle.std.specs.Prelude.{ℕ, List, take}
use Rattle.binlog_documents.specs.declared.draft.Draft.{Draft}

-- without the room behind what was written
abbrev pub said : Draft → List ℕ
said it = take it.len it.bytes.items
