-- What is appended to a text while a document is read.
use Rattle.std.specs.Prelude.{◌≡◌, ◌≤◌, length, take, ℕ, List, [], ◌∷◌, ◌++◌, Bool, true, false, Option, Some, None, option_map}
use Rattle.json.specs.Print.{quoted}
use Rattle.binlog_documents.specs.Containers.{array_at, object_at, elements_of, members_of, value_at}
use Rattle.binlog_documents.specs.Scalars.{Reading}
use Rattle.binlog_documents.specs.Texts.{document_text, elements_text, members_text}
use Rattle.binlog_documents.specs.Widths.{bytes_of, container_view}
use Rattle.binlog_documents.specs.Drafts.{said}
use Rattle.binlog_documents.specs.declared.container.Container as stored
use Rattle.binlog_documents.specs.declared.container.Width.{Width}
use Rattle.binlog_documents.specs.declared.draft.Draft.{Draft}

-- bytes that are the first ones of others
abbrev pub IsFrontOf : List ℕ → List ℕ → Type 0
IsFrontOf ahead bytes = (length bytes ≤ length ahead) × (take (length bytes) ahead ≡ bytes)

-- a text that is read, behind what stands there, and where it ends
abbrev pub behind : List ℕ → Reading → Option (List ℕ × ℕ)
behind front reading = option_map (λ x. (front ++ document_text x.0, x.1)) reading

-- an array, and an object, whose values lie no deeper
abbrev pub array_of : ℕ → Width → List ℕ → Reading
array_of depth width bytes = array_at (value_at depth) (bytes_of width) bytes

abbrev pub object_of : ℕ → Width → List ℕ → Reading
object_of depth width bytes = object_at (value_at depth) (bytes_of width) bytes

-- Where there is a value, its text was appended, and the place is where it ends.
abbrev pub IsAppended : List ℕ → List ℕ → Reading → Option ℕ → Type 0
IsAppended old new reading end = option_map (λ e. (new, e)) end ≡ behind old reading

-- the same of a draft
abbrev pub Appends : Draft → Draft → Reading → Option ℕ → Type 0
Appends old new reading end = IsAppended (said old) (said new) reading end

-- the same for a key and its colon
abbrev pub key_behind : List ℕ → Option (List ℕ × ℕ) → Option (List ℕ × ℕ)
key_behind front reading = option_map (λ k. (front ++ (quoted k.0 ++ 58 ∷ []), k.1)) reading

abbrev pub IsKeyAppended : List ℕ → List ℕ → Option (List ℕ × ℕ) → Option ℕ → Type 0
IsKeyAppended old new reading end = option_map (λ e. (new, e)) end ≡ key_behind old reading

-- Whether there was a text; if so, it was appended.
abbrev pub IsRead : List ℕ → List ℕ → Option (List ℕ) → Bool → Type 0
IsRead old new None is_text = is_text ≡ false
IsRead old new (Some text) is_text = (is_text ≡ true) × (new ≡ old ++ text)

-- Whether there was a text, which was appended; where there was none, nothing was.
abbrev pub AppendsText : List ℕ → List ℕ → Option (List ℕ) → Bool → Type 0
AppendsText old new None is_text = (is_text ≡ false) × (new ≡ old)
AppendsText old new (Some text) is_text = (is_text ≡ true) × (new ≡ old ++ text)

-- the text of an array's elements, and of an object's members, where each of their values is one that lies no deeper
abbrev pub text_of_elements : ℕ → Width → stored.Container → Option (List ℕ)
text_of_elements depth width array = option_map (elements_text false) (elements_of (value_at depth) (bytes_of width) (container_view array))

abbrev pub text_of_members : ℕ → Width → stored.Container → Option (List ℕ)
text_of_members depth width object = option_map (members_text false) (members_of (value_at depth) (bytes_of width) (container_view object))
