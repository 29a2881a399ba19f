-- The texts of documents are JSON.
use Rattle.std.proofs.Common.{◌≡◌, ℕ, Bool, true, false, cond, List, [], ◌∷◌, ◌++◌, drop, length, Option, Some, None, option_map, refl, sym, ap, ◌∙◌, subst, arith}
use Rattle.std.specs.Str.{IsUtf8, is_utf8, chars}
use Rattle.std.proofs.lemmas.List.{drop_all, drop_at}
use Rattle.std.proofs.lemmas.List.Elements.{recursion_from_All}
use Rattle.std.proofs.lemmas.Str.{IsUtf8-append, IsUtf8-nil, is_utf8-from_IsUtf8}
use Rattle.json.specs.Token.{Token}
use Rattle.json.specs.Json as json
use Rattle.json.proofs.OnLiterals.{json_on_literals}
use Rattle.json.specs.Print.{ends, print_from}
use Rattle.json.specs.Tree.{json_tokens}
use Rattle.json.proofs.Printed.Trees.{document-print}
use Rattle.json.proofs.Printed.Utf8.{IsUtf8-separator}
use Rattle.binlog_documents.specs.Appended.{IsRead}
use Rattle.binlog_documents.specs.Document.{Document}
use Rattle.binlog_documents.specs.Scalars.{Reading}
use Rattle.binlog_documents.specs.Containers.{value_at, greatest_depth, document_at}
use Rattle.binlog_documents.specs.Texts.{document_text}
use Rattle.binlog_documents.specs.Values.{value_text}
use Rattle.binlog_documents.specs.AsJson.{as_json, json_value, AppendsJson, DocumentsAreJson, IsJsonOf}
use Rattle.binlog_documents.proofs.PrintedDocuments.{print_is}
use Rattle.binlog_documents.proofs.ReadDocuments.{AreBytes, AreTexts, IsSound, Sound, sound_null, value_sound}

print_utf8 : (later : Bool) (ts : List Token) → AreTexts ts → IsUtf8 (print_from later ts)
unfolding print_from
print_utf8 later [] p = IsUtf8-nil
print_utf8 later (t ∷ ts) p = IsUtf8-append _ _ (IsUtf8-separator later t) (IsUtf8-append _ _ p.0 (print_utf8 (ends t) ts p.1))

-- ---- the document that bytes are

abbrev OnDocument : Option Document → Type 0
OnDocument None = Unit {0}
OnDocument (Some d) = IsSound 101 (as_json d)

record SoundDocument (o : Option Document) : Type 0 where
  has : OnDocument o

of_reading : (r : Reading) → Sound 101 r → SoundDocument (option_map (λ x. x.0) r)
of_reading None p = record { has = tt }
of_reading (Some x) p = record { has = p.has }

document_sound : (bytes : List ℕ) → AreBytes bytes → SoundDocument (document_at bytes)
unfolding document_at
document_sound [] b = record { has = sound_null 101 }
document_sound (kind ∷ bytes) b = of_reading (value_at greatest_depth kind bytes) (value_sound greatest_depth kind bytes b.1)

found : (o : Option Document) (d : Document) → SoundDocument o → o ≡ Some d → IsSound 101 (as_json d)
found None d p e = absurd cc
found (Some other) d p e = let same : other ≡ d = cc in subst (λ x. IsSound 101 (as_json x)) same p.has

text_is_utf8 : (d : Document) → IsSound 101 (as_json d) → IsUtf8 (document_text d)
text_is_utf8 d p = subst IsUtf8 (print_is d) (print_utf8 false (json_tokens (as_json d)) p.texts)

document_json : (d : Document) → IsSound 101 (as_json d) → json_value (document_text d) ≡ Some (as_json d)
document_json d sound =
    let deep = sound.shallow in
    ap (λ b. cond b (json.document (document_text d)) None) (is_utf8-from_IsUtf8 (document_text d) (text_is_utf8 d sound))
    ∙ ap json.document (sym (print_is d)) ∙ document-print (as_json d) sound.numbers (omega arith)

pub documents_are_json : DocumentsAreJson
documents_are_json bytes d small is = document_json d (found (document_at bytes) d (document_sound bytes (recursion_from_All _ bytes small)) is)

read_text : (o : Option Document) (t : List ℕ) → Some t ≡ option_map document_text o → SoundDocument o → IsUtf8 t
read_text None t is p = absurd cc
read_text (Some d) t is p = let same : document_text d ≡ t = cc in subst IsUtf8 same (text_is_utf8 d p.has)

-- the text of a value is UTF-8
pub text_utf8 : (value t : List ℕ) → AreBytes value → Some t ≡ value_text value → IsUtf8 t
text_utf8 value t b is = read_text (document_at value) t is (document_sound value b)

-- ---- the value that is read in it

read_json : (o : Option Document) (t : List ℕ) → Some t ≡ option_map document_text o → SoundDocument o → json_value t ≡ option_map as_json o
read_json None t is p = absurd cc
read_json (Some d) t is p = let same : document_text d ≡ t = cc in subst (λ (x : List ℕ). json_value x ≡ Some (as_json d)) same (document_json d p.has)

pub text_json : (value t : List ℕ) → AreBytes value → Some t ≡ value_text value → IsJsonOf value t
text_json value t b is = read_json (document_at value) t is (document_sound value b)

-- the text that was read behind nothing
pub whole : (o : Option (List ℕ)) (old new : List ℕ) (is_text : Bool) → is_text ≡ true → old ≡ [] → IsRead old new o is_text → Some new ≡ o
whole None old new is_text there empty is = absurd cc
whole (Some t) old new is_text there empty is = ap Some (is.1 ∙ ap (λ (x : List ℕ). x ++ t) empty)

pub behind_json : (value old t new : List ℕ) → new ≡ old ++ t → IsJsonOf value t → AppendsJson value old new
behind_json value old t new is h = ap (λ (x : List ℕ). json_value (drop (length old) x)) is ∙ ap json_value (drop_at old t (length old) refl) ∙ h

no_json : json_value [] ≡ None
unfolding is_utf8 chars json_on_literals
no_json = refl

no_text : (o : Option Document) → None ≡ option_map document_text o → None ≡ option_map as_json o
no_text None is = refl
no_text (Some d) is = absurd cc

pub nothing_json : (value old : List ℕ) → None ≡ value_text value → AppendsJson value old old
nothing_json value old is = ap json_value (drop_all (length old) old (omega arith)) ∙ no_json ∙ no_text (document_at value) is
