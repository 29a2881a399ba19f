-- What a FLOAT, a DOUBLE, a value of JSON and a VECTOR are in a full line.
use Rattle.std.proofs.Common.{◌≡◌, ℕ, List, [], ◌++◌, Bool, true, false, Option, Some, None, Result, Ok, Err, is_ok, OnOk, IfOk, if◌then◌else◌, refl, sym, ap, subst, ◌∙◌, codes, true≢false, IsAscii}
use Rattle.std.specs.Str.{IsUtf8}
use Rattle.std.proofs.lemmas.Str.{IsUtf8-from_ascii}
use Rattle.std.proofs.lemmas.Str.Ascii.{IsAscii-nil}
use Rattle.binlog_json.specs.Json.{compact_text}
use Rattle.binlog_json.specs.Values.{encoded_data}
use Rattle.binlog_json.specs.FullValues.{written_or_raw}
use Rattle.binlog_json.specs.Reading.{IsRead}

-- ASCII behind nothing is text
pub utf8_of_ascii : {A E : Type 0} (r : Result A E) (before after : List ℕ) → IfOk r (λ _. IsAscii before → IsAscii after) → IfOk r (λ _. before ≡ [] → IsUtf8 after)
utf8_of_ascii (Ok a) before after keeps = λ empty. IsUtf8-from_ascii after (keeps (subst IsAscii (sym empty) IsAscii-nil))
utf8_of_ascii (Err e) before after keeps = tt

module _ (text : Option (List ℕ)) (bytes before after : List ℕ) (is_text : Bool) (empty : before ≡ []) (appended : IsRead before after text is_text) where
  pub text_shown : is_text ≡ true → compact_text (written_or_raw bytes text) ≡ after
  text_shown given = shown text appended
    where
      shown : (text : Option (List ℕ)) → IsRead before after text is_text → compact_text (written_or_raw bytes text) ≡ after
      shown None is = absurd (true≢false (sym given ∙ is))
      shown (Some text) is = sym (rw empty at is.1)

  pub bytes_shown : is_text ≡ false → compact_text (written_or_raw bytes text) ≡ compact_text (encoded_data (codes "raw") bytes)
  bytes_shown no_text = shown text appended
    where
      shown : (text : Option (List ℕ)) → IsRead before after text is_text → compact_text (written_or_raw bytes text) ≡ compact_text (encoded_data (codes "raw") bytes)
      shown None is = refl
      shown (Some text) is = absurd (true≢false (sym is.0 ∙ no_text))

-- a text was appended, where there was room
pub pushed : {A E : Type 0} (r : Result A E) (before after text shown : List ℕ) → shown ≡ text → after ≡ (if is_ok r then before ++ text else before) → OnOk r (after ≡ before ++ shown)
pushed (Ok a) before after text shown is appended = appended ∙ ap (λ (it : List ℕ). before ++ it) (sym is)
pushed (Err e) before after text shown is appended = tt
