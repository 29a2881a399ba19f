-- Bytes that stand in a string as they are, as a string and as a key.
use Rattle.std.proofs.Common.{◌≡◌, ◌∙◌, ℕ, ◌+◌, ◌<◌, ◌≤◌, List, [], ◌∷◌, ◌++◌, length, take, drop, Option, Some, None, option_map, Bool, true, false, not, nat_le, if◌then◌else◌, refl, sym, ap, append_assoc, length-take-le, get_or-take, arith}
use Rattle.std.proofs.lemmas.Bool.{le-leb, lt-leb}
use Rattle.json.specs.Print.{quoted}
use Rattle.binlog_documents.specs.Appended.{AppendsText, IsAppended, behind}
use Rattle.binlog_documents.specs.Document.{text}
use Rattle.binlog_documents.specs.PlainText.{IsPlain, PlainBetween, needs_care}
use Rattle.binlog_documents.specs.Scalars.{counted_at, length_at, scalar_at, text_at, utf8_text}
use Rattle.binlog_documents.proofs.PlainText.{plain_escape, plain_utf8}

plain-is_text : (bytes : List ℕ) → IsPlain bytes → utf8_text bytes ≡ Some bytes
unfolding utf8_text
plain-is_text bytes plain = rw (plain_utf8 bytes plain) refl

quoted-plain : (bytes : List ℕ) → IsPlain bytes → 34 ∷ (bytes ++ 34 ∷ []) ≡ quoted bytes
quoted-plain bytes plain = ap (λ (t : List ℕ). 34 ∷ (t ++ 34 ∷ [])) (sym (plain_escape 128 bytes plain))

pub plain-string : (bytes old new : List ℕ) → IsPlain bytes → new ≡ old ++ 34 ∷ (bytes ++ 34 ∷ []) → AppendsText old new (option_map quoted (utf8_text bytes)) true
plain-string bytes old new plain is = rw (plain-is_text bytes plain) (refl, is ∙ ap (λ (t : List ℕ). old ++ t) (quoted-plain bytes plain))

key-plain : (bytes : List ℕ) → IsPlain bytes → 34 ∷ (bytes ++ 34 ∷ 58 ∷ []) ≡ quoted bytes ++ 58 ∷ []
key-plain bytes plain = let parts : 34 ∷ (bytes ++ 34 ∷ 58 ∷ []) ≡ (34 ∷ (bytes ++ 34 ∷ [])) ++ 58 ∷ [] = simp append_assoc in parts ∙ ap (λ (t : List ℕ). t ++ 58 ∷ []) (quoted-plain bytes plain)

pub plain-key : (bytes old new : List ℕ) → IsPlain bytes → new ≡ old ++ 34 ∷ (bytes ++ 34 ∷ 58 ∷ []) → AppendsText old new (option_map (λ k. quoted k ++ 58 ∷ []) (utf8_text bytes)) true
plain-key bytes old new plain is = rw (plain-is_text bytes plain) (refl, is ∙ ap (λ (t : List ℕ). old ++ t) (key-plain bytes plain))

pub scalar-is_text : (kind : ℕ) (bytes : List ℕ) → kind ≡ 12 → scalar_at kind bytes ≡ text_at bytes
unfolding scalar_at
scalar-is_text kind bytes is = rw is refl

-- the front of bytes that need no escape there
pub plain-front : (bytes : List ℕ) (len : ℕ) → len ≤ length bytes → PlainBetween 128 bytes 0 len → IsPlain (take len bytes)
plain-front bytes len within plain k p q =
    let small : k < len = omega (arith, q, length-take-le len bytes within) in
    ap (λ x. not (needs_care 128 x)) (get_or-take len bytes k 0 small) ∙ plain k p small

-- ---- strings behind their length

pub text-none : (bytes old new : List ℕ) → length_at 5 bytes ≡ None → IsAppended old new (text_at bytes) None
unfolding text_at counted_at
text-none bytes old new none = rw none refl

pub text-short : (bytes old new : List ℕ) (len begin : ℕ) → length_at 5 bytes ≡ Some (len, begin) → length bytes < begin + len → IsAppended old new (text_at bytes) None
unfolding text_at counted_at
text-short bytes old new len begin is short =
    let beyond : nat_le (begin + len) (length bytes) ≡ false = lt-leb (begin + len) (length bytes) short in
    rw (is, beyond) refl

shown : (o : Option (List ℕ)) (old new : List ℕ) (end : ℕ) (is_text : Bool) → AppendsText old new (option_map quoted o) is_text
    → option_map (λ e. (new, e)) (if is_text then Some end else None) ≡ behind old (option_map (λ s. (text s, end)) o)
shown None old new end is_text h = rw h.0 refl
shown (Some s) old new end is_text h = rw (h.0, h.1) refl

pub text-whole : (bytes old new : List ℕ) (len begin : ℕ) (is_text : Bool) → length_at 5 bytes ≡ Some (len, begin) → begin + len ≤ length bytes
    → AppendsText old new (option_map quoted (utf8_text (take len (drop begin bytes)))) is_text → IsAppended old new (text_at bytes) (if is_text then Some (begin + len) else None)
unfolding text_at counted_at
text-whole bytes old new len begin is_text is room h =
    let within : nat_le (begin + len) (length bytes) ≡ true = le-leb (begin + len) (length bytes) room in
    rw (is, within) (shown (utf8_text (take len (drop begin bytes))) old new (begin + len) is_text h)
