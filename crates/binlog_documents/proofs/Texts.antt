-- Bytes that are text, and bytes that are none.
use Rattle.std.proofs.Common.{◌≡◌, Bool, true, false, List, ℕ, Some, None, if◌then◌else◌, refl}
use Rattle.std.specs.Str.{IsUtf8, is_utf8}
use Rattle.std.proofs.lemmas.Str.{IsUtf8-from_is_utf8, is_utf8-from_IsUtf8}
use Rattle.binlog_documents.specs.Scalars.{utf8_text}

pub text-is : (bytes text : List ℕ) → text ≡ bytes → IsUtf8 bytes → Some text ≡ utf8_text bytes
unfolding utf8_text
text-is bytes text same utf8 = rw (is_utf8-from_IsUtf8 bytes utf8, same) refl

none-at : (b : Bool) (bytes : List ℕ) → (b ≡ true → ⊥) → None ≡ (if b then Some bytes else None)
none-at true bytes isnt = absurd (isnt refl)
none-at false bytes isnt = refl

pub text-is_none : (bytes : List ℕ) → (IsUtf8 bytes → ⊥) → None ≡ utf8_text bytes
unfolding utf8_text
text-is_none bytes isnt = none-at (is_utf8 bytes) bytes (λ e. isnt (IsUtf8-from_is_utf8 bytes e))
