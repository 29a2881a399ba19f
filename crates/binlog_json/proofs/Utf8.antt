-- Bytes that are not text.
use Rattle.std.proofs.Common.{◌≡◌, ℕ, ◌<◌, List, [], ◌∷◌, false}
use Rattle.std.specs.Str.{IsUtf8, is_utf8}
use Rattle.std.proofs.lemmas.Bool.{false_from_ne_true}
use Rattle.std.proofs.lemmas.Str.{IsUtf8-from_is_utf8, IsUtf8-from_ascii}
use Rattle.std.proofs.lemmas.Str.Ascii.{IsAscii-nil, IsAscii-cons}

pub not_utf8 : (bytes : List ℕ) → ¬ (IsUtf8 bytes) → is_utf8 bytes ≡ false
not_utf8 bytes none = false_from_ne_true (is_utf8 bytes) (λ e. none (IsUtf8-from_is_utf8 bytes e))

pub utf8_byte : (byte : ℕ) → byte < 128 → IsUtf8 (byte ∷ [])
utf8_byte byte below = IsUtf8-from_ascii (byte ∷ []) (IsAscii-cons byte [] below IsAscii-nil)
