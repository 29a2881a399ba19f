-- Text that stands in a string as it is.
use Rattle.std.specs.Prelude.{◌≡◌, ℕ, ◌≤◌, ◌<◌, List, length, Bool, true, ◌==◌, ◌||◌, not, nat_lt, nat_le, get_or}

-- a byte that needs an escape, or that reaches a limit: 128 for characters of one byte, and 255, which no text has, for all
abbrev pub needs_care : ℕ → ℕ → Bool
needs_care limit byte = (((byte == 34) || (byte == 92)) || nat_lt byte 32) || nat_le limit byte

-- no byte from i up to j needs care
abbrev pub PlainBetween : ℕ → List ℕ → ℕ → ℕ → Type 0
PlainBetween limit text i j = (k : ℕ) → i ≤ k → k < j → not (needs_care limit (get_or text k 0)) ≡ true

abbrev pub IsPlainBelow : ℕ → List ℕ → Type 0
IsPlainBelow limit text = PlainBetween limit text 0 (length text)

-- ASCII characters that need no escape
abbrev pub IsPlain : List ℕ → Type 0
IsPlain = IsPlainBelow 128
