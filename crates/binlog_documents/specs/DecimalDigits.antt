-- The digits of a decimal in the bytes that MySQL stores it as (decimal.cc, decimal2bin), and what these are shown as.
use Rattle.std.specs.Prelude.{◌≡◌, ℕ, ◌+◌, List, [], ◌∷◌, ◌++◌, length, slice_index, Bool, true, nat_lt, Some}
use Rattle.std.specs.Str.Parse.{AllDigits, digits_value}
use Rattle.byteorder.specs.Endian.{big_number}
use Rattle.binlog_documents.specs.Opaques.{decimal_opaque, group_len, groups, has_precision, plain, scaled_text}

-- groups of so many digits each, as characters, of which the bytes are the numbers, the highest byte first
abbrev pub AreGroups : List ℕ → List ℕ → List ℕ → Type 0
AreGroups [] digits bytes = (digits ≡ []) × (bytes ≡ [])
AreGroups (size ∷ sizes) digits bytes =
    (group : List ℕ) × (more : List ℕ) × (number : List ℕ) × (others : List ℕ) × (digits ≡ group ++ more) × (bytes ≡ number ++ others)
    × (length group ≡ size) × AllDigits 10 group × (length number ≡ group_len size) × (big_number (group_len size) number ≡ digits_value 10 group)
    × AreGroups sizes more others

-- A decimal with so many digits in front of the point and so many behind it. Its first bit is 1 where it isn't below zero.
pub record IsDecimal (negative : Bool) (front behind : ℕ) (digits bytes : List ℕ) : Type 0 where
  pub precise : has_precision (front + behind) behind ≡ true
  pub sign : nat_lt (slice_index bytes 0) 128 ≡ negative
  pub grouped : AreGroups (groups front behind) digits (plain negative bytes)

-- It is shown as these digits, with a point behind the front ones, and its sign.
abbrev pub DecimalsAreShown : Type 0
DecimalsAreShown =
    (negative : Bool) (front behind : ℕ) (digits bytes : List ℕ) → IsDecimal negative front behind digits bytes
    → decimal_opaque ((front + behind) ∷ behind ∷ bytes) ≡ Some (scaled_text negative front digits)
