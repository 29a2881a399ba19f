-- The text of a float as it is stored: the bits of IEEE 754's binary32 in 4 bytes or of its binary64 in 8, the lowest byte first.
use Rattle.std.specs.Prelude.{ℕ, ◌*◌, ◌%◌, ◌==◌, nat_lt, List, length, Option, Some, None, MatchOption, Bool, true, false, ◌≡◌, ◌++◌, if◌then◌else◌}
use Rattle.std.specs.Float.Ieee.{Format, binary32, binary64, top, hid, ones}
use Rattle.byteorder.specs.Endian.{little_number}
use Rattle.float_text.specs.Layout.{number_text}

-- NaN and the infinities have no text
abbrev pub text_of_bits : Format → ℕ → Option (List ℕ)
text_of_bits f bits = if nat_lt (bits % top f) (ones f * hid f) then Some (number_text f bits) else None

-- nor have bytes of another length
abbrev pub stored_text : List ℕ → Option (List ℕ)
stored_text bytes =
    if length bytes == 4 then text_of_bits binary32 (little_number 4 bytes)
    else (if length bytes == 8 then text_of_bits binary64 (little_number 8 bytes) else None)

-- the text is appended, and the answer is yes; or there is none, nothing is appended, and the answer is no
abbrev pub AppendsNumber : List ℕ → List ℕ → Option (List ℕ) → Bool → Type 0
AppendsNumber old new number is_number =
    MatchOption number ((is_number ≡ false) × (new ≡ old)) (λ text. (is_number ≡ true) × (new ≡ old ++ text))
