-- Packed numbers: the length-encoded integers of MySQL's protocol documentation ("Basic Data Types"), as
-- Table_map_event and Rows_event write counts and lengths.
use Rattle.std.specs.Prelude.{◌≡◌, ℕ, ◌+◌, List, [], ◌∷◌, length, Option, Some, None, option_and_then, nat_le, ◌==◌, if◌then◌else◌}
use Rattle.byteorder.specs.Endian.{little_number}

-- how many bytes follow a packed number's first byte; 251 and 255 begin none
abbrev pub packed_width : ℕ → Option ℕ
packed_width first = if nat_le first 250 then Some 0 else (if first == 252 then Some 2 else (if first == 253 then Some 3 else (if first == 254 then Some 8 else None)))

-- A first byte up to 250 is the number; else the bytes after it are, the lowest first.
abbrev pub packed_number : ℕ → List ℕ → ℕ
packed_number first others = if nat_le first 250 then first else little_number (length others) others

-- The text is a packed number, in one of its spellings: longer ones than needed are accepted.
abbrev pub IsPacked : ℕ → List ℕ → Type 0
IsPacked n [] = ⊥
IsPacked n (first ∷ others) = (packed_width first ≡ Some (length others)) × (n ≡ packed_number first others)

-- the number at the front, and how many bytes it takes
unfoldable pub packed_at : List ℕ → Option (ℕ × ℕ)
packed_at [] = None
packed_at (first ∷ others) =
    option_and_then (λ w. if nat_le w (length others) then Some ((if nat_le first 250 then first else little_number w others), w + 1) else None) (packed_width first)
