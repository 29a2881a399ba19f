-- Which float the text of a float is: the one that it was written for, as the kit's `parse` reads it.
use Rattle.std.specs.Prelude.{◌≡◌, ◌<◌, ℕ, ◌*◌, ◌%◌, Some}
use Rattle.std.specs.Float.Ieee.{Format, hid, of_bits, ones, top}
use Rattle.std.specs.Float.Parse.{parse_float}
use Rattle.float_text.specs.Layout.{number_text}

-- The text of each finite float reads back as it, sign and all: the number that the text says, rounded to the nearest float, ties to even.
abbrev pub TextsReadBack : Type 0
TextsReadBack =
    (f : Format) (bits : ℕ) → bits < 2 * top f → bits % top f < ones f * hid f → parse_float f (number_text f bits) ≡ Some (of_bits f bits)
