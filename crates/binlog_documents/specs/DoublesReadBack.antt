-- Which number the text of a double is.
use Rattle.std.specs.Prelude.{◌≡◌, ◌<◌, ℕ, ◌^◌, true, Some}
use Rattle.std.specs.Float.{binary64}
use Rattle.std.specs.Float.Ieee.{of_bits}
use Rattle.std.specs.Float.Parse.{parse_float}
use Rattle.binlog_documents.specs.Scalars.{is_finite}
use Rattle.binlog_documents.specs.Texts.{double_text}

-- the one whose nearest double is the one that is stored, with its sign, as the kit's `parse` reads it
abbrev pub DoublesReadBack : Type 0
DoublesReadBack = (bits : ℕ) → bits < 2 ^ 64 → is_finite bits ≡ true → parse_float binary64 (double_text bits) ≡ Some (of_bits binary64 bits)
