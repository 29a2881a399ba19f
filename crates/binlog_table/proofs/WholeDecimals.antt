-- A decimal from its digits.
use Rattle.std.proofs.Common.{◌≡◌, ℕ, true, false, List, [], Option, Some, None, is_some, option_map, refl}
use Rattle.std.specs.Prelude.{unwrap_or}
use Rattle.binlog_table.specs.Decimal.{Decimal, decimal_of, digits_at, plain, is_negative}

abbrev pub made : List ℕ → ℕ → Option (List ℕ) → Decimal
made text s read = record { negative = is_negative text; digits = unwrap_or read []; scale = s }

abbrev from_digits : List ℕ → ℕ → List ℕ → Decimal
from_digits text s ds = record { negative = is_negative text; digits = ds; scale = s }

pub decimal-some : (p s : ℕ) (text : List ℕ) → true ≡ is_some (digits_at p s (plain text)) → Some (made text s (digits_at p s (plain text))) ≡ decimal_of p s text
unfolding decimal_of
decimal-some p s text some = by_read (digits_at p s (plain text)) some
  where
    by_read : (read : Option (List ℕ)) → true ≡ is_some read → Some (made text s read) ≡ option_map (from_digits text s) read
    by_read None h = absurd cc
    by_read (Some ds) h = refl

pub decimal-none : (p s : ℕ) (text : List ℕ) → false ≡ is_some (digits_at p s (plain text)) → None ≡ decimal_of p s text
unfolding decimal_of
decimal-none p s text none = by_read (digits_at p s (plain text)) none
  where
    by_read : (read : Option (List ℕ)) → false ≡ is_some read → None ≡ option_map (from_digits text s) read
    by_read None h = refl
    by_read (Some ds) h = absurd cc
