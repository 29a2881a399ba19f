-- What the readers of a decimal's groups say: they go by the places of a text, where the definitions go by what is left of its plain bytes.
use Rattle.std.specs.Prelude.{ℕ, ◌+◌, ◌-◌, ◌++◌, List, drop, Option, option_map}
use Rattle.binlog_table.specs.declared.column.DecimalSize.{DecimalSize}
use Rattle.binlog_table.specs.Decimal.{plain, digits_of, group_len, both}

-- the plain bytes from a place on
abbrev pub plain_from : List ℕ → ℕ → List ℕ
plain_from text at = drop at (plain text)

-- what is left behind the place that was answered
abbrev pub left_behind : List ℕ → Option ℕ → Option (List ℕ)
left_behind text end = option_map (λ end. drop end (plain text)) end

-- a group's digits, by its number, and what is left behind it
abbrev pub read_group : ℕ → ℕ → List ℕ → Option ℕ → Option (List ℕ × List ℕ)
read_group len at text number = option_map (λ n. (digits_of len n, drop (at + group_len len) (plain text))) number

-- digits that were pushed, and what is left behind them
abbrev pub read_digits : List ℕ → List ℕ → Option ℕ → Option (List ℕ × List ℕ)
read_digits digits text end = option_map (λ end. both digits (drop end (plain text))) end

-- the digits in front of the point, by their number, and what is left behind them
abbrev pub read_front : ℕ → List ℕ → Option (ℕ × ℕ) → Option (List ℕ × List ℕ)
read_front digits text read = option_map (λ r. both (digits_of digits r.0) (drop r.1 (plain text))) read

-- all digits, by the numbers in front of the point and behind it
abbrev pub read_numbers : DecimalSize → Option (ℕ × ℕ) → Option (List ℕ)
read_numbers size read = option_map (λ n. digits_of (size.precision - size.scale) n.0 ++ digits_of size.scale n.1) read
