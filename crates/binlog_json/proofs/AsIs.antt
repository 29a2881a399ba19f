-- Texts of digits and signs, which need no escape.
use Rattle.std.proofs.Common.{◌≡◌, ◌∙◌, ℕ, zero, suc, ◌+◌, ◌-◌, ◌*◌, ◌<◌, ◌≤◌, ◌==◌, List, [], ◌∷◌, ◌++◌, Bool, true, false, if◌then◌else◌, nat_lt, ltb-true, ltb-false, take, decimal, refl, ap, ap₂, arith}
use Rattle.std.specs.List.{All}
use Rattle.std.proofs.lemmas.Bool.{cond_both}
use Rattle.std.proofs.lemmas.Grind.{flat_map-append}
use Rattle.std.proofs.lemmas.List.Elements.{All-drop, All-take}
use Rattle.json.specs.Print.{escape, escape_byte, quoted}
use Rattle.json.proofs.Printed.Strings.{escape_byte_plain}
use Rattle.binlog_table.specs.declared.cell.Date.{Date}
use Rattle.binlog_table.specs.declared.cell.DateTime.{DateTime}
use Rattle.binlog_table.specs.declared.cell.Time.{Time}
use Rattle.binlog_table.specs.declared.cell.Timestamp.{Timestamp}
use Rattle.binlog_documents.proofs.Digits.{decimal_digits, padded_digits, plain_digits}
use Rattle.binlog_table.proofs.DecimalDigitLists.{digits_of-small}
use Rattle.binlog_table.specs.Decimal.{Decimal}
use Rattle.binlog_table.specs.DecimalParts.{front_len}
use Rattle.binlog_table.specs.Extent.{fraction_len}
use Rattle.uuid.specs.Text.{by_index, digit_place, hex_digit, hyphen, hyphenated_text, is_hyphen_place, lower, nibble}
use Rattle.binlog_json.specs.Line.{gtid_text}
use Rattle.binlog_json.specs.Texts.{padded, digits_text, whole_text, point_text, sign_text, is_below_zero, decimal_text, fraction_text, day_text, clock_text, date_text, date_time_text, time_text, timestamp_text}

-- a text stands in a string as it is
abbrev pub AsIs : List ℕ → Type 0
AsIs text = escape text ≡ text

byte : (x : ℕ) (rest : List ℕ) → 35 ≤ x → x ≤ 91 → AsIs rest → AsIs (x ∷ rest)
byte x rest above below is =
    ap₂ (λ (front back : List ℕ). front ++ back) (escape_byte_plain x (λ e. omega (arith, e)) (λ e. omega (arith, e)) (omega arith)) is

both : (a b : List ℕ) → AsIs a → AsIs b → AsIs (a ++ b)
both a b p q = flat_map-append escape_byte a b ∙ ap₂ (λ (front back : List ℕ). front ++ back) p q

number : (n : ℕ) → AsIs (decimal n)
number n = (plain_digits (decimal n) (decimal_digits n)).escaped

padded_number : (width n : ℕ) → AsIs (padded width n)
padded_number width n = (plain_digits (padded width n) (padded_digits width n)).escaped

shown : (ds : List ℕ) → All (λ d. d < 10) ds → AsIs (digits_text ds)
shown [] small = refl
shown (d ∷ ds) small =
    let first : d < 10 = small 0 0 (omega arith) in
    byte (48 + d) (digits_text ds) (omega arith) (omega (arith, first)) (shown ds (λ k e l. small (suc k) e (omega (arith, l))))

whole : (ds : List ℕ) → All (λ d. d < 10) ds → AsIs (whole_text ds)
whole [] small = byte 48 [] (omega arith) (omega arith) refl
whole (d ∷ ds) small =
    cond_both (d == 0) (whole_text ds) (digits_text (d ∷ ds)) AsIs (λ e. whole ds (λ k e l. small (suc k) e (omega (arith, l)))) (λ e. shown (d ∷ ds) small)

point : (ds : List ℕ) → All (λ d. d < 10) ds → AsIs (point_text ds)
point [] small = refl
point (d ∷ ds) small = byte 46 (digits_text (d ∷ ds)) (omega arith) (omega arith) (shown (d ∷ ds) small)

sign : (b : Bool) → AsIs (sign_text b)
sign true = byte 45 [] (omega arith) (omega arith) refl
sign false = refl

fraction : (precision n : ℕ) → AsIs (fraction_text precision n)
fraction precision n = point _ (All-take (λ d. d < 10) precision _ (digits_of-small (2 * fraction_len precision) n))

date : (y m d : ℕ) → AsIs (day_text y m d)
date y m d =
    both (padded 4 y) _ (padded_number 4 y) (byte 45 _ (omega arith) (omega arith) (both (padded 2 m) _ (padded_number 2 m) (byte 45 _ (omega arith) (omega arith) (padded_number 2 d))))

clock : (hour minute second : ℕ) → AsIs (clock_text hour minute second)
clock hour minute second =
    both (padded 2 hour) _ (padded_number 2 hour) (byte 58 _ (omega arith) (omega arith) (both (padded 2 minute) _ (padded_number 2 minute) (byte 58 _ (omega arith) (omega arith) (padded_number 2 second))))

blank : (rest : List ℕ) → AsIs rest → AsIs (32 ∷ rest)
blank rest is = ap₂ (λ (front back : List ℕ). front ++ back) (escape_byte_plain 32 (λ e. omega (arith, e)) (λ e. omega (arith, e)) (omega arith)) is

-- a string of such a text
pub quoted_as_is : (text : List ℕ) → AsIs text → quoted text ≡ 34 ∷ (text ++ 34 ∷ [])
quoted_as_is text is = ap (λ (t : List ℕ). 34 ∷ (t ++ 34 ∷ [])) is

pub quoted_number : (width n : ℕ) → quoted (padded width n) ≡ 34 ∷ (padded width n ++ 34 ∷ [])
quoted_number width n = quoted_as_is _ (padded_number width n)

pub quoted_decimal : (d : Decimal) → All (λ x. x < 10) d.digits → quoted (decimal_text d) ≡ 34 ∷ (decimal_text d ++ 34 ∷ [])
quoted_decimal d small =
    quoted_as_is _ (both (sign_text (is_below_zero d)) _ (sign (is_below_zero d)) (both (whole_text (take (front_len d) d.digits)) _ (whole _ (All-take (λ x. x < 10) (front_len d) d.digits small)) (point _ (All-drop (λ x. x < 10) (front_len d) d.digits small))))

pub quoted_date : (d : Date) → quoted (date_text d) ≡ 34 ∷ (date_text d ++ 34 ∷ [])
quoted_date d = quoted_as_is _ (date d.year d.month d.day)

pub quoted_date_time : (t : DateTime) → quoted (date_time_text t) ≡ 34 ∷ (date_time_text t ++ 34 ∷ [])
quoted_date_time t =
    quoted_as_is _ (both (day_text t.year t.month t.day) _ (date t.year t.month t.day) (blank _ (both (clock_text t.hour t.minute t.second) _ (clock t.hour t.minute t.second) (fraction t.precision t.fraction))))

pub quoted_time : (t : Time) → quoted (time_text t) ≡ 34 ∷ (time_text t ++ 34 ∷ [])
quoted_time t =
    quoted_as_is _ (both (sign_text t.negative) _ (sign t.negative) (both (clock_text t.hour t.minute t.second) _ (clock t.hour t.minute t.second) (fraction t.precision t.fraction)))

pub quoted_timestamp : (t : Timestamp) → quoted (timestamp_text t) ≡ 34 ∷ (timestamp_text t ++ 34 ∷ [])
quoted_timestamp t = quoted_as_is _ (both (decimal t.seconds) _ (number t.seconds) (fraction t.precision t.fraction))

-- what stands as it is in front of a text
pub escape_behind : (front back : List ℕ) → AsIs front → escape (front ++ back) ≡ front ++ escape back
escape_behind front back is = flat_map-append escape_byte front back ∙ ap (λ (text : List ℕ). text ++ escape back) is

pub escape_at_sign : (text : List ℕ) → escape (64 ∷ text) ≡ 64 ∷ escape text
escape_at_sign text = ap (λ (sign : List ℕ). sign ++ escape text) (escape_byte_plain 64 (λ e. omega (arith, e)) (λ e. omega (arith, e)) (omega arith))

-- ---- the text of a GTID

plain_letter : (x : ℕ) → 97 ≤ x → AsIs (x ∷ [])
plain_letter x above = ap (λ (front : List ℕ). front ++ []) (escape_byte_plain x (λ e. omega (arith, e)) (λ e. omega (arith, e)) (omega arith))

hex_at : (b : Bool) (d : ℕ) → nat_lt d 10 ≡ b → AsIs ((if b then 48 + d else lower + d - 10) ∷ [])
hex_at true d test = let few : d < 10 = ltb-true d 10 test in byte (48 + d) [] (omega arith) (omega (arith, few)) refl
hex_at false d test = let more : 10 ≤ d = ltb-false d 10 test in plain_letter (97 + d - 10) (omega (arith, more))

source_at : (b : Bool) (d : ℕ) → AsIs ((if b then hyphen else hex_digit lower d) ∷ [])
source_at true d = byte 45 [] (omega arith) (omega arith) refl
source_at false d = hex_at (nat_lt d 10) d refl

each_as_is : (n : ℕ) (f : ℕ → ℕ) → ((k : ℕ) → AsIs (f k ∷ [])) → AsIs (by_index n f)
unfolding by_index
each_as_is zero f each = refl
each_as_is (suc n) f each = both (by_index n f) (f n ∷ []) (each_as_is n f each) (each n)

source : (xs : List ℕ) → AsIs (hyphenated_text lower xs)
source xs = each_as_is 36 _ (λ k. source_at (is_hyphen_place k) (nibble xs (digit_place k)))

pub quoted_gtid : (gtid : List ℕ × ℕ) → quoted (gtid_text gtid) ≡ 34 ∷ (gtid_text gtid ++ 34 ∷ [])
quoted_gtid gtid = quoted_as_is _ (both (hyphenated_text lower gtid.0) _ (source gtid.0) (byte 58 _ (omega arith) (omega arith) (number gtid.1)))

pub place_as_is : (position count : ℕ) → AsIs (decimal position ++ 46 ∷ decimal count)
place_as_is position count = both (decimal position) (46 ∷ decimal count) (number position) (byte 46 (decimal count) (omega arith) (omega arith) (number count))
