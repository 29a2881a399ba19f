-- Digits are ASCII, and stand for themselves in a string.
use Rattle.std.proofs.Common.{◌≡◌, ℕ, zero, suc, ◌+◌, ◌-◌, ◌%◌, ◌/◌, ◌<◌, ◌≤◌, ◌==◌, Bool, true, false, cond, List, [], ◌∷◌, ◌++◌, length, take, drop, replicate, decimal, lt-ltb, refl, ◌∙◌, arith}
use Rattle.std.specs.Char.{is_ascii_digit}
use Rattle.std.specs.Fmt.{digits, digits_onto, digit_glyph}
use Rattle.std.specs.Str.{IsAscii}
use Rattle.std.proofs.lemmas.Bool.{and_from, and_parts, le-leb, leb-true}
use Rattle.std.proofs.lemmas.Grind.{flat_map-append}
use Rattle.std.proofs.lemmas.Str.{IsAscii-append}
use Rattle.std.proofs.lemmas.Str.Ascii.{IsAscii-nil, IsAscii-cons}
use Rattle.json.specs.Print.{escape_byte, escape}
use Rattle.json.proofs.Printed.Strings.{escape_byte_plain}
use Rattle.binlog_documents.specs.Opaques.{padded}

abbrev pub AreDigits : List ℕ → Type 0
AreDigits [] = Unit {0}
AreDigits (d ∷ ds) = (is_ascii_digit d ≡ true) × AreDigits ds

pub both : (xs ys : List ℕ) → AreDigits xs → AreDigits ys → AreDigits (xs ++ ys)
both [] ys p q = q
both (x ∷ xs) ys p q = (p.0, both xs ys p.1 q)

pub front : (n : ℕ) (xs : List ℕ) → AreDigits xs → AreDigits (take n xs)
front zero xs p = tt
front (suc n) [] p = tt
front (suc n) (x ∷ xs) p = (p.0, front n xs p.1)

pub rest : (n : ℕ) (xs : List ℕ) → AreDigits xs → AreDigits (drop n xs)
rest zero xs p = p
rest (suc n) [] p = tt
rest (suc n) (x ∷ xs) p = rest n xs p.1

either : (b : Bool) (xs ys : List ℕ) → AreDigits xs → AreDigits ys → AreDigits (cond b xs ys)
either true xs ys p q = p
either false xs ys p q = q

zeros : (k : ℕ) → AreDigits (replicate k 48)
zeros zero = tt
zeros (suc k) = (refl, zeros k)

digit : (d : ℕ) → d < 10 → is_ascii_digit (digit_glyph false d) ≡ true
digit d small = rw (lt-ltb d 10 small) (and_from _ _ (le-leb 48 (48 + d) (omega arith)) (le-leb (48 + d) 57 (omega arith)))

onto : (k n : ℕ) (behind : List ℕ) → AreDigits behind → AreDigits (digits_onto k 10 false n behind)
onto zero n behind p = p
onto (suc k) n behind p =
    let first : AreDigits (digit_glyph false (n % 10) ∷ behind) = (digit (n % 10) (omega arith), p) in
    either (n / 10 == 0) (digit_glyph false (n % 10) ∷ behind) (digits_onto k 10 false (n / 10) (digit_glyph false (n % 10) ∷ behind)) first (onto k (n / 10) _ first)

pub decimal_digits : (n : ℕ) → AreDigits (decimal n)
unfolding digits
decimal_digits n = onto 64 n [] tt

pub padded_digits : (width n : ℕ) → AreDigits (padded width n)
padded_digits width n = both _ _ (zeros (width - length (decimal n))) (decimal_digits n)

-- ---- texts in which no byte is escaped

pub record IsPlainText (text : List ℕ) : Type 0 where
  pub escaped : escape text ≡ text
  pub ascii : IsAscii text

pub nothing : IsPlainText []
nothing = record { escaped = refl; ascii = IsAscii-nil }

pub byte : (x : ℕ) (behind : List ℕ) → x < 128 → escape_byte x ≡ x ∷ [] → IsPlainText behind → IsPlainText (x ∷ behind)
byte x behind small same p = record { escaped = (λ i. same i ++ p.escaped i); ascii = IsAscii-cons x behind small p.ascii }

pub join : (xs ys : List ℕ) → IsPlainText xs → IsPlainText ys → IsPlainText (xs ++ ys)
join xs ys p q = record { escaped = flat_map-append escape_byte xs ys ∙ (λ i. p.escaped i ++ q.escaped i); ascii = IsAscii-append xs ys p.ascii q.ascii }

pub digit_range : (d : ℕ) → is_ascii_digit d ≡ true → (48 ≤ d) × (d ≤ 57)
digit_range d e = let p = and_parts _ _ e in (leb-true 48 d p.0, leb-true d 57 p.1)

pub plain_digits : (ds : List ℕ) → AreDigits ds → IsPlainText ds
plain_digits [] p = nothing
plain_digits (d ∷ ds) p =
    let range = digit_range d p.0 in
    byte d ds (omega arith) (escape_byte_plain d (λ e. omega arith) (λ e. omega arith) (omega arith)) (plain_digits ds p.1)
