-- The numbers that plain bytes spell, from the stored ones.
use Rattle.std.proofs.Common.{◌≡◌, Fits, w8, ℕ, zero, suc, ◌+◌, ◌*◌, ◌-◌, ◌^◌, ◌<◌, ◌≤◌, ltb, true, false, List, [], ◌∷◌, length, length-drop, get_or, drop, map, refl, ap, ◌∙◌, arith}
use Rattle.std.proofs.lemmas.Bool.{lt-ltb, le-ltb}
use Rattle.std.proofs.lemmas.List.{drop-map, get_or-drop, get_or-map}
use Rattle.byteorder.specs.Endian.{big_from, big_number}
use Rattle.byteorder.specs.Numbers.{big_from-cons}
use Rattle.binlog_table.specs.Decimal.{plain, plain_byte}

-- complemented bytes spell what the number lacks of the greatest one
complemented : (i w : ℕ) (xs : List ℕ) → ((k : ℕ) → get_or xs k 0 < 256) → i + w ≤ length xs → big_from i w (map (plain_byte true) xs) + big_from i w xs + 1 ≡ 256 ^ w
complemented i zero xs fits room = omega arith
complemented i (suc w) xs fits room =
    let rest = complemented (suc i) w xs fits (omega arith) in
    let here : get_or (map (plain_byte true) xs) i 0 ≡ 255 - get_or xs i 0 = get_or-map (plain_byte true) xs i 0 0 (omega arith) in
    let whole : (get_or (map (plain_byte true) xs) i 0 + get_or xs i 0) * 256 ^ w ≡ 255 * 256 ^ w = ap (λ (n : ℕ). n * 256 ^ w) (let fit = fits i in omega arith) in
    omega (arith, rest, whole)

same_bytes : (xs : List ℕ) → map (plain_byte false) xs ≡ xs
same_bytes [] = refl
same_bytes (x ∷ xs) = ap (λ (ys : List ℕ). x ∷ ys) (same_bytes xs)

abbrev pub AreBytes : List ℕ → Type 0
AreBytes xs = (k : ℕ) → get_or xs k 0 < 256

pub bytes_fit : (xs : List ℕ) → ((k : ℕ) → Fits w8 (get_or xs k 0)) → AreBytes xs
bytes_fit xs h k = omega (arith, h k)

tail_fits : (b : ℕ) (bs : List ℕ) → AreBytes (b ∷ bs) → AreBytes bs
tail_fits b bs fits k = fits (suc k)

pub drop_fits : (n : ℕ) (xs : List ℕ) → AreBytes xs → AreBytes (drop n xs)
drop_fits n xs fits k = let here = fits (n + k) in let same : get_or (drop n xs) k 0 ≡ get_or xs (n + k) 0 = get_or-drop n xs k 0 in omega arith

-- a number below zero, behind the first byte
pub behind-negative : (text : List ℕ) (at w : ℕ) → AreBytes text → 1 ≤ at → at + w ≤ length text → get_or text 0 0 < 128 → big_number w (drop at (plain text)) + big_number w (drop at text) + 1 ≡ 256 ^ w
behind-negative [] at w fits some room negative = absurd (omega arith)
behind-negative (b ∷ bs) zero w fits some room negative = absurd (omega arith)
behind-negative (b ∷ bs) (suc at) w fits some room negative =
    let less : ltb b 128 ≡ true = lt-ltb b 128 negative in
    let moved : drop at (map (plain_byte true) bs) ≡ map (plain_byte true) (drop at bs) = drop-map (plain_byte true) at bs in
    let long : 0 + w ≤ length (drop at bs) = omega (arith, length-drop at bs) in
    rw (less, moved) (complemented 0 w (drop at bs) (drop_fits at bs (tail_fits b bs fits)) long)

-- another one
pub behind-positive : (text : List ℕ) (at w : ℕ) → 1 ≤ at → 128 ≤ get_or text 0 0 → big_number w (drop at (plain text)) ≡ big_number w (drop at text)
behind-positive [] at w some positive = absurd (omega arith)
behind-positive (b ∷ bs) zero w some positive = absurd (omega arith)
behind-positive (b ∷ bs) (suc at) w some positive =
    let more : ltb b 128 ≡ false = le-ltb b 128 positive in
    rw (more, same_bytes bs) refl

-- the same with the first byte, whose top bit is flipped
front-negative : (b : ℕ) (bs : List ℕ) (w : ℕ) → AreBytes (b ∷ bs) → w ≤ length bs → b < 128 → 2 * (big_number (suc w) (plain (b ∷ bs)) + big_number (suc w) (b ∷ bs) + 1) ≡ 256 ^ suc w
front-negative b bs w fits room negative =
    let less : ltb b 128 ≡ true = lt-ltb b 128 negative in
    let first : plain_byte (ltb b 128) b - 128 ≡ 127 - b = rw less (omega arith) in
    let others : big_from 1 w (plain (b ∷ bs)) ≡ big_from 0 w (map (plain_byte true) bs) = big_from-cons 0 w (plain_byte (ltb b 128) b - 128) (map (plain_byte (ltb b 128)) bs) ∙ ap (λ t. big_from 0 w (map (plain_byte t) bs)) less in
    let stored : big_from 1 w (b ∷ bs) ≡ big_from 0 w bs = big_from-cons 0 w b bs in
    let long : 0 + w ≤ length bs = omega arith in
    let rest = complemented 0 w bs (tail_fits b bs fits) long in
    let whole : (plain_byte (ltb b 128) b - 128 + b) * 256 ^ w ≡ 127 * 256 ^ w = ap (λ (n : ℕ). n * 256 ^ w) (omega arith) in
    omega (arith, others, stored, rest, whole)

front-positive : (b : ℕ) (bs : List ℕ) (w : ℕ) → 128 ≤ b → 2 * big_number (suc w) (plain (b ∷ bs)) + 256 ^ suc w ≡ 2 * big_number (suc w) (b ∷ bs)
front-positive b bs w positive =
    let more : ltb b 128 ≡ false = le-ltb b 128 positive in
    let first : plain_byte (ltb b 128) b - 128 ≡ b - 128 = rw more refl in
    let others : big_from 1 w (plain (b ∷ bs)) ≡ big_from 0 w bs = big_from-cons 0 w (plain_byte (ltb b 128) b - 128) (map (plain_byte (ltb b 128)) bs) ∙ ap (λ t. big_from 0 w (map (plain_byte t) bs)) more ∙ ap (big_from 0 w) (same_bytes bs) in
    let stored : big_from 1 w (b ∷ bs) ≡ big_from 0 w bs = big_from-cons 0 w b bs in
    let whole : (plain_byte (ltb b 128) b - 128 + 128) * 256 ^ w ≡ b * 256 ^ w = ap (λ (n : ℕ). n * 256 ^ w) (omega arith) in
    omega (arith, others, stored, whole)

pub first-negative : (text : List ℕ) (at w : ℕ) → AreBytes text → at ≡ 0 → 1 ≤ w → w ≤ length text → get_or text 0 0 < 128 → 2 * (big_number w (drop at (plain text)) + big_number w (drop at text) + 1) ≡ 256 ^ w
first-negative text (suc at) w fits zero_is some room negative = absurd (omega arith)
first-negative text zero zero fits zero_is some room negative = absurd (omega arith)
first-negative [] zero (suc w) fits zero_is some room negative = absurd (omega arith)
first-negative (b ∷ bs) zero (suc w) fits zero_is some room negative = front-negative b bs w fits (omega arith) negative

pub first-positive : (text : List ℕ) (at w : ℕ) → at ≡ 0 → 1 ≤ w → 128 ≤ get_or text 0 0 → 2 * big_number w (drop at (plain text)) + 256 ^ w ≡ 2 * big_number w (drop at text)
first-positive text (suc at) w zero_is some positive = absurd (omega arith)
first-positive text zero zero zero_is some positive = absurd (omega arith)
first-positive [] zero (suc w) zero_is some positive = absurd (omega arith)
first-positive (b ∷ bs) zero (suc w) zero_is some positive = front-positive b bs w positive
