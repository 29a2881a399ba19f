-- The set bits of a bitmap, counted a byte at a time.
use Rattle.std.proofs.Common.{◌≡◌, ℕ, zero, suc, ◌+◌, ◌*◌, ◌/◌, ◌%◌, ◌^◌, ◌<◌, ◌≤◌, Bool, true, false, cond, nat_eq, List, length, get_or, refl, ap, subst, ◌∙◌, ◌⊎◌, inl, inr, arith}
use Rattle.std.specs.Int.RustNames.{count_ones}
use Rattle.std.specs.Prelude.{slice_index}
use Rattle.std.proofs.lemmas.Bool.{cases_lt}
use Rattle.std.proofs.lemmas.List.{get_or_past}
use Rattle.std.proofs.lemmas.Nat.{mod-pow-add, ones_cat, ones-le, pow_pos, shr_le}
use Rattle.binlog_table.specs.Image.{bit, set_bits}

-- ---- the bits of a byte

-- 1 for a bit that is set
abbrev one : Bool → ℕ
one b = cond b 1 0

abbrev bit_of : ℕ → ℕ → Bool
bit_of byte j = nat_eq (byte / 2 ^ j % 2) 1

count_ones-bit : (n : ℕ) → n < 2 → count_ones n ≡ one (nat_eq n 1)
unfolding count_ones
count_ones-bit zero h = refl
count_ones-bit (suc zero) h = refl
count_ones-bit (suc (suc n)) h = absurd (omega arith)

count_ones-more : (byte j : ℕ) → count_ones (byte % 2 ^ (1 + j)) ≡ one (bit_of byte j) + count_ones (byte % 2 ^ j)
count_ones-more byte j =
    let low = byte % 2 ^ j in
    let high = byte / 2 ^ j % 2 in
    ap count_ones (mod-pow-add byte 1 j) ∙ ones_cat j high low (omega (arith, pow_pos j)) ∙ ap (λ (n : ℕ). n + count_ones low) (count_ones-bit high (omega arith))

bit-in_byte : (bytes : List ℕ) (i j : ℕ) → j < 8 → bit bytes (8 * i + j) ≡ bit_of (get_or bytes i 0) j
bit-in_byte bytes i j few =
    let here : (8 * i + j) / 8 ≡ i = omega arith in
    let place : (8 * i + j) % 8 ≡ j = omega arith in
    rw (here, place) refl

-- ---- the first bits of a bitmap

-- the first bits of a byte, behind the bytes before it
pub set_bits-front : (bytes : List ℕ) (i j : ℕ) → j ≤ 8 → set_bits bytes (8 * i + j) ≡ set_bits bytes (8 * i) + count_ones (get_or bytes i 0 % 2 ^ j)
set_bits-front bytes i zero few =
    let nothing : get_or bytes i 0 % 1 ≡ 0 = omega arith in
    let none : count_ones (get_or bytes i 0 % 1) ≡ 0 = ap count_ones nothing ∙ count_ones-bit 0 (omega arith) in
    let place : 8 * i + 0 ≡ 8 * i = omega arith in
    ap (set_bits bytes) place ∙ omega (arith, none)
set_bits-front bytes i (suc j) few =
    let byte = get_or bytes i 0 in
    let place : 8 * i + suc j ≡ suc (8 * i + j) = omega arith in
    let before : set_bits bytes (8 * i + j) ≡ set_bits bytes (8 * i) + count_ones (byte % 2 ^ j) = set_bits-front bytes i j (omega arith) in
    let here : one (bit bytes (8 * i + j)) ≡ one (bit_of byte j) = ap one (bit-in_byte bytes i j (omega arith)) in
    let next : set_bits bytes (suc (8 * i + j)) ≡ set_bits bytes (8 * i + j) + one (bit bytes (8 * i + j)) = refl in
    let width : suc j ≡ 1 + j = omega arith in
    let ones : count_ones (byte % 2 ^ suc j) ≡ one (bit_of byte j) + count_ones (byte % 2 ^ j) = ap (λ (m : ℕ). count_ones (byte % 2 ^ m)) width ∙ count_ones-more byte j in
    ap (set_bits bytes) place ∙ omega arith

-- a whole byte
pub set_bits-byte : (bytes : List ℕ) (i : ℕ) → get_or bytes i 0 < 256 → set_bits bytes (8 * (i + 1)) ≡ set_bits bytes (8 * i) + count_ones (get_or bytes i 0)
set_bits-byte bytes i fits =
    let place : 8 * (i + 1) ≡ 8 * i + 8 = omega arith in
    let whole : get_or bytes i 0 % 256 ≡ get_or bytes i 0 = omega arith in
    ap (set_bits bytes) place ∙ set_bits-front bytes i 8 (omega arith) ∙ ap (λ (n : ℕ). set_bits bytes (8 * i) + count_ones n) whole

pub count_ones-front : (byte j : ℕ) → count_ones (byte % 2 ^ j) ≤ j
count_ones-front byte j = ones-le j (byte % 2 ^ j) (omega (arith, pow_pos j))

bit-of_zero : (bytes : List ℕ) (i : ℕ) → get_or bytes (i / 8) 0 ≡ 0 → bit bytes i ≡ false
bit-of_zero bytes i zero_is = let none : 0 / 2 ^ (i % 8) % 2 ≡ 0 = omega (arith, shr_le 0 (i % 8)) in rw (zero_is, none) refl

-- behind the bitmap no bit is set
pub set_bits-behind : (bytes : List ℕ) (n m : ℕ) → 8 * length bytes ≤ n → set_bits bytes (n + m) ≡ set_bits bytes n
set_bits-behind bytes n zero behind = let place : n + 0 ≡ n = omega arith in ap (set_bits bytes) place
set_bits-behind bytes n (suc m) behind =
    let place : n + suc m ≡ suc (n + m) = omega arith in
    let none : one (bit bytes (n + m)) ≡ 0 = ap one (bit-of_zero bytes (n + m) (get_or_past bytes ((n + m) / 8) 0 (omega arith))) in
    let before : set_bits bytes (n + m) ≡ set_bits bytes n = set_bits-behind bytes n m behind in
    let next : set_bits bytes (suc (n + m)) ≡ set_bits bytes (n + m) + one (bit bytes (n + m)) = refl in
    ap (set_bits bytes) place ∙ omega arith

-- ---- all bits are set, or none is

one-le : (b : Bool) → one b ≤ 1
one-le true = omega arith
one-le false = omega arith

set_bits-le : (bytes : List ℕ) (n : ℕ) → set_bits bytes n ≤ n
set_bits-le bytes zero = omega arith
set_bits-le bytes (suc n) = let before = set_bits-le bytes n in omega (arith, one-le (bit bytes n))

-- what holds of the last place, and of those before it
to_last : (P : ℕ → Type 0) (n i : ℕ) → i < suc n → ((i < n) → P i) → P n → P i
to_last P n i within before last = by (cases_lt i n)
  where
    by : (i < n) ⊎ (n ≤ i) → P i
    by (inl less) = before less
    by (inr more) = let same : n ≡ i = omega arith in subst P same last

pub bit-all_set : (bytes : List ℕ) (n i : ℕ) → i < n → set_bits bytes n ≡ n → bit bytes i ≡ true
bit-all_set bytes zero i within all = absurd (omega arith)
bit-all_set bytes (suc n) i within all = by (bit bytes n) refl (λ less before. bit-all_set bytes n i less before)
  where
    by : (b : Bool) → bit bytes n ≡ b → (i < n → set_bits bytes n ≡ n → bit bytes i ≡ true) → bit bytes i ≡ true
    by true e before = let ones : set_bits bytes n + 1 ≡ suc n = rw e at all in to_last (λ (k : ℕ). bit bytes k ≡ true) n i within (λ less. before less (omega (arith, ones))) e
    by false e before = let ones : set_bits bytes n + 0 ≡ suc n = rw e at all in absurd (omega (arith, ones, set_bits-le bytes n))

-- a bitmap of zeros has no bit that is set
pub bit-zeros : (bytes : List ℕ) → ((k : ℕ) → k < length bytes → slice_index bytes k ≡ 0) → (i : ℕ) → bit bytes i ≡ false
bit-zeros bytes h i = bit-of_zero bytes i (by (cases_lt (i / 8) (length bytes)))
  where
    by : (i / 8 < length bytes) ⊎ (length bytes ≤ i / 8) → get_or bytes (i / 8) 0 ≡ 0
    by (inl less) = h (i / 8) less
    by (inr past) = get_or_past bytes (i / 8) 0 past
