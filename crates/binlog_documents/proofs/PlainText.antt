-- From a vector's mask to text that stands in a string as it is.
use Rattle.std.proofs.Common.{◌≡◌, ℕ, zero, suc, ◌+◌, ◌*◌, ◌%◌, ◌^◌, ◌<◌, ◌≤◌, Bool, true, false, not, cond, ◌==◌, ◌||◌, nat_lt, nat_le, List, [], ◌∷◌, length, drop, get_or, map, replicate, bit_or, refl, sym, ap, ap₂, ◌∙◌, subst, inl, inr, zero-add, arith, get_or-take, get_or-drop}
use Rattle.std.proofs.lemmas.Bool.{or_parts, not-true, eqb-true, eq-eqb, leb-false, leb-true, le-leb, cases_eq, cases_lt}
use Rattle.std.proofs.lemmas.List.{length-map}
use Rattle.std.proofs.lemmas.List.Sums.{prefix_len_passes}
use Rattle.std.proofs.lemmas.Simd.{length-chunk, none_from_empty_mask, leading_from_mask_l, trailing_mask_l, zip2_splat, zip2_splat_left, mask_l-mod}
use Rattle.std.proofs.lemmas.Str.{IsUtf8-from_ascii, is_utf8-from_IsUtf8}
use Rattle.std.specs.Prelude.{◌↔◌, IsTrue}
use Rattle.std.specs.List.{prefix_len}
use Rattle.std.specs.Str.{IsUtf8, is_utf8}
use lib.Count.{count_trailing_zeros, trailing_of_zero}
use lib.Lanes.{chunk, mask_l, zip2, top}
use Rattle.json.specs.Print.{escape}
use Rattle.json.proofs.Printed.Plain.{escape_on_plain}
use Rattle.binlog_documents.specs.PlainText.{needs_care, PlainBetween, IsPlainBelow, IsPlain}

from_mask : (limit : ℕ) (text : List ℕ) (at n : ℕ) → at + n ≤ length text → mask_l (map (needs_care limit) (chunk at n text)) ≡ 0 → PlainBetween limit text at (at + n)
from_mask limit text at n room none k p q = ap not (none_from_empty_mask (needs_care limit) text at n 0 room none k p q)

-- a lane of a test that is true, or not
abbrev lane : Bool → ℕ
lane b = cond b 255 0

either : (a b : Bool) → bit_or (lane a) (lane b) ≡ lane (a || b)
either true true = refl
either true false = refl
either false true = refl
either false false = refl

top_of : (b : Bool) → top 7 (lane b) ≡ b
top_of true = refl
top_of false = refl

lanes_or : (p q : ℕ → Bool) (v : List ℕ) → zip2 bit_or (map (λ x. lane (p x)) v) (map (λ x. lane (q x)) v) ≡ map (λ x. lane (p x || q x)) v
lanes_or p q [] = refl
lanes_or p q (x ∷ v) = ap₂ (λ y ys. y ∷ ys) (either (p x) (q x)) (lanes_or p q v)

-- two tests of a vector, of which each has its own lanes
both : (p q : ℕ → Bool) (v : List ℕ) {a b : List ℕ} → a ≡ map (λ x. lane (p x)) v → b ≡ map (λ x. lane (q x)) v → zip2 bit_or a b ≡ map (λ x. lane (p x || q x)) v
both p q v e f = ap₂ (zip2 bit_or) e f ∙ lanes_or p q v

tops : (p : ℕ → Bool) (v : List ℕ) → map (top 7) (map (λ x. lane (p x)) v) ≡ map p v
tops p [] = refl
tops p (x ∷ v) = ap₂ (λ y ys. y ∷ ys) (top_of (p x)) (tops p v)

-- the mask of the four tests of a vector of n lanes, as the code makes them
abbrev pub care_mask : ℕ → List ℕ → ℕ → ℕ → ℕ
care_mask limit text at n =
    mask_l (map (top 7) (zip2 bit_or (zip2 bit_or (zip2 bit_or (zip2 (λ a b. lane (a == b)) (chunk at n text) (replicate n 34)) (zip2 (λ a b. lane (a == b)) (chunk at n text) (replicate n 92)))
    (zip2 (λ a b. lane (nat_lt a b)) (chunk at n text) (replicate n 32))) (zip2 (λ a b. lane (nat_le a b)) (replicate n limit) (chunk at n text)))) % 2 ^ 64

mask_is : (limit : ℕ) (text : List ℕ) (at n : ℕ) → at + n ≤ length text → n ≤ 64 → care_mask limit text at n ≡ mask_l (map (needs_care limit) (chunk at n text))
mask_is limit text at n room few =
    let v = chunk at n text in
    let long = length-chunk at n text room in
    let quote = zip2_splat (λ a b. lane (a == b)) v n 34 long in
    let backslash = zip2_splat (λ a b. lane (a == b)) v n 92 long in
    let control = zip2_splat (λ a b. lane (nat_lt a b)) v n 32 long in
    let wide = zip2_splat_left (λ a b. lane (nat_le a b)) limit n v long in
    let stops = both (λ x. (x == 34) || (x == 92)) (λ x. nat_lt x 32) v (both (λ x. x == 34) (λ x. x == 92) v quote backslash) control in
    let lanes = both (λ x. ((x == 34) || (x == 92)) || nat_lt x 32) (λ x. nat_le limit x) v stops wide in
    ap (λ l. mask_l (map (top 7) l) % 2 ^ 64) lanes ∙ ap (λ l. mask_l l % 2 ^ 64) (tops (needs_care limit) v) ∙ mask_l-mod (map (needs_care limit) v) 64 (omega (arith, length-map v (needs_care limit)))

-- lanes of which none passes a test have no bit set
no_bit : (p : ℕ → Bool) (v : List ℕ) → ((k : ℕ) → k < length v → not (p (get_or v k 0)) ≡ true) → mask_l (map p v) ≡ 0
no_bit p [] h = refl
no_bit p (x ∷ v) h = ap₂ (λ b m. cond b 1 zero + 2 * m) (not-true (p x) (h zero (omega arith))) (no_bit p v (λ k q. h (suc k) (omega arith)))

to_mask : (limit : ℕ) (text : List ℕ) (at n : ℕ) → at + n ≤ length text → PlainBetween limit text at (at + n) → mask_l (map (needs_care limit) (chunk at n text)) ≡ 0
to_mask limit text at n room h = no_bit (needs_care limit) (chunk at n text) (λ k q.
    let small : k < n = omega (arith, q, length-chunk at n text room) in
    ap (λ x. not (needs_care limit x)) (get_or-take n (drop at text) k 0 small ∙ get_or-drop at text k 0) ∙ h (at + k) (omega arith) (omega arith))

pub from_lanes : (limit : ℕ) (text : List ℕ) (at n : ℕ) → at + n ≤ length text → n ≤ 64 → IsTrue (care_mask limit text at n == 0) ↔ PlainBetween limit text at (at + n)
from_lanes limit text at n room few =
    let is = mask_is limit text at n room few in
    (λ e. from_mask limit text at n room (sym is ∙ eqb-true _ 0 e), λ h. eq-eqb _ 0 (is ∙ to_mask limit text at n room h))

-- as many lanes as come before the lowest set bit
enough : (limit : ℕ) (v : List ℕ) (count : ℕ) → length v ≡ 16 → count ≤ 16 → count ≤ count_trailing_zeros 64 (mask_l (map (needs_care limit) v)) → count ≤ prefix_len (λ x. not (needs_care limit x)) v
enough limit v count long few below =
    elim (cases_eq (mask_l (map (needs_care limit) v)) 0) [
      | inl none ↦ omega (arith, leading_from_mask_l (needs_care limit) v none)
      | inr some ↦ omega (arith, trailing_mask_l (needs_care limit) 64 v (omega arith) (omega arith))
    ]

plain_first : (limit : ℕ) (text : List ℕ) (count : ℕ) → 16 ≤ length text → count ≤ 16 → nat_le count (count_trailing_zeros 64 (care_mask limit text 0 16)) ≡ true → PlainBetween limit text 0 count
plain_first limit text count room few e k p q =
    let below : count ≤ count_trailing_zeros 64 (mask_l (map (needs_care limit) (chunk 0 16 text))) =
    subst (λ (m : ℕ). count ≤ count_trailing_zeros 64 m) (mask_is limit text 0 16 room (omega arith)) (leb-true count _ e) in
    let front : k < prefix_len (λ x. not (needs_care limit x)) (chunk 0 16 text) = omega (arith, q, enough limit (chunk 0 16 text) count (length-chunk 0 16 text room) few below) in
    let place : get_or (chunk 0 16 text) k 0 ≡ get_or text k 0 = get_or-take 16 (drop 0 text) k 0 (omega arith) ∙ get_or-drop 0 text k 0 ∙ ap (λ j. get_or text j 0) (zero-add k) in
    ap (λ x. not (needs_care limit x)) (sym place) ∙ prefix_len_passes (λ x. not (needs_care limit x)) (chunk 0 16 text) k 0 front

-- the plain front of bytes reaches as far as each of them is plain
plain_run : (limit : ℕ) (v : List ℕ) (count : ℕ) → count ≤ length v → ((k : ℕ) → k < count → not (needs_care limit (get_or v k 0)) ≡ true) → count ≤ prefix_len (λ x. not (needs_care limit x)) v
plain_run limit [] count le h = omega arith
plain_run limit (x ∷ v) zero le h = omega arith
plain_run limit (x ∷ v) (suc count) le h =
    let rest = plain_run limit v count (omega arith) (λ k q. h (suc k) (omega arith)) in
    let more : suc count ≤ 1 + prefix_len (λ y. not (needs_care limit y)) v = omega (arith, rest) in
    subst (λ (b : Bool). suc count ≤ cond b (1 + prefix_len (λ y. not (needs_care limit y)) v) 0) (sym (h zero (omega arith))) more

before_bit : (limit : ℕ) (v : List ℕ) (count : ℕ) → length v ≡ 16 → count ≤ 16 → count ≤ prefix_len (λ x. not (needs_care limit x)) v → count ≤ count_trailing_zeros 64 (mask_l (map (needs_care limit) v))
before_bit limit v count long few front =
    elim (cases_eq (mask_l (map (needs_care limit) v)) 0) [
      | inl none ↦ omega (arith, few, ap (count_trailing_zeros 64) none ∙ trailing_of_zero 64)
      | inr some ↦ omega (arith, front, trailing_mask_l (needs_care limit) 64 v (omega arith) (omega arith))
    ]

first_plain : (limit : ℕ) (text : List ℕ) (count : ℕ) → 16 ≤ length text → count ≤ 16 → PlainBetween limit text 0 count → count ≤ count_trailing_zeros 64 (care_mask limit text 0 16)
first_plain limit text count room few h =
    let long = length-chunk 0 16 text room in
    let front = plain_run limit (chunk 0 16 text) count (omega (arith, few, long)) (λ k q.
    ap (λ x. not (needs_care limit x)) (get_or-take 16 (drop 0 text) k 0 (omega arith) ∙ get_or-drop 0 text k 0 ∙ ap (λ j. get_or text j 0) (zero-add k)) ∙ h k (omega arith) q) in
    subst (λ (m : ℕ). count ≤ count_trailing_zeros 64 m) (sym (mask_is limit text 0 16 room (omega arith))) (before_bit limit (chunk 0 16 text) count long few front)

pub from_first : (limit : ℕ) (text : List ℕ) (count : ℕ) → 16 ≤ length text → count ≤ 16 → IsTrue (nat_le count (count_trailing_zeros 64 (care_mask limit text 0 16))) ↔ PlainBetween limit text 0 count
from_first limit text count room few = (λ e. plain_first limit text count room few e, λ h. le-leb count _ (first_plain limit text count room few h))

-- ---- a text by its parts

-- a part that isn't plain
pub care_within : (limit : ℕ) (text : List ℕ) (i j : ℕ) → j ≤ length text → IsTrue false ↔ PlainBetween limit text i j → IsTrue false ↔ IsPlainBelow limit text
care_within limit text i j within p = (λ e. absurd cc, λ h. p.1 (λ k from to. h k (omega arith) (omega arith)))

-- a byte that isn't
pub care_at : (limit : ℕ) (text : List ℕ) (k : ℕ) → k < length text → needs_care limit (get_or text k 0) ≡ true → IsTrue false ↔ IsPlainBelow limit text
care_at limit text k within care = (λ e. absurd cc, λ h. sym (ap not care) ∙ h k (omega arith) within)

-- the last bytes, behind others that are plain and reach them
pub last_part : (limit : ℕ) (text : List ℕ) (at start n : ℕ) (last : Bool) → PlainBetween limit text 0 at → start ≤ at → start + n ≡ length text → IsTrue last ↔ PlainBetween limit text start (start + n)
    → IsTrue last ↔ IsPlainBelow limit text
last_part limit text at start n last before reached end p =
    (λ e k from to. elim (cases_lt k at) [ inl low ↦ before k from low | inr high ↦ p.0 e k (omega arith) (omega arith) ], λ h. p.1 (λ k from to. h k (omega arith) (omega arith)))

-- plain text needs no escape
pub plain_escape : (limit : ℕ) (text : List ℕ) → IsPlainBelow limit text → escape text ≡ text
plain_escape limit text h = escape_on_plain true text (λ k p q. ap not (or_parts _ (nat_le limit (get_or text k 0)) (not-true (needs_care limit (get_or text k 0)) (h k p q))).0)

ascii_byte : (x : ℕ) → not (needs_care 128 x) ≡ true → x < 128
ascii_byte x h = leb-false 128 x (or_parts (((x == 34) || (x == 92)) || nat_lt x 32) (nat_le 128 x) (not-true (needs_care 128 x) h)).1

plain_ascii : (text : List ℕ) → IsPlain text → (k : ℕ) → get_or text k 0 < 128
plain_ascii [] h k = omega arith
plain_ascii (x ∷ text) h zero = ascii_byte x (h zero (omega arith) (omega arith))
plain_ascii (x ∷ text) h (suc k) = plain_ascii text (λ j p q. h (suc j) (omega arith) (omega arith)) k

-- plain text is UTF-8
pub plain_text : (text : List ℕ) → IsPlain text → IsUtf8 text
plain_text text h = IsUtf8-from_ascii text (plain_ascii text h)

pub plain_utf8 : (text : List ℕ) → IsPlain text → is_utf8 text ≡ true
plain_utf8 text h = is_utf8-from_IsUtf8 text (plain_text text h)
