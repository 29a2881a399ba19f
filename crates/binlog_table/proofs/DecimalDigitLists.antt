-- The digits of decimals, one group after another.
use Rattle.std.proofs.Common.{◌≡◌, ℕ, zero, suc, ◌+◌, ◌-◌, ◌*◌, ◌/◌, ◌%◌, ◌^◌, ◌<◌, ◌≤◌, true, leb, ltb, List, [], ◌∷◌, ◌++◌, length, take, drop, set, Option, Some, None, is_some, refl, sym, ap, ◌∙◌, append_assoc, append-nil, arith}
use Rattle.std.specs.Prelude.{unwrap_or}
use Rattle.std.specs.List.{All}
use Rattle.std.proofs.Math.Seq.{take-add}
use Rattle.std.proofs.lemmas.List.{length-append, drop-set}
use Rattle.std.proofs.lemmas.List.Elements.{All-cons}
use Rattle.std.proofs.lemmas.Option.{same_Some}
use native.Mathlib.Nat.{div-div-eq-div-mul, pow-suc}
use Rattle.byteorder.specs.Endian.{big_number}
use Rattle.binlog_table.specs.Decimal.{◌and_then◌, digits_of, group_len, group_at, nines_at, digits_at, appended}
use Rattle.binlog_table.proofs.Options.{and_then_assoc, and_then_ok, guarded, map-then}

-- ---- how many digits

pub digits_of-length : (d n : ℕ) → length (digits_of d n) ≡ d
digits_of-length zero n = refl
digits_of-length (suc d) n = ap suc (digits_of-length d n)

group_at-length : (d : ℕ) (bytes : List ℕ) (g : List ℕ × List ℕ) → group_at d bytes ≡ Some g → length g.0 ≡ d
unfolding group_at
group_at-length d bytes g e =
    let n = big_number (group_len d) bytes in
    let a = guarded (leb (group_len d) (length bytes)) _ g e in
    let b = guarded (ltb n (10 ^ d)) _ g a.1 in
    ap (λ (x : List ℕ × List ℕ). length x.0) (sym (same_Some (digits_of d n, drop (group_len d) bytes) g b.1)) ∙ digits_of-length d n

nines_at-length : (n : ℕ) (bytes : List ℕ) (g : List ℕ × List ℕ) → nines_at n bytes ≡ Some g → length g.0 ≡ 9 * n
unfolding nines_at
nines_at-length zero bytes g e = ap (λ (x : List ℕ × List ℕ). length x.0) (sym (same_Some ([], bytes) g e))
nines_at-length (suc n) bytes g e =
    let a = and_then_ok (group_at 9 bytes) _ g e in
    let b = and_then_ok (nines_at n a.0.1) _ g a.2 in
    let one = group_at-length 9 bytes a.0 a.1 in
    let others = nines_at-length n a.0.1 b.0 b.1 in
    ap (λ (x : List ℕ × List ℕ). length x.0) (sym (same_Some (a.0.0 ++ b.0.0, b.0.1) g b.2)) ∙ omega (arith, length-append a.0.0 b.0.0, one, others)

pub digits_at-length : (p s : ℕ) (bytes ds : List ℕ) → s ≤ p → digits_at p s bytes ≡ Some ds → length ds ≡ p
unfolding digits_at
digits_at-length p s bytes ds le e =
    let a = and_then_ok (group_at ((p - s) % 9) bytes) _ ds e in
    let b = and_then_ok (nines_at ((p - s) / 9) a.0.1) _ ds a.2 in
    let c = and_then_ok (nines_at (s / 9) b.0.1) _ ds b.2 in
    let d = and_then_ok (group_at (s % 9) c.0.1) _ ds c.2 in
    let all = same_Some (a.0.0 ++ b.0.0 ++ c.0.0 ++ d.0.0) ds d.2 in
    omega (
      arith,
      ap length all,
      length-append (a.0.0 ++ b.0.0 ++ c.0.0) d.0.0,
      length-append (a.0.0 ++ b.0.0) c.0.0,
      length-append a.0.0 b.0.0,
      group_at-length ((p - s) % 9) bytes a.0 a.1,
      nines_at-length ((p - s) / 9) a.0.1 b.0 b.1,
      nines_at-length (s / 9) b.0.1 c.0 c.1,
      group_at-length (s % 9) c.0.1 d.0 d.1,
    )

pub shown-length : (p s : ℕ) (bytes : List ℕ) → s ≤ p → is_some (digits_at p s bytes) ≡ true → length (unwrap_or (digits_at p s bytes) []) ≡ p
shown-length p s bytes le some = by_read (digits_at p s bytes) (λ ds e. digits_at-length p s bytes ds le e) some
  where
    by_read : (o : Option (List ℕ)) → ((ds : List ℕ) → o ≡ Some ds → length ds ≡ p) → is_some o ≡ true → length (unwrap_or o []) ≡ p
    by_read None h some = absurd cc
    by_read (Some ds) h some = h ds refl

-- ---- one digit more, in front of those that are written

module _ (digits : List ℕ) (start place len number left : ℕ) (some : 0 < place) (few : place ≤ len) (room : start + len ≤ length digits) (left_is : left ≡ number / 10 ^ (len - place)) where
  pub left-next : left / 10 ≡ number / 10 ^ (len - (place - 1))
  left-next =
      let count : suc (len - place) ≡ len - (place - 1) = omega arith in
      ap (λ (n : ℕ). n / 10) left_is ∙ div-div-eq-div-mul number (10 ^ (len - place)) 10 ∙ ap (λ (n : ℕ). number / n) (sym (pow-suc 10 (len - place))) ∙ ap (λ (e : ℕ). number / 10 ^ e) count

  pub digit-before : take (len - place) (drop (start + place) digits) ≡ digits_of (len - place) number
      → take (len - (place - 1)) (drop (start + (place - 1)) (set digits (start + (place - 1)) (left % 10))) ≡ digits_of (len - (place - 1)) number
  digit-before written =
      let i = start + (place - 1) in
      let count : len - (place - 1) ≡ suc (len - place) = omega arith in
      let next : i + 1 ≡ start + place = omega arith in
      let here : drop i (set digits i (left % 10)) ≡ left % 10 ∷ drop (start + place) digits = drop-set digits i (left % 10) (omega arith) ∙ ap (λ (j : ℕ). left % 10 ∷ drop j digits) next in
      let first : left % 10 ≡ number / 10 ^ (len - place) % 10 = ap (λ (n : ℕ). n % 10) left_is in
      rw (count, here) (ap (λ (ds : List ℕ). left % 10 ∷ ds) written ∙ ap (λ (d : ℕ). d ∷ digits_of (len - place) number) first)

pub digits-written : (digits old : List ℕ) (start place len number : ℕ) → place ≤ 0 → take start digits ≡ take start old → take (len - place) (drop (start + place) digits) ≡ digits_of (len - place) number
    → take (start + len) digits ≡ take start old ++ digits_of len number
digits-written digits old start place len number none before written =
    let count : len - place ≡ len = omega arith in
    let first : start + place ≡ start = omega arith in
    let all : take len (drop start digits) ≡ digits_of len number = rw (count, first) at written in
    take-add start len digits ∙ ap (λ (ds : List ℕ). ds ++ take len (drop start digits)) before ∙ ap (λ (ds : List ℕ). take start old ++ ds) all

pub digits_of-small : (d n : ℕ) → All (λ x. x < 10) (digits_of d n)
digits_of-small zero n = λ k e lt. absurd (omega arith)
digits_of-small (suc d) n = All-cons (λ x. x < 10) (n / 10 ^ d % 10) (digits_of d n) (omega arith) (digits_of-small d n)

-- ---- one group more

abbrev pub Digits : Type 0
Digits = List ℕ × List ℕ

-- what is read behind the digits in front
abbrev pub group_behind : Digits → Option Digits
group_behind s = appended s.0 (group_at 9 s.1)

abbrev pub nines_behind : ℕ → Digits → Option Digits
nines_behind n s = appended s.0 (nines_at n s.1)

pub nines_behind-suc : (n : ℕ) (s : Digits) → nines_behind (suc n) s ≡ (group_behind s and_then λ t. nines_behind n t)
unfolding nines_at
nines_behind-suc n s = simp (map-then, and_then_assoc, append_assoc)

pub nines_behind-zero : (s : Digits) → nines_behind 0 s ≡ Some s
unfolding nines_at
nines_behind-zero s = ap (λ (ds : List ℕ). Some (ds, s.1)) (append-nil s.0)
