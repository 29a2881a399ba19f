-- Two sources with one number have the same bytes.
use Rattle.std.proofs.Common.{◌≡◌, ℕ, ◌+◌, ◌*◌, ◌<◌, ◌^◌, List, ◌++◌, length, get_or, take, drop, sym, ap, ◌∙◌, refl, arith}
use Rattle.std.specs.Int.{to_be_bytes, from_be_bytes, w64, w128}
use Rattle.std.proofs.lemmas.List.{get_or-take, get_or-drop, length-take, length-take-le, length-drop, take-append-drop, get_or_past}
use Rattle.std.proofs.lemmas.Nat.{be_bytes_8}
use Rattle.std.proofs.lemmas.Bool.{cases_lt}
use Rattle.std.proofs.Common.{inl, inr}

abbrev pub AreBytes : List ℕ → Type 0
AreBytes xs = (i : ℕ) → get_or xs i 0 < 256

pub below : (bs : List ℕ) → AreBytes bs → from_be_bytes w64 bs < 2 ^ 64
below bs small = omega (arith, small 0, small 1, small 2, small 3, small 4, small 5, small 6, small 7)

pub halves : (xs : List ℕ) → from_be_bytes w128 xs ≡ from_be_bytes w64 (take 8 xs) * 2 ^ 64 + from_be_bytes w64 (drop 8 xs)
halves xs = omega (arith, get_or-take {A = ℕ}, get_or-drop {A = ℕ})

pub front-bytes : (xs : List ℕ) → AreBytes xs → AreBytes (take 8 xs)
front-bytes xs small i =
    elim (cases_lt i 8) [
      | inl within ↦ omega (arith, get_or-take 8 xs i 0 within, small i)
      | inr past ↦ omega (arith, get_or_past (take 8 xs) i 0 (omega (arith, length-take 8 xs)))
    ]

pub back-bytes : (xs : List ℕ) → AreBytes xs → AreBytes (drop 8 xs)
back-bytes xs small i = omega (arith, get_or-drop 8 xs i 0, small (8 + i))

same_eight : (bs cs : List ℕ) → length bs ≡ 8 → length cs ≡ 8 → AreBytes bs → AreBytes cs → from_be_bytes w64 bs ≡ from_be_bytes w64 cs → bs ≡ cs
same_eight bs cs b-length c-length b-small c-small is =
    sym (be_bytes_8 bs (from_be_bytes w64 bs) b-length b-small refl) ∙ ap (to_be_bytes w64) is ∙ be_bytes_8 cs (from_be_bytes w64 cs) c-length c-small refl

pub same_bytes : (xs ys : List ℕ) → length xs ≡ 16 → length ys ≡ 16 → AreBytes xs → AreBytes ys → from_be_bytes w128 xs ≡ from_be_bytes w128 ys → xs ≡ ys
same_bytes xs ys x-length y-length x-small y-small is =
    let x-front = front-bytes xs x-small in
    let y-front = front-bytes ys y-small in
    let x-back = back-bytes xs x-small in
    let y-back = back-bytes ys y-small in
    let digits = two_digits _ _ _ _ (below (drop 8 xs) x-back) (below (drop 8 ys) y-back) (sym (halves xs) ∙ is ∙ halves ys) in
    sym (take-append-drop 8 xs)
    ∙ ap (λ front. front ++ drop 8 xs)
    (same_eight (take 8 xs) (take 8 ys) (length-take-le 8 xs (omega arith)) (length-take-le 8 ys (omega arith)) x-front y-front digits.0)
    ∙ ap (λ back. take 8 ys ++ back)
    (same_eight (drop 8 xs) (drop 8 ys) (omega (arith, length-drop 8 xs)) (omega (arith, length-drop 8 ys)) x-back y-back digits.1)
    ∙ take-append-drop 8 ys
  where
    two_digits : (a b c d : ℕ) → b < 2 ^ 64 → d < 2 ^ 64 → a * 2 ^ 64 + b ≡ c * 2 ^ 64 + d → (a ≡ c) × (b ≡ d)
    two_digits a b c d b-fits d-fits same = (omega arith, omega arith)
