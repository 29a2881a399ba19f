-- Texts at places of bytes that have room for them.
use Rattle.std.proofs.Common.{◌≡◌, ◌∙◌, ℕ, ◌+◌, ◌≤◌, List, ◌++◌, Bool, true, false, if◌then◌else◌, length, take, drop, replicate, refl, length-append, take-add, take_at, ap, sym, subst, arith}
use Rattle.std.specs.Str.{IsUtf8}
use Rattle.std.proofs.lemmas.List.{take_all, take-append-le}
use Rattle.std.proofs.lemmas.Str.{IsUtf8-append, IsUtf8-had}
use Rattle.json.specs.Filled.{Placed}

-- digits that end where their room does
pub placed_digits : {a b xs : List ℕ} (rest : List ℕ) (i s j : ℕ) → s + length xs ≡ j → j ≡ i + length xs → drop s b ≡ xs ++ rest → take s b ≡ take s a → length b ≡ length a → Placed a b i xs j
placed_digits {a} {b} {xs} rest i s j ends moved written before len =
    let same : s ≡ i = omega arith in
    let front : take i b ≡ take i a = subst (λ (n : ℕ). take n b ≡ take n a) same before in
    let digits : take (length xs) (drop i b) ≡ xs = ap (take (length xs)) (subst (λ (n : ℕ). drop n b ≡ xs ++ rest) same written) ∙ take_at xs rest (length xs) refl in
    record {
      bytes = ap (λ (n : ℕ). take n b) moved ∙ take-add i (length xs) b ∙ (λ k. front k ++ digits k);
      moved = moved;
      len = len;
    }

-- what was put behind a text has its room, and all is text
pub held : {a b xs items l : List ℕ} {i j : ℕ} → l ≡ b → Placed a b i xs j → a ≡ items → i + length xs ≤ length items → ∥ IsUtf8 (take i items) ∥₁ → IsUtf8 xs → (j ≤ length l) × ∥ IsUtf8 (take j l) ∥₁
held {a} {b} {xs} {items} {l} {i} {j} same p is room had text = (
  omega (arith, p.moved, p.len, ap length same, ap length is, room),
  ∣ subst IsUtf8 (sym (ap (take j) same ∙ p.bytes ∙ ap (λ l. take i l ++ xs) is)) (IsUtf8-append (take i items) xs (IsUtf8-had (take i items) had) text) ∣₁,
)

-- behind what is written room is added, or none is
pub roomier : (ok : Bool) (old new : List ℕ) (len room more : ℕ) → len ≤ length old → length old ≤ room → new ≡ (if ok then take room old ++ replicate more 0 else old)
    → (len ≤ length new) × (take len new ≡ take len old)
roomier true old new len room more within enough is =
    let whole : new ≡ old ++ replicate more 0 = is ∙ ap (λ l. l ++ replicate more 0) (take_all room old enough) in
    (omega (arith, within, ap length whole, length-append old (replicate more 0)), ap (take len) whole ∙ take-append-le len old (replicate more 0) within)
roomier false old new len room more within enough is = (omega (arith, within, ap length is), ap (take len) is)
