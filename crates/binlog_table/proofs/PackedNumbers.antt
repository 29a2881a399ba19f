-- Packed numbers that are read are spelled so, and those that are spelled so are read.
use Rattle.std.proofs.Common.{◌≡◌, ℕ, suc, ◌+◌, ◌≤◌, cond, leb, true, List, [], ◌∷◌, ◌++◌, length, take, Some, refl, sym, ap, subst, ◌∙◌, add-one, arith}
use Rattle.std.proofs.lemmas.Bool.{leb-true, le-leb}
use Rattle.std.proofs.lemmas.List.{length-append, length-take}
use Rattle.std.proofs.lemmas.Option.{same_Some}
use Rattle.byteorder.specs.Endian.{little_number}
use Rattle.byteorder.specs.Numbers.{little_from-append}
use Rattle.binlog_table.specs.Packed.{packed_width, IsPacked, packed_at}
use Rattle.binlog_table.proofs.Extents.{little-take}
use Rattle.binlog_table.proofs.Options.{and_then_ok, guarded}

pub packed_at-found : (bytes : List ℕ) (n k : ℕ) → packed_at bytes ≡ Some (n, k) → (k ≤ length bytes) × IsPacked n (take k bytes)
unfolding packed_at
packed_at-found [] n k e = absurd cc
packed_at-found (b ∷ bs) n k e =
    let number = λ (w : ℕ). cond (leb b 250) b (little_number w bs) in
    let a = and_then_ok (packed_width b) _ (n, k) e in
    let g = guarded (leb a.0 (length bs)) _ (n, k) a.2 in
    let le : a.0 ≤ length bs = leb-true _ _ g.0 in
    let pair = same_Some (number a.0, a.0 + 1) (n, k) g.1 in
    let len : length (take a.0 bs) ≡ a.0 = omega (arith, length-take a.0 bs) in
    let same : little_number (length (take a.0 bs)) (take a.0 bs) ≡ little_number a.0 bs = ap (λ (w : ℕ). little_number w (take a.0 bs)) len ∙ little-take a.0 a.0 bs (omega arith) le in
    let spelled : IsPacked (number a.0) (b ∷ take a.0 bs) = (a.1 ∙ ap Some (sym len), ap (λ (v : ℕ). cond (leb b 250) b v) (sym same)) in
    subst (λ (x : ℕ × ℕ). (x.1 ≤ suc (length bs)) × IsPacked x.0 (take x.1 (b ∷ bs))) pair (omega arith, rw add-one spelled)

pub packed_at-only : (n : ℕ) (text rest : List ℕ) → IsPacked n text → packed_at (text ++ rest) ≡ Some (n, length text)
unfolding packed_at
packed_at-only n [] rest h = absurd h
packed_at-only n (b ∷ bs) rest h =
    let le : leb (length bs) (length (bs ++ rest)) ≡ true = le-leb _ _ (omega (arith, length-append bs rest)) in
    let front : little_number (length bs) (bs ++ rest) ≡ little_number (length bs) bs = little_from-append (length bs) bs rest (omega arith) in
    rw (h.0, le, front, ← h.1, add-one) refl
