-- Texts at places of bytes that have room for them.
use Rattle.std.proofs.Common.{◌∙◌, ℕ, ◌+◌, ◌≤◌, List, ◌++◌, length, take, length-take-le, take-add, take-take, take_at, drop_at, ap, sym, arith}
use Rattle.json.specs.Filled.{Placed}

-- only the first bytes of what was put count
pub placed_less : {a b xs : List ℕ} {i j : ℕ} (n : ℕ) → i ≤ length a → n ≤ length xs → Placed a b i xs j → Placed a b i (take n xs) (i + n)
placed_less {a} {b} {xs} {i} {j} n within few p =
    let front = length-take-le i a within in
    record {
      bytes = sym (take-take (i + n) j b (omega (arith, p.moved))) ∙ ap (take (i + n)) p.bytes ∙ take-add i n (take i a ++ xs)
          ∙ (λ k. take_at (take i a) xs i front k ++ take n (drop_at (take i a) xs i front k));
      moved = omega (arith, length-take-le n xs few);
      len = p.len;
    }
