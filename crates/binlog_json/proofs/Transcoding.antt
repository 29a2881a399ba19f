-- The loop that appends zeros.
use Rattle.std.proofs.Common.{◌≡◌, ℕ, ◌+◌, ◌≤◌, List, [], ◌∷◌, ◌++◌, append_assoc, replicate, ap, ◌∙◌, arith}
use Rattle.std.proofs.lemmas.List.{replicate-append-replicate}

pub zeros_more : (bytes : List ℕ) (n : ℕ) → (bytes ++ replicate n 0) ++ 0 ∷ [] ≡ bytes ++ replicate (n + 1) 0
zeros_more bytes n = append_assoc bytes (replicate n 0) (0 ∷ []) ∙ ap (λ (zeros : List ℕ). bytes ++ zeros) (replicate-append-replicate n 1 0)

pub zeros_end : (bytes new : List ℕ) (n count : ℕ) → new ≡ bytes ++ replicate n 0 → n ≤ count → count ≤ n → new ≡ bytes ++ replicate count 0
zeros_end bytes new n count is le ge =
    let same : n ≡ count = omega arith in
    is ∙ ap (λ (k : ℕ). bytes ++ replicate k 0) same
