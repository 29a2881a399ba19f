-- The parts of a text round a separator.
use Rattle.std.specs.Prelude.{◌≡◌, ℕ, List, [], ◌∷◌, ◌==◌}
use Rattle.std.specs.Borrow.{Bor}
use Rattle.std.specs.List.{slice_split}

-- one part more than there are separators; joined by the separator they give the text back
abbrev pub parts : ℕ → List ℕ → List (List ℕ)
parts separator text = slice_split (λ b. b == separator) text

-- a text has no separator
abbrev pub IsOnePart : ℕ → List ℕ → Type 0
IsOnePart separator text = parts separator text ≡ text ∷ []

-- the first part of a text, and the text behind the first separator
abbrev pub IsParted : ℕ → List ℕ → Bor (List ℕ) × Bor (List ℕ) → Type 0
IsParted separator text pair = parts separator text ≡ pair.0.now ∷ parts separator pair.1.now
