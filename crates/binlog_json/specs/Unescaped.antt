-- Text that no escape changes.
use Rattle.std.specs.Prelude.{◌≡◌, ℕ, List, [], ◌∷◌, ◌++◌}
use Rattle.json.specs.Print.{quoted}

-- as a string it is itself between quotes
abbrev pub StandsAsIs : List ℕ → Type 0
StandsAsIs text = quoted text ≡ 34 ∷ (text ++ 34 ∷ [])
