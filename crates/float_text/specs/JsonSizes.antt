-- A text that is a number of JSON's grammar, behind a minus, too.
use Rattle.std.specs.Prelude.{ℕ, List, ◌∷◌}
use Rattle.json.specs.Print.{IsNumber}

pub record IsJsonSize (text : List ℕ) : Type 0 where
  pub alone : IsNumber text
  pub negative : IsNumber (45 ∷ text)
