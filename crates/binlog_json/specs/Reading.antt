-- What reading a text has done.
use Rattle.std.specs.Prelude.{◌≡◌, ℕ, List, ◌++◌, Option, Some, None, Bool, string_bytes}
use Rattle.std.specs.declared.string.String.{String}
use Rattle.std.specs.declared.alloc.Global.{Global}

-- Whether there was a text; if so, it stands at the end.
abbrev pub IsRead : {X : Type 0} → List X → List X → Option (List X) → Bool → Type 0
IsRead old new None is_text = is_text ≡ Bool.false
IsRead old new (Some text) is_text = (is_text ≡ Bool.true) × (new ≡ old ++ text)

-- the same of a string
abbrev pub HasRead : String Global → String Global → Option (List ℕ) → Bool → Type 0
HasRead old new text is_text = IsRead (string_bytes old) (string_bytes new) text is_text
