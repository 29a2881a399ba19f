-- What stands in a text that was appended to.
use Rattle.std.specs.Prelude.{◌≡◌, ℕ, List, ◌++◌, string_bytes}
use Rattle.std.specs.declared.string.String.{String}
use Rattle.std.specs.declared.alloc.Global.{Global}

-- the text begins with what it held before
pub record BeginsWith (text front : List ℕ) : Type 0 where
  pub rest : List ℕ
  pub is : text ≡ front ++ rest

-- the text is what it held before, and more behind it
abbrev pub GrowsBy : String Global → String Global → List ℕ → Type 0
GrowsBy old new more = string_bytes new ≡ string_bytes old ++ more
