-- The names of a column's values without where they lie in memory.
use Rattle.std.specs.Prelude.{ℕ, List, map, Option, option_map, Vec}
use Rattle.std.specs.declared.alloc.Global.{Global}

abbrev pub names_view : Option (Vec (Vec ℕ Global) Global) → Option (List (List ℕ))
names_view names = option_map (λ v. map (λ name. name.items) v.items) names
