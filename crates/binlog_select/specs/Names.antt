-- The order in which names are kept.
use Rattle.std.specs.Prelude.{List, string_bytes, IsSortedByKey}
use Rattle.std.specs.Ordering.{nat_cmp}
use Rattle.std.specs.Cmp.Lexicographic.{slice_cmp}
use Rattle.std.specs.declared.string.String.{String}
use Rattle.std.specs.declared.alloc.Global.{Global}

-- texts, none of which is below the one before it by its bytes
abbrev pub AreInByteOrder : List (String Global) → Type 0
AreInByteOrder texts = IsSortedByKey string_bytes (slice_cmp nat_cmp) texts
