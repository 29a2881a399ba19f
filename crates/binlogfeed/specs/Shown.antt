-- How a name and its number are shown.
use Rattle.std.specs.Prelude.{ℕ, List, Option, Some, None}
use Rattle.binlogfeed.specs.Faults.{numbered}

abbrev pub shown_as : List ℕ → Option ℕ → List ℕ
shown_as name None = name
shown_as name (Some number) = numbered name number
