-- A set of GTIDs as intervals of numbers.
use Rattle.std.specs.Prelude.{◌≡◌, ◌⊎◌, ◌↔◌, ℕ, ◌+◌, ◌<◌, ◌≤◌, ◌^◌, Bool, ◌&&◌, ◌||◌, nat_eq, nat_lt, List, [], ◌∷◌}
use Rattle.binlog_select.specs.declared.interval.Interval.{Interval}
use Rattle.binlog_select.specs.Tags.{IsSource, rank}

-- the number is one of the interval's; a source goes by its rank
abbrev pub Holds : Interval → ℕ → ℕ → Type 0
Holds i source number = (rank i.source ≡ source) × (i.first ≤ number) × (number ≤ i.last)

-- the number is one of some interval's
abbrev pub IsMember : List Interval → ℕ → ℕ → Type 0
IsMember [] source number = ⊥
IsMember (i ∷ is) source number = Holds i source number ⊎ IsMember is source number

-- the interval lies before the number, by its source or by its last number
abbrev pub lies_before : Interval → ℕ → ℕ → Bool
lies_before i source number = nat_lt (rank i.source) source || (nat_eq (rank i.source) source && nat_lt i.last number)

-- the lists have the same numbers of the same sources
abbrev pub SameNumbers : List Interval → List Interval → Type 0
SameNumbers xs ys = (source number : ℕ) → IsMember xs source number ↔ IsMember ys source number

-- the limits of a GTID's parts: numbers go from 1 to 2^63 - 1
pub record IsInterval (i : Interval) : Type 0 where
  pub source : IsSource i.source
  pub positive : 0 < i.first
  pub rising : i.first ≤ i.last
  pub small : i.last < 2 ^ 63

-- the next interval is of a later source, or of the same one with a gap between
abbrev pub StandsApart : Interval → List Interval → Type 0
StandsApart i [] = Unit {0}
StandsApart i (next ∷ is) = (rank i.source ≤ rank next.source) × (rank i.source ≡ rank next.source → i.last + 1 < next.first)

-- the form in which a set is kept: by source and number, with a gap between any two intervals of a source
abbrev pub IsJoined : List Interval → Type 0
IsJoined [] = Unit {0}
IsJoined (i ∷ is) = IsInterval i × StandsApart i is × IsJoined is

-- the next interval is of a later source, or begins no earlier
abbrev pub IsNotAbove : Interval → List Interval → Type 0
IsNotAbove i [] = Unit {0}
IsNotAbove i (next ∷ is) = (rank i.source ≤ rank next.source) × (rank i.source ≡ rank next.source → i.first ≤ next.first)

-- intervals by source and first number
abbrev pub AreRising : List Interval → Type 0
AreRising [] = Unit {0}
AreRising (i ∷ is) = IsNotAbove i is × AreRising is

-- the interval's GTIDs have no tag
abbrev pub HasNoTag : Interval → Type 0
HasNoTag i = i.source.high ≡ 0
