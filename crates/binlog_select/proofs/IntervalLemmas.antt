-- Joined intervals: what stands behind an interval, and where a binary search ends.
use Rattle.std.proofs.Common.{◌≡◌, ℕ, zero, suc, ◌+◌, ◌<◌, ◌≤◌, Bool, true, false, List, [], ◌∷◌, ◌++◌, length, get_or, inl, inr, sym, refl, subst, arith}
use Rattle.std.specs.List.{All}
use Rattle.std.specs.List.Sorted.{IsPartitionedBy, IsPartitionPoint}
use Rattle.std.proofs.lemmas.Bool.Decides.{nat_tests}
use Rattle.std.proofs.lemmas.List.Elements.{All-push}
use Rattle.binlog_select.specs.declared.interval.Interval.{Interval}
use Rattle.binlog_select.specs.Tags.{rank}
use Rattle.binlog_select.specs.Intervals.{Holds, lies_before, IsMember, IsInterval, StandsApart, IsJoined}

-- the interval ends, with a gap, before a number
abbrev pub EndsBefore : Interval → ℕ → ℕ → Type 0
EndsBefore i source number = (rank i.source ≤ source) × (rank i.source ≡ source → i.last + 1 < number)

-- what stands apart from a list stands apart from the rest of it
pub StandsApart-tail : (x y : Interval) (ys : List Interval) → StandsApart x (y ∷ ys) → IsInterval y → StandsApart y ys → StandsApart x ys
StandsApart-tail x y [] apart is next = tt
StandsApart-tail x y (z ∷ ys) apart is next =
    let rising = is.rising in
    (omega arith, λ same. omega arith)

-- what stands apart from a list ends before each of its numbers
pub EndsBefore-member : (x : Interval) (xs : List Interval) (source number : ℕ) → StandsApart x xs → IsJoined xs → IsMember xs source number → EndsBefore x source number
EndsBefore-member x [] source number apart joined member = absurd member
EndsBefore-member x (y ∷ ys) source number apart joined (inl holds) = (omega arith, λ same. omega arith)
EndsBefore-member x (y ∷ ys) source number apart joined (inr member) =
    EndsBefore-member x ys source number (StandsApart-tail x y ys apart joined.0 joined.1) joined.2 member

pub IsInterval-each : (xs : List Interval) → IsJoined xs → (k : ℕ) (d : Interval) → k < length xs → IsInterval (get_or xs k d)
IsInterval-each [] joined k d below = absurd (omega arith)
IsInterval-each (x ∷ xs) joined zero d below = joined.0
IsInterval-each (x ∷ xs) joined (suc k) d below = IsInterval-each xs joined.2 k d (omega arith)

-- a number that is in an interval of the list is in this one
pub IsMember-get_or : (xs : List Interval) (k : ℕ) (d : Interval) (source number : ℕ) → k < length xs → Holds (get_or xs k d) source number → IsMember xs source number
IsMember-get_or [] k d source number below holds = absurd (omega arith)
IsMember-get_or (x ∷ xs) zero d source number below holds = inl holds
IsMember-get_or (x ∷ xs) (suc k) d source number below holds = inr (IsMember-get_or xs k d source number (omega arith) holds)

-- and before each of its intervals
pub EndsBefore-each : (x : Interval) (xs : List Interval) → StandsApart x xs → IsJoined xs → (k : ℕ) (d : Interval) → k < length xs → EndsBefore x (rank (get_or xs k d).source) (get_or xs k d).first
EndsBefore-each x xs apart joined k d below =
    let rising = (IsInterval-each xs joined k d below).rising in
    EndsBefore-member x xs _ _ apart joined (IsMember-get_or xs k d _ _ below (refl, omega arith, rising))

-- the interval has passed when a number comes
abbrev pub has_passed : ℕ → ℕ → Interval → Bool
has_passed source number i = lies_before i source number

pub passed : (i : Interval) (source number : ℕ) → has_passed source number i ≡ true → (rank i.source ≤ source) × (rank i.source ≡ source → i.last < number)
passed i source number is = grind (arith, nat_tests)

pub passes : (i : Interval) (source number : ℕ) → rank i.source ≤ source → (rank i.source ≡ source → i.last < number) → has_passed source number i ≡ true
passes i source number low same = grind (arith, nat_tests)

pub to_come : (i : Interval) (source number : ℕ) → has_passed source number i ≡ false → (source ≤ rank i.source) × (rank i.source ≡ source → number ≤ i.last)
to_come i source number is = grind (arith, nat_tests)

-- each interval before one that has passed has passed
pub IsPartitionedBy-joined : (source number : ℕ) (xs : List Interval) → IsJoined xs → IsPartitionedBy (has_passed source number) xs
IsPartitionedBy-joined source number [] joined i j d order below past = absurd (omega arith)
IsPartitionedBy-joined source number (x ∷ xs) joined zero zero d order below past = past
IsPartitionedBy-joined source number (x ∷ xs) joined zero (suc j) d order below past =
    let y = get_or xs j d in
    let before = EndsBefore-each x xs joined.1 joined.2 j d (omega arith) in
    let rising = (IsInterval-each xs joined.2 j d (omega arith)).rising in
    let end = passed y source number past in
    passes x source number (omega arith) (λ same. omega arith)
IsPartitionedBy-joined source number (x ∷ xs) joined (suc i) zero d order below past = absurd (omega arith)
IsPartitionedBy-joined source number (x ∷ xs) joined (suc i) (suc j) d order below past =
    IsPartitionedBy-joined source number xs joined.2 i j d (omega arith) (omega arith) past

-- where all intervals before a place have passed and none from there on, a number can only be in the one there
pub only_there : (source number : ℕ) (xs : List Interval) (at : ℕ) → IsJoined xs
    → ((k : ℕ) (d : Interval) → k < at → has_passed source number (get_or xs k d) ≡ true)
    → ((d : Interval) → at < length xs → has_passed source number (get_or xs at d) ≡ false)
    → IsMember xs source number → (at < length xs) × ((d : Interval) → Holds (get_or xs at d) source number)
only_there source number [] at joined past here member = absurd member
only_there source number (x ∷ xs) zero joined past here (inl holds) = (omega arith, λ d. holds)
only_there source number (x ∷ xs) zero joined past here (inr member) =
    let beyond = EndsBefore-member x xs source number joined.1 joined.2 member in
    let coming = to_come x source number (here x (omega arith)) in
    absurd (omega arith)
only_there source number (x ∷ xs) (suc at) joined past here (inl holds) =
    let end = passed x source number (past 0 x (omega arith)) in
    absurd (omega arith)
only_there source number (x ∷ xs) (suc at) joined past here (inr member) =
    let rest = only_there source number xs at joined.2 (λ k d below. past (suc k) d (omega arith)) (λ d below. here d (omega arith)) member in
    (omega (arith, rest.0), rest.1)

-- where a binary search for a number ends: past all intervals, or at the one that alone can hold it
module _ (xs : List Interval) (at source number : ℕ) (joined : IsJoined xs)
    (point : IsPartitionPoint (λ y. has_passed source number y ≡ true) (λ y. has_passed source number y ≡ false) xs at) where
  there : IsMember xs source number → (at < length xs) × ((d : Interval) → Holds (get_or xs at d) source number)
  there = only_there source number xs at joined (λ k d below. point.0 k d (omega arith) below) (λ d below. point.1 at d (omega arith) below)

  pub none_past : at ≡ length xs → IsMember xs source number → ⊥
  none_past end member = absurd (omega (arith, (there member).0))

  pub member_there : (d : Interval) → at < length xs → rank (get_or xs at d).source ≡ source → (get_or xs at d).first ≤ number → IsMember xs source number
  member_there d below same low =
      let coming = to_come (get_or xs at d) source number (point.1 at d (omega arith) below) in
      IsMember-get_or xs at d source number below (same, low, omega arith)

  pub there_member : (d : Interval) → IsMember xs source number → (rank (get_or xs at d).source ≡ source) × ((get_or xs at d).first ≤ number)
  there_member d member = let h = (there member).1 d in (h.0, h.1)

-- those of a list to which one was appended
pub pushed_at : (new old : List Interval) (i : Interval) (k : ℕ) (d : Interval) → k < length new → new ≡ old ++ i ∷ [] → All IsInterval old → IsInterval i → IsInterval (get_or new k d)
pushed_at new old i k d within appends valid is = subst (All IsInterval) (sym appends) (All-push IsInterval old i valid is) k d within
