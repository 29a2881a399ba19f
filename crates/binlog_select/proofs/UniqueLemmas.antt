-- Joined intervals with the same numbers are the same list.
use Rattle.std.proofs.Common.{◌≡◌, ℕ, ◌+◌, ◌≤◌, List, [], ◌∷◌, inl, inr, sym, ap, ◌∙◌, refl, subst, arith}
use Rattle.std.proofs.lemmas.Bool.{cases_lt}
use Rattle.binlog_select.specs.declared.interval.Interval.{Interval}
use Rattle.binlog_select.specs.Tags.{rank}
use Rattle.binlog_select.specs.Intervals.{IsMember, IsJoined, SameNumbers}
use Rattle.binlog_profile.specs.declared.profile.Profile.{Profile}
use Rattle.binlog_select.specs.SetText.{IsSetTextBy}
use Rattle.binlog_select.proofs.IntervalLemmas.{EndsBefore-member}
use Rattle.binlog_select.proofs.RankLemmas.{same_source}

pub same_interval : (x y : Interval) → x.source ≡ y.source → x.first ≡ y.first → x.last ≡ y.last → x ≡ y
same_interval x y source first last = λ i. record { source = source i; first = first i; last = last i }

flipped : (xs ys : List Interval) → SameNumbers xs ys → SameNumbers ys xs
flipped xs ys same source number = ((same source number).1, (same source number).0)

-- no number of the list comes before its first interval
not_before : (y : Interval) (ys : List Interval) (source number : ℕ) → IsJoined (y ∷ ys) → IsMember (y ∷ ys) source number
    → (rank y.source ≤ source) × (rank y.source ≡ source → y.first ≤ number)
not_before y ys source number joined (inl holds) = (omega arith, λ same. omega arith)
not_before y ys source number joined (inr member) =
    let ends = EndsBefore-member y ys source number joined.1 joined.2 member in
    let rising = joined.0.rising in
    (omega arith, λ same. omega arith)

module _ (x : Interval) (xs : List Interval) (y : Interval) (ys : List Interval) (x-joined : IsJoined (x ∷ xs)) (y-joined : IsJoined (y ∷ ys)) (same : SameNumbers (x ∷ xs) (y ∷ ys)) where
  begins : (rank y.source ≤ rank x.source) × (rank y.source ≡ rank x.source → y.first ≤ x.first)
  begins =
      let rising = x-joined.0.rising in
      not_before y ys (rank x.source) x.first y-joined ((same (rank x.source) x.first).0 (inl (refl, omega arith, rising)))

  -- the second list's first interval doesn't reach further
  reaches : rank x.source ≡ rank y.source → x.first ≡ y.first → y.last ≤ x.last
  reaches sources firsts =
      elim (cases_lt x.last y.last) as (λ _. y.last ≤ x.last) [
        | inl short ↦
            let rising = x-joined.0.rising in
            elim ((same (rank x.source) (x.last + 1)).1 (inl (sym sources, omega arith, omega arith))) as (λ _. y.last ≤ x.last) [
              | inl holds ↦ absurd (omega (arith, holds.2))
              | inr member ↦ absurd (omega (arith, (EndsBefore-member x xs (rank x.source) (x.last + 1) x-joined.1 x-joined.2 member).1 refl))
            ]
        | inr enough ↦ enough
      ]

  -- what stands behind the first interval of the first list stands behind that of the second
  behind : x ≡ y → (source number : ℕ) → IsMember xs source number → IsMember ys source number
  behind is source number member =
      let ends = EndsBefore-member x xs source number x-joined.1 x-joined.2 member in
      elim ((same source number).0 (inr member)) as (λ _. IsMember ys source number) [
        | inl holds ↦
            let s : rank x.source ≡ rank y.source = ap (λ (i : Interval). rank i.source) is in
            let l : x.last ≡ y.last = ap (λ (i : Interval). i.last) is in
            absurd (omega (arith, holds.0, holds.2, ends.1))
        | inr rest ↦ rest
      ]

pub same_list : (xs ys : List Interval) → IsJoined xs → IsJoined ys → SameNumbers xs ys → xs ≡ ys
same_list [] [] x-joined y-joined same = refl
same_list [] (y ∷ ys) x-joined y-joined same =
    let rising = y-joined.0.rising in
    absurd ((same (rank y.source) y.first).1 (inl (refl, omega arith, rising)))
same_list (x ∷ xs) [] x-joined y-joined same =
    let rising = x-joined.0.rising in
    absurd ((same (rank x.source) x.first).0 (inl (refl, omega arith, rising)))
same_list (x ∷ xs) (y ∷ ys) x-joined y-joined same =
    let back = flipped (x ∷ xs) (y ∷ ys) same in
    let here = begins x xs y ys x-joined y-joined same in
    let there = begins y ys x xs y-joined x-joined back in
    let sources : rank x.source ≡ rank y.source = omega arith in
    let firsts : x.first ≡ y.first = omega arith in
    let long = reaches x xs y ys x-joined y-joined same sources firsts in
    let wide = reaches y ys x xs y-joined x-joined back (sym sources) (sym firsts) in
    let heads : x ≡ y = same_interval x y (same_source x.source y.source x-joined.0.source y-joined.0.source sources) firsts (omega arith) in
    let tails : xs ≡ ys = same_list xs ys x-joined.2 y-joined.2 (λ source number.
    (behind x xs y ys x-joined y-joined same heads source number, behind y ys x xs y-joined x-joined back (sym heads) source number)) in
    λ i. heads i ∷ tails i

-- a text that names two sets names one
pub Same-named : (profile : Profile) (text : List ℕ) (xs ys : List Interval) → IsSetTextBy profile text xs → IsSetTextBy profile text ys → SameNumbers xs ys
Same-named profile text xs ys x-names y-names source number =
    let both = sym x-names.reads ∙ y-names.reads in
    let one : x-names.named ≡ y-names.named = cc in
    let same : SameNumbers x-names.named ys = subst (λ named. SameNumbers named ys) (sym one) (flipped ys y-names.named y-names.same) in (
      λ m. (same source number).0 ((x-names.same source number).0 m),
      λ m. (x-names.same source number).1 ((same source number).1 m),
    )
