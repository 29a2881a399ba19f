-- Joining sorted intervals keeps their numbers and leaves gaps.
use Rattle.std.proofs.Common.{◌≡◌, ◌⊎◌, ℕ, suc, ◌+◌, ◌<◌, ◌≤◌, true, false, cond, List, [], ◌∷◌, get_or, inl, inr, sym, ◌∙◌, refl, subst, arith}
use Rattle.std.specs.List.{All}
use Rattle.std.specs.List.Sorted.{IsPermutation, IsSorted}
use Rattle.std.specs.Ordering.{nat_cmp, ordering_then, is_lt}
use Rattle.std.specs.declared.cmp.Ordering.{Ordering}
use Rattle.std.proofs.lemmas.Bool.{cases_lt}
use Rattle.std.proofs.lemmas.Bool.Decides.{nat_tests}
use Rattle.std.proofs.lemmas.List.Elements.{All-head, All-tail}
use Rattle.std.proofs.lemmas.List.Sorted.{list_any-IsPermutation}
use Rattle.binlog_select.specs.declared.interval.Interval.{Interval}
use Rattle.binlog_select.specs.Tags.{IsSource, rank}
use Rattle.binlog_select.specs.Intervals.{Holds, IsInterval, StandsApart, IsJoined, IsNotAbove, AreRising, SameNumbers}
use Rattle.binlog_select.specs.Filter.{holds}
use Rattle.binlog_select.specs.Joining.{touches, united, merged}
use Rattle.binlog_select.proofs.FilterLemmas.{is_member}
use Rattle.binlog_select.proofs.RankLemmas.{by_source}

touching : (i next : Interval) → touches i next ≡ true → (rank i.source ≡ rank next.source) × (next.first ≤ i.last + 1)
touching i next is = grind (arith, nat_tests)

apart : (i next : Interval) → touches i next ≡ false → rank i.source ≡ rank next.source → i.last + 1 < next.first
apart i next is same = grind (arith, nat_tests)

-- what is merged begins where its first interval does
StandsApart-merged : (x i : Interval) (rest : List Interval) → rank x.source ≤ rank i.source → (rank x.source ≡ rank i.source → x.last + 1 < i.first) → StandsApart x (merged i rest)
StandsApart-merged x i [] low gap = (low, gap)
StandsApart-merged x i (next ∷ rest) low gap =
    elim (touches i next) as (λ b. StandsApart x (cond b (merged (united i next) rest) (i ∷ merged next rest))) [
      | true ↦ StandsApart-merged x (united i next) rest low gap
      | false ↦ (low, gap)
    ]

IsInterval-united : (i next : Interval) → IsInterval i → IsInterval next → IsInterval (united i next)
IsInterval-united i next is also = record {
  source = is.source;
  positive = is.positive;
  rising = let r = is.rising in omega arith;
  small = let a = is.small in let b = also.small in omega arith;
}

IsNotAbove-united : (i next : Interval) (rest : List Interval) → rank i.source ≡ rank next.source → IsNotAbove i (next ∷ rest) → IsNotAbove next rest → IsNotAbove (united i next) rest
IsNotAbove-united i next [] same before after = tt
IsNotAbove-united i next (x ∷ rest) same before after = (omega arith, λ also. omega arith)

-- two intervals that touch hold what they hold as one
one_holds : (i next : Interval) (source number : ℕ) → (rank i.source ≡ rank next.source) × (next.first ≤ i.last + 1) → i.first ≤ next.first → i.first ≤ i.last → next.first ≤ next.last
    → Holds (united i next) source number → Holds i source number ⊎ Holds next source number
one_holds i next source number touch low rising also holds =
    elim (cases_lt i.last number) [
      | inl past ↦ inr (omega arith, omega arith, omega arith)
      | inr within ↦ inl (omega arith, omega arith, omega arith)
    ]

holds_one : (i next : Interval) (source number : ℕ) → (rank i.source ≡ rank next.source) × (next.first ≤ i.last + 1) → i.first ≤ next.first
    → Holds i source number ⊎ Holds next source number → Holds (united i next) source number
holds_one i next source number touch low (inl holds) = (omega arith, omega arith, omega arith)
holds_one i next source number touch low (inr holds) = (omega arith, omega arith, omega arith)

pub merges : (i : Interval) (rest : List Interval) → IsInterval i → All IsInterval rest → IsNotAbove i rest → AreRising rest
    → IsJoined (merged i rest) × SameNumbers (merged i rest) (i ∷ rest)
merges i [] is each above rising = ((is, tt, tt), λ source number. (λ m. m, λ m. m))
merges i (next ∷ rest) is each above rising =
    let also = All-head IsInterval next rest each in
    let others = All-tail IsInterval next rest each in
    elim (touches i next) as (λ b. touches i next ≡ b → IsJoined (cond b (merged (united i next) rest) (i ∷ merged next rest))
    × SameNumbers (cond b (merged (united i next) rest) (i ∷ merged next rest)) (i ∷ next ∷ rest)) [
      | true ↦ λ t.
          let touch = touching i next t in
          let low : i.first ≤ next.first = omega (arith, above.1 touch.0) in
          let whole = merges (united i next) rest (IsInterval-united i next is also) others
          (IsNotAbove-united i next rest touch.0 above rising.0) rising.1 in (
            whole.0,
            λ source number. (
              λ m. elim ((whole.1 source number).0 m) [
                | inl h ↦ elim (one_holds i next source number touch low is.rising also.rising h) [ inl a ↦ inl a | inr b ↦ inr (inl b) ]
                | inr r ↦ inr (inr r)
              ],
              λ m. (whole.1 source number).1 (elim m [
                | inl a ↦ inl (holds_one i next source number touch low (inl a))
                | inr o ↦ elim o [ inl b ↦ inl (holds_one i next source number touch low (inr b)) | inr r ↦ inr r ]
              ]),
            ),
          )
      | false ↦ λ t.
          let behind = merges next rest also others rising.0 rising.1 in (
            (is, StandsApart-merged i next rest above.0 (apart i next t), behind.0),
            λ source number. (
              λ m. elim m [ inl a ↦ inl a | inr o ↦ inr ((behind.1 source number).0 o) ],
              λ m. elim m [ inl a ↦ inl a | inr o ↦ inr ((behind.1 source number).1 o) ],
            ),
          )
    ] refl

pub merges_sorted : (first : Interval) (rest sorted : List Interval) → sorted ≡ first ∷ rest → All IsInterval sorted → AreRising sorted
    → IsJoined (merged first rest) × SameNumbers (merged first rest) sorted
merges_sorted first rest sorted is valid rising =
    let each = subst (All IsInterval) is valid in
    let above = subst AreRising is rising in
    subst (λ xs. IsJoined (merged first rest) × SameNumbers (merged first rest) xs) (sym is)
    (merges first rest (All-head IsInterval first rest each) (All-tail IsInterval first rest each) above.0 above.1)

pub Same-IsPermutation : (xs ys : List Interval) → IsPermutation xs ys → SameNumbers ys xs
Same-IsPermutation xs ys moved source number =
    let test = list_any-IsPermutation (holds source number) xs ys moved in (
      λ m. (is_member source number xs).0 (test ∙ (is_member source number ys).1 m),
      λ m. (is_member source number ys).0 (sym test ∙ (is_member source number xs).1 m),
    )

pub Same-trans : (xs ys zs : List Interval) → SameNumbers xs ys → SameNumbers ys zs → SameNumbers xs zs
Same-trans xs ys zs a b source number =
    (λ m. (b source number).0 ((a source number).0 m), λ m. (a source number).1 ((b source number).1 m))

-- the order of intervals: by source, first and last number
abbrev pub by_parts : Interval → Interval → Ordering
by_parts x y = ordering_then (by_source x.source y.source) (ordering_then (nat_cmp x.first y.first) (nat_cmp x.last y.last))

-- one part after another
by_part : (x y : Interval) → is_lt (by_parts y x) ≡ false → (x.source.server ≤ y.source.server)
    × (x.source.server ≡ y.source.server → (x.source.high ≤ y.source.high)
    × (x.source.high ≡ y.source.high → (x.source.low ≤ y.source.low) × (x.source.low ≡ y.source.low → x.first ≤ y.first)))
by_part x y is = (grind (arith, nat_tests), λ servers. (grind (arith, nat_tests), λ highs. (grind (arith, nat_tests), λ lows. grind (arith, nat_tests))))

not_below : (x y : Interval) → IsSource x.source → IsSource y.source → is_lt (by_parts y x) ≡ false
    → (rank x.source ≤ rank y.source) × (rank x.source ≡ rank y.source → x.first ≤ y.first)
unfolding rank
not_below x y x-is y-is is =
    let order = by_part x y is in
    let x-high = x-is.high in
    let x-low = x-is.low in
    let y-high = y-is.high in
    let y-low = y-is.low in
    elim (cases_lt x.source.server y.source.server) as (λ _. (rank x.source ≤ rank y.source) × (rank x.source ≡ rank y.source → x.first ≤ y.first)) [
      | inl less ↦ (omega arith, λ same. absurd (omega arith))
      | inr more ↦
          let servers : x.source.server ≡ y.source.server = omega (arith, order.0) in
          let rest = order.1 servers in
          elim (cases_lt x.source.high y.source.high) as (λ _. (rank x.source ≤ rank y.source) × (rank x.source ≡ rank y.source → x.first ≤ y.first)) [
            | inl less ↦ (omega arith, λ same. absurd (omega arith))
            | inr also ↦
                let highs : x.source.high ≡ y.source.high = omega (arith, rest.0) in
                let last = rest.1 highs in
                (omega (arith, last.0), λ same. last.1 (omega arith))
          ]
    ]

pub AreRising-sorted : (xs : List Interval) → All IsInterval xs → IsSorted by_parts xs → AreRising xs
AreRising-sorted [] each sorted = tt
AreRising-sorted (x ∷ []) each sorted = (tt, tt)
AreRising-sorted (x ∷ y ∷ xs) each sorted = (
  not_below x y (each 0 x (omega arith)).source (each 1 x (omega arith)).source (sorted 0 x (omega arith) (omega arith)),
  AreRising-sorted (y ∷ xs) (All-tail IsInterval x (y ∷ xs) each) (λ k d low high.
      let next : suc k + 1 ≡ suc (k + 1) = omega arith in
      subst (λ m. is_lt (by_parts (get_or (x ∷ y ∷ xs) m d) (get_or (y ∷ xs) k d)) ≡ false) next (sorted (suc k) d (omega arith) (omega arith))),
)
