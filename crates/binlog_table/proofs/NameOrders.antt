-- Names with their columns, and their order.
use Rattle.std.proofs.Common.{◌≡◌, ℕ, zero, suc, ◌+◌, ◌-◌, ◌<◌, Bool, true, false, List, [], ◌∷◌, ◌++◌, length, get_or, take, map, Bor, Decides, refl, sym, ap, subst, ◌∙◌, add-one, arith}
use Rattle.std.specs.Prelude.{not}
use Rattle.std.specs.List.{All, AllByRecursion, IsDistinct, range_with_len}
use Rattle.std.specs.List.Sorted.{IsPermutation, IsStrictlySortedBy}
use Rattle.std.specs.Cmp.Lexicographic.{slice_cmp}
use Rattle.std.specs.declared.cmp.Ordering.{Ordering}
use Rattle.std.specs.declared.cmp.Ordering.TheVariants.{Less, Equal, Greater}
use Rattle.std.specs.Ordering.{nat_cmp, is_lt, is_eq, ordering_then, ordering_reverse}
use Rattle.std.specs.Str.{bytes_eq}
use Rattle.std.proofs.lemmas.Bool.{true≢false, and_parts, or_parts, not-true, false_from_ne_true}
use Rattle.std.proofs.lemmas.Bool.Decides.{same_from_decides}
use Rattle.std.proofs.lemmas.Cmp.{nat_list_cmp_total}
use Rattle.std.proofs.lemmas.List.{take_more, map_push, get_or-map, length-map}
use Rattle.std.proofs.lemmas.List.Elements.{All-push}
use Rattle.std.proofs.lemmas.List.Sorted.{IsPermutation-map, IsPermutation-sym, All-permutation}
use Rattle.std.proofs.lemmas.Map.Keys.{IsDistinct-IsPermutation, IsDistinct-from_apart, apart_from_distinct, Less-from_sorted, sorted_from_all_adjacent}
use Rattle.std.proofs.lemmas.Map.Text.{is_eq-slice_cmp}
use Rattle.std.proofs.lemmas.Slice.Eq.{bytes_eq-Decides}
use Rattle.std.proofs.Math.Seq.{take-length}
use Rattle.binlog_table.specs.Names.{is_among, are_distinct}
use Rattle.binlog_table.specs.NameOrder.{name_of, IsNameOrder, name_in, column_in, AreNumbered, AreSorted}

abbrev Entry : Type 0
Entry = Bor (List ℕ) × ℕ

-- ---- numbers and names, one more

range-suc : (a n : ℕ) → range_with_len a (suc n) ≡ range_with_len a n ++ (a + n) ∷ []
range-suc a zero = let same : a ≡ a + 0 = omega arith in ap (λ (x : ℕ). x ∷ []) same
range-suc a (suc n) =
    let same : a + 1 + n ≡ a + suc n = omega arith in
    ap (λ (xs : List ℕ). a ∷ xs) (range-suc (a + 1) n ∙ ap (λ (x : ℕ). range_with_len (a + 1) n ++ x ∷ []) same)

pub numbered-more : (names : List (List ℕ)) (i : ℕ) (entries : List Entry) (name : Bor (List ℕ)) → i < length names → name_of names i ≡ name.now → AreNumbered names i entries → AreNumbered names (i + 1) (entries ++ (name, i) ∷ [])
numbered-more names i entries name lt is so_far = record {
  names_are = map_push name_in entries (name, i) ∙ ap (λ (xs : List (List ℕ)). xs ++ name.now ∷ []) so_far.names_are ∙ ap (λ (x : List ℕ). take i names ++ x ∷ []) (sym is) ∙ sym (take_more names i [] lt);
  columns_are = map_push column_in entries (name, i) ∙ ap (λ (xs : List ℕ). xs ++ i ∷ []) so_far.columns_are ∙ sym (ap (range_with_len 0) (add-one i) ∙ range-suc 0 i ∙ ap (λ (x : ℕ). range_with_len 0 i ++ x ∷ []) (omega arith));
  each = All-push (λ e. name_of names (column_in e) ≡ name_in e) entries (name, i) so_far.each is;
}

-- ---- sorting

abbrev pub entry_cmp : Entry → Entry → Ordering
entry_cmp x y = ordering_then (slice_cmp nat_cmp (name_in x) (name_in y)) (nat_cmp (column_in x) (column_in y))

first-not_lt : (a b : Ordering) → is_lt (ordering_then a b) ≡ false → is_lt a ≡ false
first-not_lt Less b h = h
first-not_lt _ b h = refl

pub sorted-from : (names : List (List ℕ)) (old new : List Entry) → AreNumbered names (length names) old → IsPermutation old new
    → ((k : ℕ) (d : Entry) → k + 1 < length new → is_lt (entry_cmp (get_or new (k + 1) d) (get_or new k d)) ≡ false) → AreSorted names new
sorted-from names old new numbered moved up = record {
  names_are = subst (λ (xs : List (List ℕ)). IsPermutation xs (map name_in new)) (numbered.names_are ∙ take-length names) (IsPermutation-map name_in old new moved);
  columns_are = subst (λ (xs : List ℕ). IsPermutation xs (map column_in new)) numbered.columns_are (IsPermutation-map column_in old new moved);
  each = All-permutation (λ e. name_of names (column_in e) ≡ name_in e) old new moved numbered.each;
  ascending = λ k lt. by_entries new up k lt;
}
  where
    by_entries : (es : List Entry) → ((k : ℕ) (d : Entry) → k + 1 < length es → is_lt (entry_cmp (get_or es (k + 1) d) (get_or es k d)) ≡ false)
        → (k : ℕ) → k + 1 < length (map name_in es) → is_lt (slice_cmp nat_cmp (name_of (map name_in es) (k + 1)) (name_of (map name_in es) k)) ≡ false
    by_entries [] up k lt = absurd (omega arith)
    by_entries (e ∷ es) up k lt =
        let less : k + 1 < length (e ∷ es) = omega (arith, length-map (e ∷ es) name_in) in
        let one = get_or-map name_in (e ∷ es) k e [] (omega arith) in
        let two = get_or-map name_in (e ∷ es) (k + 1) e [] less in
        rw (one, two) (first-not_lt (slice_cmp nat_cmp (name_in (get_or (e ∷ es) (k + 1) e)) (name_in (get_or (e ∷ es) k e))) (nat_cmp (column_in (get_or (e ∷ es) (k + 1) e)) (column_in (get_or (e ∷ es) k e))) (up k e less))

-- ---- distinct names

bytes_eq-same : (x : List ℕ) → bytes_eq x x ≡ true
bytes_eq-same x = (bytes_eq-Decides x x).1 refl

bytes_eq-flips : (x y : List ℕ) → bytes_eq x y ≡ bytes_eq y x
bytes_eq-flips x y = let other = bytes_eq-Decides y x in same_from_decides _ _ (bytes_eq-Decides x y) (λ e. sym (other.0 e), λ e. other.1 (sym e))

none_among : (x : List ℕ) (ys : List (List ℕ)) → is_among x ys ≡ false → AllByRecursion (λ y. bytes_eq x y ≡ false) ys
none_among x [] h = tt
none_among x (y ∷ ys) h = let both = or_parts (bytes_eq x y) (is_among x ys) h in (both.0, none_among x ys both.1)

among-none : (x : List ℕ) (ys : List (List ℕ)) → AllByRecursion (λ y. bytes_eq x y ≡ false) ys → is_among x ys ≡ false
among-none x [] h = refl
among-none x (y ∷ ys) h = rw h.0 (among-none x ys h.1)

pub IsDistinct-from_test : (xs : List (List ℕ)) → are_distinct xs ≡ true → IsDistinct bytes_eq xs
unfolding IsDistinct
IsDistinct-from_test [] h = tt
IsDistinct-from_test (x ∷ xs) h = let both = and_parts (not (is_among x xs)) (are_distinct xs) h in (none_among x xs (not-true (is_among x xs) both.0), IsDistinct-from_test xs both.1)

pub test-from_IsDistinct : (xs : List (List ℕ)) → IsDistinct bytes_eq xs → are_distinct xs ≡ true
unfolding IsDistinct
test-from_IsDistinct [] h = refl
test-from_IsDistinct (x ∷ xs) h = rw (among-none x xs h.0) (test-from_IsDistinct xs h.1)

pub repeated : (names : List (List ℕ)) (entries : List Entry) (k : ℕ) → AreSorted names entries → k + 1 < length (map name_in entries) → name_of (map name_in entries) k ≡ name_of (map name_in entries) (k + 1) → are_distinct names ≡ false
repeated names entries k sorted lt same = false_from_ne_true (are_distinct names) (λ e.
    let distinct = IsDistinct-IsPermutation bytes_eq bytes_eq-flips names (map name_in entries) sorted.names_are (IsDistinct-from_test names e) in
    let apart = apart_from_distinct bytes_eq (map name_in entries) k (k + 1) [] distinct (omega arith) lt in
    true≢false (sym (bytes_eq-same (name_of (map name_in entries) k)) ∙ ap (bytes_eq (name_of (map name_in entries) k)) same ∙ apart))

less-from : (a b : List ℕ) → is_lt (slice_cmp nat_cmp b a) ≡ false → (a ≡ b → ⊥) → slice_cmp nat_cmp a b ≡ Less
less-from a b not_less differ = by_order (slice_cmp nat_cmp b a) refl not_less
  where
    by_order : (o : Ordering) → slice_cmp nat_cmp b a ≡ o → is_lt o ≡ false → slice_cmp nat_cmp a b ≡ Less
    by_order Less e h = absurd cc
    by_order Equal e h = absurd (differ (sym ((bytes_eq-Decides b a).0 (sym (is_eq-slice_cmp b a) ∙ ap is_eq e))))
    by_order Greater e h = nat_list_cmp_total.antisymm a b ∙ ap ordering_reverse e

module _ (names : List (List ℕ)) (entries : List Entry) (sorted : AreSorted names entries) (differ : (k : ℕ) → k + 1 < length (map name_in entries) → name_of (map name_in entries) k ≡ name_of (map name_in entries) (k + 1) → ⊥) where
  rising : IsStrictlySortedBy (slice_cmp nat_cmp) (map name_in entries)
  rising = sorted_from_all_adjacent nat_list_cmp_total (map name_in entries) [] (λ k lt. less-from (name_of (map name_in entries) k) (name_of (map name_in entries) (k + 1)) (sorted.ascending k lt) (differ k lt))

  pub order-distinct : are_distinct names ≡ true
  order-distinct =
      let apart = IsDistinct-from_apart bytes_eq (map name_in entries) (λ i j d lt lt'. sym (is_eq-slice_cmp (get_or (map name_in entries) i d) (get_or (map name_in entries) j d)) ∙ ap is_eq (Less-from_sorted (slice_cmp nat_cmp) (map name_in entries) i j d rising lt lt')) in
      test-from_IsDistinct names (IsDistinct-IsPermutation bytes_eq bytes_eq-flips (map name_in entries) names (IsPermutation-sym names (map name_in entries) sorted.names_are) apart)

  names-by_columns : (es : List Entry) → All (λ e. name_of names (column_in e) ≡ name_in e) es → map (name_of names) (map column_in es) ≡ map name_in es
  names-by_columns [] h = refl
  names-by_columns (e ∷ es) h =
      let first : name_of names (column_in e) ≡ name_in e = h 0 e (omega arith) in
      let others = names-by_columns es (λ k d lt. h (suc k) d (omega arith)) in
      ap (λ (x : List ℕ). x ∷ map (name_of names) (map column_in es)) first ∙ ap (λ (xs : List (List ℕ)). name_in e ∷ xs) others

  pub order-is : IsNameOrder names (map column_in entries)
  order-is = record {
    each = sorted.columns_are;
    ascending = subst (IsStrictlySortedBy (slice_cmp nat_cmp)) (sym (names-by_columns entries sorted.each)) rising;
  }

-- ---- as the loop meets them

pub same-names : (entries : List Entry) (i j : ℕ) (d e : Entry) (test : Bool) → i < length entries → j < length entries → test ≡ bytes_eq (name_in (get_or entries i d)) (name_in (get_or entries j e))
    → Decides test (name_of (map name_in entries) i ≡ name_of (map name_in entries) j)
same-names entries i j d e test lt lt' is =
    let one = get_or-map name_in entries i d [] lt in
    let two = get_or-map name_in entries j e [] lt' in
    let by_names : test ≡ bytes_eq (name_of (map name_in entries) i) (name_of (map name_in entries) j) = rw (one, two) is in
    subst (λ (b : Bool). Decides b (name_of (map name_in entries) i ≡ name_of (map name_in entries) j)) (sym by_names) (bytes_eq-Decides (name_of (map name_in entries) i) (name_of (map name_in entries) j))

pub sorted-more : (entries : List Entry) (i : ℕ) (d : Entry) (columns : List ℕ) → i < length entries → columns ≡ map column_in (take i entries) → columns ++ column_in (get_or entries i d) ∷ [] ≡ map column_in (take (i + 1) entries)
sorted-more entries i d columns lt so_far =
    let more = map_push column_in (take i entries) (get_or entries i d) ∙ ap (λ (xs : List ℕ). xs ++ column_in (get_or entries i d) ∷ []) (sym so_far) in
    sym (ap (map column_in) (take_more entries i d lt) ∙ more)

pub repeated-at : (names : List (List ℕ)) (entries : List Entry) (place : ℕ) → AreSorted names entries → 0 < place → place < length entries → name_of (map name_in entries) (place - 1) ≡ name_of (map name_in entries) place → are_distinct names ≡ false
repeated-at names entries place sorted some lt same =
    let next : place ≡ place - 1 + 1 = omega arith in
    repeated names entries (place - 1) sorted (omega (arith, length-map entries name_in)) (same ∙ ap (name_of (map name_in entries)) next)
