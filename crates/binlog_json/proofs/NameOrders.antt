-- The columns of an image, from the left and in the order of their names.
use Rattle.std.proofs.Common.{◌≡◌, ◌⊎◌, ℕ, List, [], ◌∷◌, length, map, Bool, true, false, cond, Less, Greater, refl, ap, sym, subst, ◌∙◌}
use mathlib.Core.Logic.{inl, inr}
use Rattle.std.specs.Prelude.{⊤}
use Rattle.std.specs.List.{fold, range_with_len, AllByRecursion}
use Rattle.std.specs.List.Sorted.{IsStrictlySortedBy}
use Rattle.std.specs.Ordering.{nat_cmp}
use Rattle.std.specs.Cmp.Lexicographic.{slice_cmp}
use Rattle.binlog_json.specs.Json.{Data, Members, member, no_members, put}
use Rattle.binlog_table.specs.RowImage.{RowImage}
use Rattle.binlog_table.specs.NameOrder.{IsNameOrder, name_of}
use Rattle.binlog_json.specs.Values.{is_absent}
use Rattle.binlog_json.specs.Images.{cell_in, put_column_by, members_by}
use Rattle.binlog_json.specs.Listed.{listed_by}
use Rattle.binlog_json.proofs.Folding.{same_fold}
use Rattle.binlog_json.proofs.Putting.{put_turn, below_above, not_below_itself}

abbrev In : ℕ → List ℕ → Type 0
In x [] = ⊥
In x (y ∷ ys) = (x ≡ y) ⊎ In x ys

all_in : (zs ys : List ℕ) → ((x : ℕ) → In x zs → In x ys) → AllByRecursion (λ x. In x ys) zs
all_in [] ys h = tt
all_in (z ∷ zs) ys h = (h z (inl refl), all_in zs ys (λ x i. h x (inr i)))

-- the names of these columns ascend
abbrev Ascend : List (List ℕ) → List ℕ → Type 0
Ascend names order = IsStrictlySortedBy (slice_cmp nat_cmp) (map (name_of names) order)

below_in : (names : List (List ℕ)) (first : List ℕ) (order : List ℕ) (x : ℕ) → AllByRecursion (λ y. slice_cmp nat_cmp first y ≡ Less) (map (name_of names) order) → In x order
    → slice_cmp nat_cmp first (name_of names x) ≡ Less
below_in names first [] x all i = absurd i
below_in names first (z ∷ order) x all (inl e) = subst (λ y. slice_cmp nat_cmp first (name_of names y) ≡ Less) (sym e) all.0
below_in names first (z ∷ order) x all (inr i) = below_in names first order x all.1 i

same_name : (names : List (List ℕ)) (order : List ℕ) (x y : ℕ) → Ascend names order → In x order → In y order → name_of names x ≡ name_of names y → x ≡ y
unfolding IsStrictlySortedBy
same_name names [] x y sorted i j e = absurd i
same_name names (z ∷ order) x y sorted (inl i) (inl j) e = i ∙ sym j
same_name names (z ∷ order) x y sorted (inl i) (inr j) e =
    let less : slice_cmp nat_cmp (name_of names z) (name_of names y) ≡ Less = below_in names (name_of names z) order y sorted.0 j in
    let same : name_of names z ≡ name_of names y = ap (name_of names) (sym i) ∙ e in
    absurd (not_below_itself (name_of names y) (subst (λ n. slice_cmp nat_cmp n (name_of names y) ≡ Less) same less))
same_name names (z ∷ order) x y sorted (inr i) (inl j) e =
    let less : slice_cmp nat_cmp (name_of names z) (name_of names x) ≡ Less = below_in names (name_of names z) order x sorted.0 i in
    let same : name_of names z ≡ name_of names x = ap (name_of names) (sym j) ∙ sym e in
    absurd (not_below_itself (name_of names x) (subst (λ n. slice_cmp nat_cmp n (name_of names x) ≡ Less) same less))
same_name names (z ∷ order) x y sorted (inr i) (inr j) e = same_name names order x y sorted.1 i j e

turn_at : (a b : Bool) (k l : List ℕ) (d e : Data) (ms : Members) → (k ≡ l → d ≡ e)
    → cond b (cond a ms (put k d ms)) (put l e (cond a ms (put k d ms))) ≡ cond a (cond b ms (put l e ms)) (put k d (cond b ms (put l e ms)))
turn_at true true k l d e ms same = refl
turn_at true false k l d e ms same = refl
turn_at false true k l d e ms same = refl
turn_at false false k l d e ms same = put_turn k l d e ms same

-- members with the column's, unless it is left out
abbrev pub put_by : (ℕ → Bool) → (ℕ → Data) → List (List ℕ) → Members → ℕ → Members
put_by left_out f names ms column = cond (left_out column) ms (put (name_of names column) (f column) ms)

-- the members of these columns, in their order
abbrev pub list_by : (ℕ → Bool) → (ℕ → Data) → List (List ℕ) → List ℕ → Members
list_by left_out f names [] = no_members
list_by left_out f names (column ∷ columns) = cond (left_out column) (list_by left_out f names columns) (member (name_of names column) (f column) (list_by left_out f names columns))

turn : (left_out : ℕ → Bool) (f : ℕ → Data) (names : List (List ℕ)) (order : List ℕ) → IsNameOrder names order → (ms : Members) (x y : ℕ) → In x order → In y order
    → put_by left_out f names (put_by left_out f names ms x) y ≡ put_by left_out f names (put_by left_out f names ms y) x
turn left_out f names order is ms x y i j =
    turn_at (left_out x) (left_out y) (name_of names x) (name_of names y) (f x) (f y) ms (λ e. ap f (same_name names order x y is.ascending i j e))

-- put in the order of the names, the columns give the same members
members-ordered : (left_out : ℕ → Bool) (f : ℕ → Data) (names : List (List ℕ)) (order : List ℕ) → IsNameOrder names order
    → fold (put_by left_out f names) no_members (range_with_len 0 (length names)) ≡ fold (put_by left_out f names) no_members order
members-ordered left_out f names order is =
    same_fold (put_by left_out f names) (λ x. In x order) (turn left_out f names order is) (range_with_len 0 (length names)) order no_members is.each (all_in order order (λ x i. i))

-- ---- put in the order of their names, members stand in that order

abbrev joined : Members → Members → Members
joined no_members more = more
joined (member k d ms) more = member k d (joined ms more)

-- the name is above each name of the members
abbrev IsAbove : List ℕ → Members → Type 0
IsAbove name no_members = ⊤
IsAbove name (member k d ms) = (slice_cmp nat_cmp name k ≡ Greater) × IsAbove name ms

abbrev AreAbove : List (List ℕ) → List ℕ → Members → Type 0
AreAbove names [] ms = ⊤
AreAbove names (c ∷ cs) ms = IsAbove (name_of names c) ms × AreAbove names cs ms

put_last : (name : List ℕ) (d : Data) (ms : Members) → IsAbove name ms → put name d ms ≡ joined ms (member name d no_members)
put_last name d no_members h = refl
put_last name d (member k e ms) h = rw h.0 (ap (member k e) (put_last name d ms h.1))

above_joined : (name k : List ℕ) (d : Data) (ms : Members) → IsAbove name ms → slice_cmp nat_cmp name k ≡ Greater → IsAbove name (joined ms (member k d no_members))
above_joined name k d no_members h more = (more, tt)
above_joined name k d (member l e ms) h more = (h.0, above_joined name k d ms h.1 more)

are_above_joined : (names : List (List ℕ)) (cs : List ℕ) (k : List ℕ) (d : Data) (ms : Members) → AreAbove names cs ms
    → AllByRecursion (λ y. slice_cmp nat_cmp k y ≡ Less) (map (name_of names) cs) → AreAbove names cs (joined ms (member k d no_members))
are_above_joined names [] k d ms h more = tt
are_above_joined names (c ∷ cs) k d ms h more =
    (above_joined (name_of names c) k d ms h.0 (below_above k (name_of names c) more.0), are_above_joined names cs k d ms h.1 more.1)

joined_twice : (ms : Members) (k : List ℕ) (d : Data) (more : Members) → joined (joined ms (member k d no_members)) more ≡ joined ms (member k d more)
joined_twice no_members k d more = refl
joined_twice (member l e ms) k d more = ap (member l e) (joined_twice ms k d more)

joined_none : (ms : Members) → joined ms no_members ≡ ms
joined_none no_members = refl
joined_none (member k d ms) = ap (member k d) (joined_none ms)

put_all_at : (left_out : ℕ → Bool) (f : ℕ → Data) (b : Bool) (names : List (List ℕ)) (c : ℕ) (cs : List ℕ) (ms : Members)
    → ((ns : Members) → AreAbove names cs ns → fold (put_by left_out f names) ns cs ≡ joined ns (list_by left_out f names cs)) → AreAbove names (c ∷ cs) ms
    → AllByRecursion (λ y. slice_cmp nat_cmp (name_of names c) y ≡ Less) (map (name_of names) cs)
    → fold (put_by left_out f names) (cond b ms (put (name_of names c) (f c) ms)) cs
    ≡ joined ms (cond b (list_by left_out f names cs) (member (name_of names c) (f c) (list_by left_out f names cs)))
put_all_at left_out f true names c cs ms rest h above = rest ms h.1
put_all_at left_out f false names c cs ms rest h above =
    let k = name_of names c in
    let d = f c in
    rw (put_last k d ms h.0)
    (rest (joined ms (member k d no_members)) (are_above_joined names cs k d ms h.1 above) ∙ joined_twice ms k d (list_by left_out f names cs))

put_all : (left_out : ℕ → Bool) (f : ℕ → Data) (names : List (List ℕ)) (cs : List ℕ) (ms : Members) → Ascend names cs → AreAbove names cs ms
    → fold (put_by left_out f names) ms cs ≡ joined ms (list_by left_out f names cs)
unfolding IsStrictlySortedBy
put_all left_out f names [] ms order h = sym (joined_none ms)
put_all left_out f names (c ∷ cs) ms order h = put_all_at left_out f (left_out c) names c cs ms (λ ns above. put_all left_out f names cs ns order.1 above) h order.0

none_above : (names : List (List ℕ)) (cs : List ℕ) → AreAbove names cs no_members
none_above names [] = tt
none_above names (c ∷ cs) = (tt, none_above names cs)

-- the columns that aren't left out give members in the order of their names, whatever their values are
pub names-listed : (left_out : ℕ → Bool) (f : ℕ → Data) (names : List (List ℕ)) (order : List ℕ) → IsNameOrder names order
    → fold (put_by left_out f names) no_members (range_with_len 0 (length names)) ≡ list_by left_out f names order
names-listed left_out f names order is =
    members-ordered left_out f names order is ∙ put_all left_out f names order no_members is.ascending (none_above names order)

abbrev absent_in : RowImage → ℕ → Bool
absent_in image column = is_absent (cell_in image column)

listed_is : (f : ℕ → Data) (image : RowImage) (columns : List ℕ) → list_by (absent_in image) f image.table.names columns ≡ listed_by f image columns
listed_is f image [] = refl
listed_is f image (c ∷ cs) = ap (λ (ms : Members). cond (is_absent (cell_in image c)) ms (member (name_of image.table.names c) (f c) ms)) (listed_is f image cs)

-- an image has the members of its present columns, in the order of their names
pub members-listed : (f : ℕ → Data) (image : RowImage) (order : List ℕ) → IsNameOrder image.table.names order → members_by f image ≡ listed_by f image order
members-listed f image order is = names-listed (absent_in image) f image.table.names order is ∙ listed_is f image order
