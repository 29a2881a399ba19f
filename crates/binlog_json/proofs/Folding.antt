-- A fold over two lists with the same elements, whose steps may change places.
use Rattle.std.proofs.Common.{◌≡◌, ℕ, ◌+◌, ◌<◌, ◌==◌, List, [], ◌∷◌, ◌++◌, Bool, true, false, cond, eqb-true, eq-eqb, refl, ap, sym, subst, ◌∙◌, arith}
use Rattle.std.specs.List.{fold, sum_by, AllByRecursion}
use Rattle.std.specs.List.Sorted.{IsPermutation}
use Rattle.std.proofs.lemmas.List.Sums.{sum_by-cons}
use Rattle.std.proofs.lemmas.List.Sorted.{sum_by-IsPermutation}

abbrev one_if : Bool → ℕ
one_if b = cond b 1 0

-- how often a number stands in a list
abbrev count : ℕ → List ℕ → ℕ
count x ys = sum_by (λ y. one_if (x == y)) ys

count_cons : (x y : ℕ) (ys : List ℕ) → count x (y ∷ ys) ≡ one_if (x == y) + count x ys
count_cons x y ys = sum_by-cons (λ z. cond (x == z) 1 0) y ys

itself : (x : ℕ) → (x == x) ≡ true
itself x = eq-eqb x x refl

record Found (x : ℕ) (ys : List ℕ) : Type 0 where
  front : List ℕ
  back : List ℕ
  is : ys ≡ front ++ x ∷ back

found_at : (b : Bool) (x y : ℕ) (ys : List ℕ) → (x == y) ≡ b → 0 < one_if b + count x ys → (0 < count x ys → Found x ys) → Found x (y ∷ ys)
found_at true x y ys e some rest = record { front = []; back = ys; is = ap (λ z. z ∷ ys) (sym (eqb-true x y e)) }
found_at false x y ys e some rest =
    let r = rest (omega arith) in
    record { front = y ∷ r.front; back = r.back; is = ap (λ l. y ∷ l) r.is }

found : (x : ℕ) (ys : List ℕ) → 0 < count x ys → Found x ys
found x [] some = absurd (omega arith)
found x (y ∷ ys) some = found_at (x == y) x y ys refl (subst (λ n. 0 < n) (count_cons x y ys) some) (found x ys)

-- an element in the middle counts as at the front
count_middle : (z x : ℕ) (front back : List ℕ) → count z (front ++ x ∷ back) ≡ one_if (z == x) + count z (front ++ back)
count_middle z x [] back = count_cons z x back
count_middle z x (y ∷ front) back =
    let whole = count_cons z y (front ++ x ∷ back) in
    let less = count_cons z y (front ++ back) in
    let rest = count_middle z x front back in
    omega (arith, whole, less, rest)

module _ {B : Type 0} (f : B → ℕ → B) (P : ℕ → Type 0) (turn : (b : B) (x y : ℕ) → P x → P y → f (f b x) y ≡ f (f b y) x) where
  without : (front : List ℕ) (x : ℕ) (back : List ℕ) → AllByRecursion P (front ++ x ∷ back) → P x × AllByRecursion P (front ++ back)
  without [] x back all = all
  without (y ∷ front) x back all =
      let rest = without front x back all.1 in
      (rest.0, (all.0, rest.1))

  front_first : (front : List ℕ) (x : ℕ) (back : List ℕ) (s : B) → AllByRecursion P (front ++ x ∷ back) → fold f s (front ++ x ∷ back) ≡ fold f (f s x) (front ++ back)
  front_first [] x back s all = refl
  front_first (y ∷ front) x back s all =
      front_first front x back (f s y) all.1 ∙ ap (λ t. fold f t (front ++ back)) (turn s y x all.0 (without front x back all.1).0)

  same_counts : (xs ys : List ℕ) (s : B) → ((z : ℕ) → count z xs ≡ count z ys) → AllByRecursion P ys → fold f s xs ≡ fold f s ys
  same_counts [] [] s same all = refl
  same_counts [] (y ∷ ys) s same all =
      let one : one_if (y == y) ≡ 1 = rw (itself y) refl in
      let some = count_cons y y ys in
      let none : 0 ≡ count y (y ∷ ys) = same y in
      absurd (omega (arith, one, some, none))
  same_counts (x ∷ xs) ys s same all =
      let one : one_if (x == x) ≡ 1 = rw (itself x) refl in
      let here = count_cons x x xs in
      let place = found x ys (let e = same x in omega (arith, one, here, e)) in
      let left = without place.front x place.back (subst (AllByRecursion P) place.is all) in
      let counts : (z : ℕ) → count z xs ≡ count z (place.front ++ place.back) = λ z.
      let whole = count_middle z x place.front place.back in
      let first = count_cons z x xs in
      let e : count z (x ∷ xs) ≡ count z (place.front ++ x ∷ place.back) = same z ∙ ap (count z) place.is in
      omega (arith, whole, first, e) in
      same_counts xs (place.front ++ place.back) (f s x) counts left.1
      ∙ sym (front_first place.front x place.back s (subst (AllByRecursion P) place.is all))
      ∙ ap (fold f s) (sym place.is)

  pub same_fold : (xs ys : List ℕ) (s : B) → IsPermutation xs ys → AllByRecursion P ys → fold f s xs ≡ fold f s ys
  same_fold xs ys s p all = same_counts xs ys s (λ z. sym (sum_by-IsPermutation (λ y. one_if (z == y)) xs ys p)) all
