-- What may be there, one after another.
use Rattle.std.proofs.Common.{◌≡◌, ℕ, suc, ◌+◌, ◌-◌, ◌<◌, ◌≤◌, Bool, true, false, cond, Option, Some, None, option_map, option_and_then, is_some, refl, sym, ap, ◌∙◌, arith}

pub and_then_ok : {A B : Type 0} (o : Option A) (f : A → Option B) (y : B) → option_and_then f o ≡ Some y → (x : A) × (o ≡ Some x) × (f x ≡ Some y)
and_then_ok None f y e = absurd cc
and_then_ok (Some x) f y e = (x, refl, e)

pub map_ok : {A B : Type 0} (o : Option A) (f : A → B) (y : B) → option_map f o ≡ Some y → (x : A) × (o ≡ Some x) × (f x ≡ y)
map_ok None f y e = absurd cc
map_ok (Some x) f y e = (x, refl, cc)

-- a guard that let a value through
pub guarded : {A : Type 0} (b : Bool) (o : Option A) (y : A) → cond b o None ≡ Some y → (b ≡ true) × (o ≡ Some y)
guarded true o y e = (refl, e)
guarded false o y e = absurd cc

pub and_then_assoc : {A B C : Type 0} (f : A → Option B) (g : B → Option C) (o : Option A) → option_and_then g (option_and_then f o) ≡ option_and_then (λ x. option_and_then g (f x)) o
and_then_assoc f g None = refl
and_then_assoc f g (Some x) = refl

-- a map as a step that is always taken
pub map-then : {A B : Type 0} (f : A → B) (o : Option A) → option_map f o ≡ option_and_then (λ x. Some (f x)) o
map-then f None = refl
map-then f (Some x) = refl

pub is_some-map : {A B : Type 0} (f : A → B) (o : Option A) → is_some (option_map f o) ≡ is_some o
is_some-map f None = refl
is_some-map f (Some x) = refl

-- the first step of a whole was not taken, or went well
pub stops_at : {A B : Type 0} (o : Option A) (f : A → Option B) (total : Option B) → None ≡ o → option_and_then f o ≡ total → None ≡ total
stops_at None f total h so_far = so_far
stops_at (Some x) f total h so_far = absurd cc

pub goes_on : {A B : Type 0} (o : Option A) (x : A) (f : A → Option B) (total : Option B) → Some x ≡ o → option_and_then f o ≡ total → f x ≡ total
goes_on {A = A} o x f total h so_far = ap (λ (p : Option A). option_and_then f p) h ∙ so_far

-- a count of steps, of which i are done
module _ {S : Type 0} (step : S → Option S) (all : ℕ → S → Option S) where
  pub steps-next : ((n : ℕ) (s : S) → all (suc n) s ≡ option_and_then (all n) (step s)) → (count i : ℕ) (s : S) (total : Option S) → i < count → all (count - i) s ≡ total → option_and_then (all (count - (i + 1))) (step s) ≡ total
  steps-next next count i s total lt so_far = let k : count - i ≡ suc (count - (i + 1)) = omega arith in sym (next (count - (i + 1)) s) ∙ (rw k at so_far)

  pub steps-done : ((s : S) → all 0 s ≡ Some s) → (count i : ℕ) (s : S) (total : Option S) → count ≤ i → all (count - i) s ≡ total → Some s ≡ total
  steps-done done count i s total le so_far = let k : count - i ≡ 0 = omega arith in sym (done s) ∙ (rw k at so_far)
