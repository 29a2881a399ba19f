-- The names of an ENUM's and a SET's values.
use Rattle.std.proofs.Common.{inl, inr, ◌≡◌, ℕ, zero, suc, ◌-◌, ◌*◌, ◌/◌, ◌%◌, ◌^◌, ◌<◌, ◌≤◌, ◌==◌, nat_lt, nat_le, List, [], ◌∷◌, ◌++◌, Bool, true, false, ◌||◌, cond, if◌then◌else◌, length, drop, Option, Some, None, option_map, option_and_then, unwrap_or, slice_get, append_assoc, append-nil, ne_eqb, refl, ap, sym, ◌∙◌, arith}
use Rattle.std.proofs.Math.Nat.{div-eq_of_lt, pow-le-pow_right, one-le-pow}
use Rattle.std.proofs.lemmas.Bool.{cases_lt}
use Rattle.std.proofs.lemmas.Grind.{common_steps}
use Rattle.std.proofs.lemmas.Nat.{le-div}
use Rattle.std.specs.List.{join_with_byte}
use Rattle.binlog_json.specs.Json.{Data}
use Rattle.binlog_json.specs.Joining.{comma_if, joined_from}
use Rattle.binlog_json.specs.Values.{whole_number, enum_by, set_by, members_in}

pub enum_zero : (given : List ℕ → Data) (names : Option (List (List ℕ))) (count : ℕ) → Some count ≡ option_map length names → enum_by given names 0 ≡ given []
enum_zero given None count e = absurd (cc)
enum_zero given (Some names) count e = refl

pub set_named : (given : List (List ℕ) → Data) (names : Option (List (List ℕ))) (count n : ℕ) → Some count ≡ option_map length names → n < 2 ^ count
    → set_by given names n ≡ given (members_in (unwrap_or names []) n)
set_named given None count n e h = absurd (cc)
set_named given (Some names) count n e h =
    let same : count ≡ length names = cc in
    let below : nat_lt n (2 ^ length names) ≡ true = grind (arith, common_steps) in
    rw below refl

pub set_unnamed : (given : List (List ℕ) → Data) (names : Option (List (List ℕ))) (count n : ℕ) → Some count ≡ option_map length names → 2 ^ count ≤ n → set_by given names n ≡ whole_number n
set_unnamed given None count n e h = refl
set_unnamed given (Some names) count n e h =
    let same : count ≡ length names = cc in
    let above : nat_lt n (2 ^ length names) ≡ false = grind (arith, common_steps) in
    rw above refl

pub no_members_in : (names : List (List ℕ)) → members_in names 0 ≡ []
no_members_in [] = refl
no_members_in (name ∷ names) = no_members_in names

joined_later : (name : List ℕ) (names : List (List ℕ)) → joined_from true (name ∷ names) ≡ 44 ∷ join_with_byte 44 (name ∷ names)
joined_later name [] = ap (λ t. 44 ∷ t) (append-nil name)
joined_later name (next ∷ names) = ap (λ t. 44 ∷ (name ++ t)) (joined_later next names)

pub joined : (names : List (List ℕ)) → joined_from false names ≡ join_with_byte 44 names
joined [] = refl
joined (name ∷ []) = append-nil name
joined (name ∷ next ∷ names) = ap (λ t. name ++ t) (joined_later next names)

pub drop_named : (names : List (List ℕ)) (place : ℕ) (name : List ℕ) → Some name ≡ slice_get names place → drop place names ≡ name ∷ drop (suc place) names
drop_named [] place name e = absurd (cc)
drop_named (first ∷ names) zero name e = ap (λ n. n ∷ names) (cc)
drop_named (first ∷ names) (suc place) name e = drop_named names place name e

pub drop_unnamed : (names : List (List ℕ)) (place : ℕ) → None ≡ slice_get names place → drop place names ≡ []
drop_unnamed [] zero e = refl
drop_unnamed [] (suc place) e = refl
drop_unnamed (first ∷ names) zero e = absurd (cc)
drop_unnamed (first ∷ names) (suc place) e = drop_unnamed names place e

step_at : (b later : Bool) (name rest : List ℕ) (names : List (List ℕ)) → joined_from later (cond b (name ∷ names) names) ≡ cond b (comma_if later ++ name) [] ++ joined_from (b || later) names
step_at true later name rest names = sym (append_assoc (comma_if later) name (joined_from true names))
step_at false later name rest names = refl

-- one more name of the loop over them
pub member_step : (names : List (List ℕ)) (place rest : ℕ) (name : List ℕ) (later : Bool) → Some name ≡ slice_get names place
    → joined_from later (members_in (drop place names) rest)
    ≡ (if rest % 2 == 1 then comma_if later ++ name else []) ++ joined_from ((rest % 2 == 1) || later) (members_in (drop (suc place) names) (rest / 2))
member_step names place rest name later e =
    rw (drop_named names place name e) (step_at (rest % 2 == 1) later name [] (members_in (drop (suc place) names) (rest / 2)))

-- the name of a value of which the first is number 1
pub name_at : (names : Option (List (List ℕ))) (place : ℕ) → 1 ≤ place
    → option_and_then (λ ns. if place == 0 then None else slice_get ns (place - 1)) names ≡ slice_get (unwrap_or names []) (place - 1)
name_at names zero h = absurd (omega arith)
name_at None (suc place) h = refl
name_at (Some names) (suc place) h = rw (ne_eqb (suc place) 0 (λ e. absurd (omega arith))) refl

-- what was appended so far and what is to come are the whole
abbrev pub IsJoining : List ℕ → List ℕ → List (List ℕ) → ℕ → Bool → List (List ℕ) → ℕ → Type 0
IsJoining start text names number later left rest = text ++ joined_from later (members_in left rest) ≡ start ++ joined_from false (members_in names number)

ended : (start text : List ℕ) (names left : List (List ℕ)) (number rest : ℕ) (later : Bool) → IsJoining start text names number later left rest → members_in left rest ≡ []
    → text ≡ start ++ join_with_byte 44 (members_in names number)
ended start text names left number rest later h none =
    let all : text ++ joined_from later [] ≡ start ++ joined_from false (members_in names number) = rw none at h in
    sym (append-nil text) ∙ all ∙ ap (λ t. start ++ t) (joined (members_in names number))

pub ended_unnamed : (start text : List ℕ) (names : List (List ℕ)) (number rest place : ℕ) (later : Bool) → IsJoining start text names number later (drop place names) rest
    → None ≡ slice_get names place → text ≡ start ++ join_with_byte 44 (members_in names number)
ended_unnamed start text names number rest place later h none =
    ended start text names (drop place names) number rest later h (rw (drop_unnamed names place none) refl)

pub ended_zero : (start text : List ℕ) (names left : List (List ℕ)) (number rest : ℕ) (later : Bool) → IsJoining start text names number later left rest
    → rest ≡ 0 → text ≡ start ++ join_with_byte 44 (members_in names number)
ended_zero start text names left number rest later h none =
    ended start text names left number rest later h (rw none (no_members_in left))

pub joined_more : (start text new name : List ℕ) (names : List (List ℕ)) (number rest place : ℕ) (later now : Bool)
    → IsJoining start text names number later (drop place names) rest → Some name ≡ slice_get names place
    → new ≡ text ++ (if rest % 2 == 1 then comma_if later ++ name else []) → now ≡ ((rest % 2 == 1) || later)
    → IsJoining start new names number now (drop (suc place) names) (rest / 2)
joined_more start text new name names number rest place later now h named is then_later =
    rw (is, then_later, append_assoc, ← member_step names place rest name later named) h

pub half : (rest k : ℕ) → rest < 2 ^ suc k → rest / 2 < 2 ^ k
half rest k h =
    let twice : 2 ^ suc k ≡ 2 ^ k * 2 = grind (arith, common_steps) in
    omega arith

-- the answer where there are names for all bits that a value can have
pub named_all : (given : List (List ℕ) → Data) (names : Option (List (List ℕ))) (count n : ℕ) → Some count ≡ option_map length names → 64 ≤ count → n < 2 ^ 64
    → set_by given names n ≡ (if nat_le 64 count then given (members_in (unwrap_or names []) n) else whole_number n)
named_all given names count n e many fits =
    let yes : nat_le 64 count ≡ true = grind (arith, common_steps) in
    let more : 2 ^ 64 ≤ 2 ^ count = pow-le-pow_right (omega arith) many in
    rw yes (set_named given names count n e (omega arith))

pub named_some : (given : List (List ℕ) → Data) (names : Option (List (List ℕ))) (count n : ℕ) → Some count ≡ option_map length names
    → set_by given names n ≡ (if n / 2 ^ count == 0 then given (members_in (unwrap_or names []) n) else whole_number n)
named_some given names count n e = elim (cases_lt n (2 ^ count)) [
  | inl below ↦ rw (div-eq_of_lt below) (set_named given names count n e below)
  | inr above ↦
      let some : 1 ≤ n / 2 ^ count = le-div 1 n (2 ^ count) (one-le-pow count 2 (omega arith)) (omega (arith, above)) in
      rw (ne_eqb (n / 2 ^ count) 0 (λ e. absurd (omega arith))) (set_unnamed given names count n e above)
]

-- the members, one after the other
pub members_taken : (names front : List (List ℕ)) (place rest : ℕ) (name : List ℕ) (total : List (List ℕ)) → Some name ≡ slice_get names place → rest % 2 ≡ 1 → front ++ members_in (drop place names) rest ≡ total
    → (front ++ name ∷ []) ++ members_in (drop (suc place) names) (rest / 2) ≡ total
members_taken names front place rest name total named odd is =
    append_assoc front (name ∷ []) (members_in (drop (suc place) names) (rest / 2)) ∙ (rw (drop_named names place name named, odd) at is)

pub members_passed : (names front : List (List ℕ)) (place rest : ℕ) (name : List ℕ) (total : List (List ℕ)) → Some name ≡ slice_get names place → (rest % 2 ≡ 1 → ⊥) → front ++ members_in (drop place names) rest ≡ total
    → front ++ members_in (drop (suc place) names) (rest / 2) ≡ total
members_passed names front place rest name total named even is = rw (drop_named names place name named, ne_eqb (rest % 2) 1 even) at is

pub members_unnamed : (names front : List (List ℕ)) (place rest : ℕ) (total : List (List ℕ)) → None ≡ slice_get names place → front ++ members_in (drop place names) rest ≡ total → front ≡ total
members_unnamed names front place rest total none is = sym (append-nil front) ∙ (rw (drop_unnamed names place none) at is)

pub members_zero : (names front total : List (List ℕ)) (rest : ℕ) → rest ≡ 0 → front ++ members_in names rest ≡ total → front ≡ total
members_zero names front total rest none is = sym (append-nil front) ∙ (rw (none, no_members_in names) at is)
