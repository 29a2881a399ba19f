-- The last parts of paths that are written out.
use Rattle.std.proofs.Common.{◌≡◌, ℕ, zero, suc, ◌+◌, ◌-◌, ◌<◌, ◌==◌, Bool, true, false, List, [], ◌∷◌, ◌++◌, length, drop, refl, sym, ap, append_assoc, ◌∙◌, arith, inl, inr, true≢false, eqb-true}
use Rattle.std.specs.Prelude.{slice_index, ◌≢◌}
use Rattle.std.specs.List.{list_any}
use Rattle.std.proofs.lemmas.Bool.{eqb-false}
use Rattle.std.proofs.lemmas.List.{length-append, get_or-append-add, drop_at}
use Rattle.std.proofs.lemmas.List.Folds.{list_any_at}
use Rattle.binlog_frame.specs.Files.{AreLastParts, IsLastPart}
use Rattle.binlog_frame.specs.Logs.{item_at}

-- a name in which no slash is found has none
pub no_slash : (name : List ℕ) → list_any (λ byte. byte == 47) name ≡ false → (i : ℕ) → i < length name → slice_index name i ≢ 47
no_slash name none i lt is_slash = true≢false (sym (list_any_at (λ byte. byte == 47) name i 0 lt (ap (λ byte. byte == 47) is_slash)) ∙ none)

-- what a path ends in
pub ends_so : (path name : List ℕ) → IsLastPart path name → drop (length path - length name) path ≡ name
ends_so path name (bare, inl e) =
    let none : length path - length name ≡ 0 = omega (arith, ap length e) in
    ap (λ k. drop k path) none ∙ e
ends_so path name (bare, inr (front, e)) =
    let n = ap length e ∙ length-append front (47 ∷ name) in
    let k : length path - length name ≡ length (front ++ 47 ∷ []) = omega (arith, n, length-append front (47 ∷ [])) in
    let split : path ≡ (front ++ 47 ∷ []) ++ name = e ∙ simp append_assoc in
    ap (λ p. drop (length path - length name) p) split ∙ drop_at (front ++ 47 ∷ []) name _ (sym k)

-- a path without a slash has no other last part than itself
pub is_whole : (path name : List ℕ) → list_any (λ byte. byte == 47) path ≡ false → IsLastPart path name → path ≡ name
is_whole path name none (bare, inl e) = e
is_whole path name none (bare, inr (front, e)) =
    let lt : length front < length path = omega (arith, ap length e, length-append front (47 ∷ name)) in
    let last : length front ≡ length front + 0 = omega arith in
    let at : slice_index path (length front) ≡ 47 =
    ap (λ p. slice_index p (length front)) e ∙ (ap (slice_index (front ++ 47 ∷ name)) last ∙ get_or-append-add front (47 ∷ name) 0 0) in
    absurd (no_slash path none (length front) lt at)

-- what holds of the first path holds of each before the second
pub first_of : (P : ℕ → Type 0) → P 0 → (k : ℕ) → k < 1 → P k
first_of P p zero lt = p
first_of P p (suc k) lt = absurd (omega (arith, lt))

-- ---- each path has a last part

no_more_slash : (byte : ℕ) (name : List ℕ) → byte ≢ 47 → ((i : ℕ) → i < length name → slice_index name i ≢ 47) → (i : ℕ) → i < length (byte ∷ name) → slice_index (byte ∷ name) i ≢ 47
no_more_slash byte name other bare zero lt = other
no_more_slash byte name other bare (suc i) lt = bare i (omega (arith, lt))

-- a byte in front of a path
one_further : (byte : ℕ) (path name : List ℕ) (is : Bool) → (byte == 47) ≡ is → IsLastPart path name → (longer : List ℕ) × IsLastPart (byte ∷ path) longer
one_further byte path name is test (bare, inr (front, e)) = (name, (bare, inr (byte ∷ front, ap (λ p. byte ∷ p) e)))
one_further byte path name true test (bare, inl e) =
    let slash = eqb-true byte 47 test in
    (name, (bare, inr ([], ap (λ b. b ∷ path) slash ∙ ap (λ p. 47 ∷ p) e)))
one_further byte path name false test (bare, inl e) = (byte ∷ name, (no_more_slash byte name (eqb-false byte 47 test) bare, inl (ap (λ p. byte ∷ p) e)))

some_last_part : (path : List ℕ) → (name : List ℕ) × IsLastPart path name
some_last_part [] = ([], (λ i lt. absurd (omega (arith, lt)), inl refl))
some_last_part (byte ∷ path) = let (name, part) = some_last_part path in one_further byte path name (byte == 47) refl part

pub some_last_parts : (paths : List (List ℕ)) → (names : List (List ℕ)) × AreLastParts paths names
some_last_parts [] = ([], (refl, λ i lt. absurd (omega (arith, lt))))
some_last_parts (path ∷ more) =
    let (name, part) = some_last_part path in
    let (names, parts) = some_last_parts more in
    (name ∷ names, (ap suc parts.0, at name names part parts.1))
  where
    at : (name : List ℕ) (names : List (List ℕ)) → IsLastPart path name → ((i : ℕ) → i < length more → IsLastPart (item_at more i) (item_at names i))
        → (i : ℕ) → i < length (path ∷ more) → IsLastPart (item_at (path ∷ more) i) (item_at (name ∷ names) i)
    at name names part parts zero lt = part
    at name names part parts (suc i) lt = parts i (omega (arith, lt))
