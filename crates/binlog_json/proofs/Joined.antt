-- The members of a SET, joined one by one.
use Rattle.std.proofs.Common.{◌≡◌, ℕ, List, [], ◌∷◌, ◌++◌, Bool, true, false, cond, Option, Some, None, option_map, option_and_then, append_assoc, append-nil, refl, ap, sym, ◌∙◌}
use Rattle.binlog_json.specs.Encodings.{joined_by}
use Rattle.binlog_json.specs.Reading.{IsRead}
use Rattle.binlog_json.proofs.Decoding.{behind}

-- something between, where a member stands before it
abbrev pub between_if : Bool → List ℕ → List ℕ
between_if later between = cond later between []

-- each behind what stands between, where a member stands before it
abbrev pub joined_behind : Bool → List ℕ → List (List ℕ) → List ℕ
joined_behind later between [] = []
joined_behind later between (first ∷ more) = between_if later between ++ (first ++ joined_behind true between more)

behind_first : (between first : List ℕ) (more : List (List ℕ)) → first ++ joined_behind true between more ≡ joined_by between (first ∷ more)
behind_first between first [] = append-nil first
behind_first between first (second ∷ more) = ap (λ (l : List ℕ). first ++ (between ++ l)) (behind_first between second more)

pub joined : (between : List ℕ) (members : List (List ℕ)) → joined_behind false between members ≡ joined_by between members
joined between [] = refl
joined between (first ∷ more) = behind_first between first more

pub join_end : (between front old : List ℕ) (later : Bool) (left members : List (List ℕ)) → left ≡ [] → front ++ joined_behind later between left ≡ old ++ joined_behind false between members → front ≡ old ++ joined_by between members
join_end between front old later left members none e = sym (append-nil front) ∙ (rw none at e) ∙ ap (λ (l : List ℕ). old ++ l) (joined between members)

-- ---- those that are read

abbrev comma : List ℕ
comma = 44 ∷ []

pub read_more : (front text new : List ℕ) (later : Bool) (o : Option (List ℕ)) (rest : Option (List (List ℕ))) (total : Option (List ℕ)) → text ≡ front ++ between_if later comma → IsRead text new o true
    → behind front (option_map (joined_behind later comma) (option_and_then (λ t. option_map (λ ts. t ∷ ts) rest) o)) ≡ total → behind new (option_map (joined_behind true comma) rest) ≡ total
read_more front text new later None rest total p r e = absurd (cc)
read_more front text new later (Some t) None total p r e = e
read_more front text new later (Some t) (Some ts) total p r e =
    let left = joined_behind true comma ts in
    ap (λ (l : List ℕ). Some (l ++ left)) r.1 ∙ ap (λ (l : List ℕ). Some ((l ++ t) ++ left)) p
    ∙ ap Some (append_assoc (front ++ between_if later comma) t left ∙ append_assoc front (between_if later comma) (t ++ left)) ∙ e

pub read_end : (old front : List ℕ) (o : Option (List (List ℕ))) → behind front (Some []) ≡ behind old (option_map (joined_behind false comma) o) → IsRead old front (option_map (joined_by comma) o) true
read_end old front None e = absurd (cc)
read_end old front (Some texts) e =
    let same : front ++ [] ≡ old ++ joined_behind false comma texts = cc in
    (refl, sym (append-nil front) ∙ same ∙ ap (λ (l : List ℕ). old ++ l) (joined comma texts))
