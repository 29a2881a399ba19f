-- The FLOATs of a VECTOR, one behind another.
use Rattle.std.proofs.Common.{◌≡◌, ◌≤◌, ◌<◌, ℕ, List, [], ◌∷◌, ◌++◌, length, take, drop, Bool, true, false, Option, Some, None, option_map, option_and_then, refl, sym, ap, subst, ◌∙◌, arith, true≢false, IsAscii}
use Rattle.std.proofs.lemmas.List.{append_assoc}
use Rattle.std.proofs.lemmas.Str.{IsAscii-append}
use Rattle.std.proofs.lemmas.Str.Ascii.{IsAscii-nil, IsAscii-cons}
use Rattle.serde_json.specs.Written.{comma_if}
use Rattle.float_text.specs.Stored.{stored_text, AppendsNumber}
use Rattle.binlog_json.specs.Encodings.{joined_by}
use Rattle.binlog_json.specs.FullValues.{float_texts, vector_text}
use Rattle.binlog_json.specs.Reading.{IsRead}

-- a text that comes behind what stands there
abbrev pub behind : List ℕ → Option (List ℕ) → Option (List ℕ)
behind front text = option_map (λ more. front ++ more) text

-- ---- texts that the code appends one by one, each with its comma in front, and the bracket behind them

abbrev pub ending : Bool → List (List ℕ) → List ℕ
ending later [] = 93 ∷ []
ending later (text ∷ more) = comma_if later ++ (text ++ ending true more)

ending_joins : (texts : List (List ℕ)) → ending false texts ≡ joined_by (44 ∷ []) texts ++ 93 ∷ []
ending_joins [] = refl
ending_joins (text ∷ []) = refl
ending_joins (text ∷ (next ∷ more)) =
    ap (λ (behind_it : List ℕ). text ++ 44 ∷ behind_it) (ending_joins (next ∷ more)) ∙ sym (append_assoc text (44 ∷ joined_by (44 ∷ []) (next ∷ more)) (93 ∷ []))

abbrev pub floats_text : Bool → List ℕ → Option (List ℕ)
floats_text later bytes = option_map (ending later) (float_texts bytes)

-- the FLOAT at the front
first_float : (later : Bool) (bytes : List ℕ) → 4 ≤ length bytes
    → floats_text later bytes ≡ option_and_then (λ text. option_map (λ more. comma_if later ++ (text ++ more)) (floats_text true (drop 4 bytes))) (stored_text (take 4 bytes))
unfolding float_texts
first_float later (a ∷ (b ∷ (c ∷ (d ∷ bytes)))) h = by_texts (stored_text (a ∷ b ∷ c ∷ d ∷ [])) (float_texts bytes)
  where
    by_texts : (first : Option (List ℕ)) (others : Option (List (List ℕ)))
        → option_map (ending later) (option_and_then (λ text. option_map (λ more. text ∷ more) others) first)
        ≡ option_and_then (λ text. option_map (λ more. comma_if later ++ (text ++ more)) (option_map (ending true) others)) first
    by_texts None others = refl
    by_texts (Some text) None = refl
    by_texts (Some text) (Some more) = refl
first_float later (a ∷ (b ∷ (c ∷ []))) h = absurd (omega arith)
first_float later (a ∷ (b ∷ [])) h = absurd (omega arith)
first_float later (a ∷ []) h = absurd (omega arith)
first_float later [] h = absurd (omega arith)

pub float_more : (front middle after bytes : List ℕ) (later given : Bool) → middle ≡ front ++ comma_if later → 4 ≤ length bytes
    → AppendsNumber middle after (stored_text (take 4 bytes)) given → given ≡ true → behind front (floats_text later bytes) ≡ behind after (floats_text true (drop 4 bytes))
float_more front middle after bytes later given middle_is h appended is_given = by_text (stored_text (take 4 bytes)) refl appended
  where
    by_more : (text : List ℕ) (o : Option (List ℕ)) → behind front (option_map (λ more. comma_if later ++ (text ++ more)) o) ≡ behind ((front ++ comma_if later) ++ text) o
    by_more text None = refl
    by_more text (Some more) = ap Some (sym (append_assoc (front ++ comma_if later) text more ∙ append_assoc front (comma_if later) (text ++ more)))

    by_text : (o : Option (List ℕ)) → stored_text (take 4 bytes) ≡ o → AppendsNumber middle after o given → behind front (floats_text later bytes) ≡ behind after (floats_text true (drop 4 bytes))
    by_text None e is = absurd (true≢false (sym is_given ∙ is.0))
    by_text (Some text) e is = rw (first_float later bytes h, e, is.1, middle_is) (by_more text (floats_text true (drop 4 bytes)))

pub float_none : (front middle after bytes : List ℕ) (later given : Bool) → 4 ≤ length bytes → AppendsNumber middle after (stored_text (take 4 bytes)) given → given ≡ false
    → behind front (floats_text later bytes) ≡ None
float_none front middle after bytes later given h appended is_none = by_text (stored_text (take 4 bytes)) refl appended
  where
    by_text : (o : Option (List ℕ)) → stored_text (take 4 bytes) ≡ o → AppendsNumber middle after o given → behind front (floats_text later bytes) ≡ None
    by_text None e is = rw (first_float later bytes h, e) refl
    by_text (Some text) e is = absurd (true≢false (sym is.0 ∙ is_none))

pub bytes_left : (front bytes : List ℕ) (later : Bool) → length bytes < 4 → (length bytes ≡ 0 → ⊥) → behind front (floats_text later bytes) ≡ None
unfolding float_texts
bytes_left front (a ∷ (b ∷ (c ∷ (d ∷ bytes)))) later h some = absurd (omega arith)
bytes_left front (a ∷ (b ∷ (c ∷ []))) later h some = refl
bytes_left front (a ∷ (b ∷ [])) later h some = refl
bytes_left front (a ∷ []) later h some = refl
bytes_left front [] later h some = absurd (some refl)

pub closed : (front bytes : List ℕ) (later : Bool) → length bytes ≡ 0 → behind front (floats_text later bytes) ≡ Some (front ++ 93 ∷ [])
unfolding float_texts
closed front [] later h = refl
closed front (a ∷ bytes) later h = absurd (omega arith)

-- what was read behind the bracket
pub is_read : (old front after : List ℕ) (bytes : List ℕ) → front ≡ old ++ 91 ∷ [] → behind front (floats_text false bytes) ≡ Some after → IsRead old after (vector_text bytes) true
is_read old front after bytes front_is read = by_texts (float_texts bytes) read
  where
    by_texts : (o : Option (List (List ℕ))) → behind front (option_map (ending false) o) ≡ Some after → IsRead old after (option_map (λ texts. 91 ∷ (joined_by (44 ∷ []) texts ++ 93 ∷ [])) o) true
    by_texts None e = absurd cc
    by_texts (Some texts) e = (
      refl,
      (let same : after ≡ front ++ ending false texts = cc in same) ∙ ap (λ (l : List ℕ). l ++ ending false texts) front_is ∙ append_assoc old (91 ∷ []) (ending false texts)
          ∙ ap (λ (l : List ℕ). old ++ 91 ∷ l) (ending_joins texts),
    )

pub is_none : (old front after : List ℕ) (bytes : List ℕ) → behind front (floats_text false bytes) ≡ None → IsRead old after (vector_text bytes) false
is_none old front after bytes read = by_texts (float_texts bytes) read
  where
    by_texts : (o : Option (List (List ℕ))) → behind front (option_map (ending false) o) ≡ None → IsRead old after (option_map (λ texts. 91 ∷ (joined_by (44 ∷ []) texts ++ 93 ∷ [])) o) false
    by_texts None e = refl
    by_texts (Some texts) e = absurd cc

-- ---- ASCII

ascii_mark : (b : ℕ) → b < 128 → IsAscii (b ∷ [])
ascii_mark b h = IsAscii-cons b [] h IsAscii-nil

pub marked : (front after : List ℕ) (b : ℕ) → b < 128 → after ≡ front ++ b ∷ [] → IsAscii front → IsAscii after
marked front after b h after_is ascii = subst IsAscii (sym after_is) (IsAscii-append front (b ∷ []) ascii (ascii_mark b h))

pub parted : (front after : List ℕ) (later : Bool) → after ≡ front ++ comma_if later → IsAscii front → IsAscii after
parted front after true after_is ascii = marked front after 44 (omega arith) after_is ascii
parted front after false after_is ascii = subst IsAscii (sym after_is) (IsAscii-append front [] ascii IsAscii-nil)
