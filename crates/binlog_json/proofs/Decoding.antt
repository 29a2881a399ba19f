-- Texts that are read piece by piece: what was read so far and what is left are the whole.
use Rattle.std.proofs.Common.{◌≡◌, ℕ, ◌+◌, ◌<◌, ◌≤◌, List, [], ◌∷◌, ◌++◌, length, drop, get_or, ◌==◌, Bool, true, false, Option, Some, None, option_map, append_assoc, append-nil, refl, ap, sym, subst, ◌∙◌, arith}
use Rattle.std.specs.Char.{encode_utf8, IsScalar}
use Rattle.std.proofs.lemmas.Bool.{false_from_ne_true}
use Rattle.std.proofs.lemmas.List.{at_drop_more, at_drop_all}
use lib.Utf8.{scalar}
use Rattle.binlog_json.specs.Encodings.{text_by, unit_in, units_of, utf32_code, utf32_text}
use Rattle.binlog_json.specs.Reading.{IsRead}
use Rattle.binlog_json.specs.declared.encodings.ByteOrder.{ByteOrder}

-- what stands in front, and what is read behind it
abbrev pub behind : {X : Type 0} → List X → Option (List X) → Option (List X)
behind front o = option_map (λ rest. front ++ rest) o

pub behind_one : {X : Type 0} (front : List X) (x : X) (o : Option (List X)) → behind (front ++ x ∷ []) o ≡ behind front (option_map (λ rest. x ∷ rest) o)
behind_one front x None = refl
behind_one front x (Some rest) = ap Some (append_assoc front (x ∷ []) rest)

pub behind_more : {X : Type 0} (front piece : List X) (o : Option (List X)) → behind (front ++ piece) o ≡ behind front (option_map (λ rest. piece ++ rest) o)
behind_more front piece None = refl
behind_more front piece (Some rest) = ap Some (append_assoc front piece rest)

pub all_read : {X : Type 0} (old new : List X) (total : Option (List X)) → behind new (Some []) ≡ behind old total → IsRead old new total true
all_read old new None e = cc
all_read old new (Some text) e = (refl, let same : new ++ [] ≡ old ++ text = cc in sym (append-nil new) ∙ same)

pub none_read : {X : Type 0} (old new : List X) (total : Option (List X)) → None ≡ behind old total → IsRead old new total false
none_read old new None e = refl
none_read old new (Some text) e = absurd (cc)

-- ---- units of two bytes

pub units_more : (order : ByteOrder) (front rest : List ℕ) (total : Option (List ℕ)) → 2 ≤ length rest → behind front (units_of order rest) ≡ total
    → behind (front ++ unit_in order (get_or rest 0 0) (get_or rest 1 0) ∷ []) (units_of order (drop 2 rest)) ≡ total
unfolding units_of
units_more order front (first ∷ second ∷ rest) total many e = behind_one front (unit_in order first second) (units_of order rest) ∙ e
units_more order front other total many e = absurd (omega arith)

pub units_done : (order : ByteOrder) (front rest : List ℕ) (total : Option (List ℕ)) (whole : Bool) → length rest < 2 → whole ≡ (length rest == 0) → behind front (units_of order rest) ≡ behind [] total → IsRead [] front total whole
unfolding units_of
units_done order front [] total whole few is e = subst (λ (b : Bool). IsRead [] front total b) (sym is) (all_read [] front total e)
units_done order front (x ∷ []) total whole few is e = subst (λ (b : Bool). IsRead [] front total b) (sym is) (none_read [] front total e)
units_done order front (x ∷ y ∷ rest) total whole few is e = absurd (omega arith)

-- ---- characters of one byte

pub text_by_more : (table front bytes : List ℕ) (i code : ℕ) (total : Option (List ℕ)) → i < length bytes → IsScalar (get_or table (get_or bytes i 0) 0) → code ≡ get_or table (get_or bytes i 0) 0
    → behind front (text_by table (drop i bytes)) ≡ total → behind (front ++ encode_utf8 code) (text_by table (drop (i + 1) bytes)) ≡ total
unfolding text_by
text_by_more table front bytes i code total below scalar is e =
    let first = at_drop_more (λ (bs : List ℕ). behind front (text_by table bs)) bytes i 0 below in
    ap (λ (n : ℕ). behind (front ++ encode_utf8 n) (text_by table (drop (i + 1) bytes))) is
    ∙ behind_more front (encode_utf8 (get_or table (get_or bytes i 0) 0)) (text_by table (drop (i + 1) bytes)) ∙ (rw scalar at (sym first ∙ e))

pub text_by_none : (table old new bytes : List ℕ) (i : ℕ) (total : Option (List ℕ)) → i < length bytes → ¬ (IsScalar (get_or table (get_or bytes i 0) 0)) → behind new (text_by table (drop i bytes)) ≡ behind old total
    → IsRead old new total false
unfolding text_by
text_by_none table old new bytes i total below not e =
    let first = at_drop_more (λ (bs : List ℕ). behind new (text_by table bs)) bytes i 0 below in
    let no : scalar (get_or table (get_or bytes i 0) 0) ≡ false = false_from_ne_true (scalar (get_or table (get_or bytes i 0) 0)) not in
    none_read old new total (rw no at (sym first ∙ e))

pub text_by_done : (table old new bytes : List ℕ) (i : ℕ) (total : Option (List ℕ)) → length bytes ≤ i → behind new (text_by table (drop i bytes)) ≡ behind old total → IsRead old new total true
unfolding text_by
text_by_done table old new bytes i total past e = all_read old new total (sym (at_drop_all (λ (bs : List ℕ). behind new (text_by table bs)) bytes i past) ∙ e)

-- ---- characters of four bytes

-- the code of the first character
abbrev pub first_code : List ℕ → ℕ
first_code bytes = utf32_code (get_or bytes 0 0) (get_or bytes 1 0) (get_or bytes 2 0) (get_or bytes 3 0)

pub utf32_more : (front rest : List ℕ) (code : ℕ) (total : Option (List ℕ)) → 4 ≤ length rest → IsScalar (first_code rest) → code ≡ first_code rest → behind front (utf32_text rest) ≡ total
    → behind (front ++ encode_utf8 code) (utf32_text (drop 4 rest)) ≡ total
unfolding utf32_text
utf32_more front (a ∷ b ∷ c ∷ d ∷ rest) code total many scalar is e =
    ap (λ (n : ℕ). behind (front ++ encode_utf8 n) (utf32_text rest)) is ∙ behind_more front (encode_utf8 (utf32_code a b c d)) (utf32_text rest) ∙ (rw scalar at e)
utf32_more front other code total many scalar is e = absurd (omega arith)

pub utf32_none : (old new rest : List ℕ) (total : Option (List ℕ)) → 4 ≤ length rest → ¬ (IsScalar (first_code rest)) → behind new (utf32_text rest) ≡ behind old total → IsRead old new total false
unfolding utf32_text
utf32_none old new (a ∷ b ∷ c ∷ d ∷ rest) total many not e =
    let no : scalar (utf32_code a b c d) ≡ false = false_from_ne_true (scalar (utf32_code a b c d)) not in
    none_read old new total (rw no at e)
utf32_none old new other total many not e = absurd (omega arith)

pub utf32_done : (old front rest : List ℕ) (total : Option (List ℕ)) (whole : Bool) → length rest < 4 → whole ≡ (length rest == 0) → behind front (utf32_text rest) ≡ behind old total → IsRead old front total whole
unfolding utf32_text
utf32_done old front [] total whole few is e = subst (λ (b : Bool). IsRead old front total b) (sym is) (all_read old front total e)
utf32_done old front (x ∷ y ∷ z ∷ u ∷ rest) total whole few is e = absurd (omega arith)
utf32_done old front other total whole few is e = subst (λ (b : Bool). IsRead old front total b) (sym is) (none_read old front total e)
