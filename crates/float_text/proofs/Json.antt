-- The texts are numbers of JSON's grammar.
use Rattle.std.proofs.Common.{◌≡◌, ℕ, zero, suc, ◌+◌, ◌-◌, ◌^◌, ◌<◌, ◌≤◌, Bool, true, false, cond, ltb, ◌&&◌, ◌==◌, List, [], ◌∷◌, ◌++◌, length, take, drop, codes, decimal, get_or, Option, Some, None, option_and_then, inl, inr, refl, sym, ap, ◌∙◌, subst, eq-zero-or-pos, eq-eqb, arith, append_assoc, append-nil, length-drop, ltb-true}
use lib.Dec.{lit<}
use lib.Ieee.{Format}
use Rattle.std.proofs.lemmas.Bool.{ne_eqb, le-leb, and_from, and_parts}
use Rattle.std.proofs.lemmas.List.{drop_at, get_or-take}
use Rattle.std.proofs.lemmas.Fmt.{decimal_is_IsNumeral, decimal_nonempty, first_decimal}
use Rattle.std.proofs.lemmas.Str.Parse.{digit_from_value}
use Rattle.std.specs.List.{prefix_len}
use Rattle.std.specs.Char.{is_ascii_digit, digit_value}
use Rattle.std.specs.Str.Parse.{AllDigits}
use Rattle.json.specs.Word.{head, after_digits, after_whole, after_fraction, after_exponent, after_number}
use Rattle.json.specs.Print.{IsNumber}
use Rattle.float_text.specs.JsonSizes.{IsJsonSize}
use Rattle.float_text.specs.Layout.{zeros, pointed_text, whole_text, small_text, mantissa_text, exponent_digits, exponent_text, layout, size_text}
use Rattle.float_text.specs.Shortest.{IsFinite, reads_as, shortest}
use Rattle.float_text.proofs.Tests.{zero_unread}

-- ---- digits
both : (xs ys : List ℕ) → AllDigits 10 xs → AllDigits 10 ys → AllDigits 10 (xs ++ ys)
both [] ys p q = q
both (x ∷ xs) ys p q = (p.0, both xs ys p.1 q)

front : (n : ℕ) (xs : List ℕ) → AllDigits 10 xs → AllDigits 10 (take n xs)
front zero xs p = tt
front (suc n) [] p = tt
front (suc n) (x ∷ xs) p = (p.0, front n xs p.1)

rest : (n : ℕ) (xs : List ℕ) → AllDigits 10 xs → AllDigits 10 (drop n xs)
rest zero xs p = p
rest (suc n) [] p = tt
rest (suc n) (x ∷ xs) p = rest n xs p.1

zero_digits : (count : ℕ) → AllDigits 10 (zeros count)
zero_digits count =
    let z : digit_value 48 < 10 = lit< tt in
    front count (codes "0000000000000000") (z, (z, (z, (z, (z, (z, (z, (z, (z, (z, (z, (z, (z, (z, (z, (z, tt))))))))))))))))

-- a run of digits ends where none follows
run : (ds after : List ℕ) → AllDigits 10 ds → prefix_len is_ascii_digit after ≡ 0 → prefix_len is_ascii_digit (ds ++ after) ≡ length ds
run [] after all none = none
run (d ∷ ds) after all none =
    let range = digit_from_value d all.0 in
    ap (λ b. cond b (1 + prefix_len is_ascii_digit (ds ++ after)) 0) (and_from _ _ (le-leb 48 d range.0) (le-leb d 57 range.1)) ∙ omega (arith, run ds after all.1 none)

digits_then : (ds after : List ℕ) → AllDigits 10 ds → 0 < length ds → prefix_len is_ascii_digit after ≡ 0 → after_digits (ds ++ after) ≡ Some after
digits_then ds after all some none =
    ap (λ n. cond (n == 0) None (Some (drop n (ds ++ after)))) (run ds after all none) ∙ ap (λ b. cond b None (Some (drop (length ds) (ds ++ after)))) (ne_eqb (length ds) 0 (λ e. omega arith))
    ∙ ap Some (drop_at ds after _ refl)

all_digits : (ds : List ℕ) → AllDigits 10 ds → 0 < length ds → after_digits ds ≡ Some []
all_digits ds all some = ap after_digits (sym (append-nil ds)) ∙ digits_then ds [] all some refl

-- ---- the parts of a number
-- an exponent, or nothing
record IsEnd (text : List ℕ) : Type 0 where
  pub ends : after_exponent text ≡ Some []
  pub stops : prefix_len is_ascii_digit text ≡ 0
  pub whole : after_fraction text ≡ Some text

-- a fraction or none, and an end
record IsTail (text behind : List ℕ) : Type 0 where
  pub fraction : after_fraction text ≡ Some behind
  pub stops : prefix_len is_ascii_digit text ≡ 0
  pub end : IsEnd behind

-- a number that begins with a digit
record IsUnsigned (text : List ℕ) : Type 0 where
  pub parts : option_and_then after_exponent (option_and_then after_fraction (after_whole text)) ≡ Some []
  pub no_sign : (head text == 45) ≡ false

nothing : IsEnd []
nothing = record { ends = refl; stops = refl; whole = refl }

exponent : (up : Bool) (ds : List ℕ) → AllDigits 10 ds → 0 < length ds → IsEnd (101 ∷ cond up 43 45 ∷ ds)
exponent true ds all some = record { ends = all_digits ds all some; stops = refl; whole = refl }
exponent false ds all some = record { ends = all_digits ds all some; stops = refl; whole = refl }

point : (ds end : List ℕ) → AllDigits 10 ds → 0 < length ds → IsEnd end → IsTail (46 ∷ (ds ++ end)) end
point ds end all some e = record { fraction = digits_then ds end all some e.stops; stops = refl; end = e }

no_point : (end : List ℕ) → IsEnd end → IsTail end end
no_point end e = record { fraction = e.whole; stops = e.stops; end = e }

joined : (whole : Option (List ℕ)) (tail end : List ℕ) → whole ≡ Some tail → IsTail tail end → option_and_then after_exponent (option_and_then after_fraction whole) ≡ Some []
joined whole tail end is t =
    ap (λ o. option_and_then after_exponent (option_and_then after_fraction o)) is ∙ ap (option_and_then after_exponent) t.fraction ∙ t.end.ends

-- digits, of which the first is no 0
some_whole : (ds tail end : List ℕ) → AllDigits 10 ds → 48 < get_or ds 0 0 → IsTail tail end → IsUnsigned (ds ++ tail)
some_whole [] tail end all first t = absurd (omega arith)
some_whole (d ∷ ds) tail end all first t =
    let range = digit_from_value d all.0 in
    let whole : after_whole (d ∷ ds ++ tail) ≡ Some tail =
    ap (λ b. cond b (Some (ds ++ tail)) (after_digits (d ∷ ds ++ tail))) (ne_eqb d 48 (λ e. omega arith)) ∙ digits_then (d ∷ ds) tail all (omega arith) t.stops in
    record { parts = joined _ tail end whole t; no_sign = ne_eqb d 45 (λ e. omega arith) }

-- a 0 alone
zero_whole : (tail end : List ℕ) → IsTail tail end → IsUnsigned (48 ∷ tail)
zero_whole tail end t = record { parts = joined _ tail end refl t; no_sign = refl }

-- ---- the layouts
module _ (digits : List ℕ) (all : AllDigits 10 digits) (first : 48 < get_or digits 0 0) where
  first_of : (n : ℕ) → 0 < n → 48 < get_or (take n digits) 0 0
  first_of n some = omega (arith, get_or-take n digits 0 0 some)

  pointed : (place : ℕ) → 400 < place → place - 400 < length digits → IsUnsigned (pointed_text digits place)
  pointed place some less =
      let n = place - 400 in
      let behind : 0 < length (drop n digits) = omega (arith, length-drop n digits) in
      let tail : IsTail (46 ∷ drop n digits) [] = subst (λ ds. IsTail (46 ∷ ds) []) (append-nil (drop n digits)) (point (drop n digits) [] (rest n digits all) behind nothing) in
      some_whole (take n digits) (46 ∷ drop n digits) [] (front n digits all) (first_of n (omega arith)) tail

  whole : (power : ℕ) → IsUnsigned (whole_text digits power)
  whole power =
      let padded = digits ++ zeros (power - 400) in
      let tail : IsTail (codes ".0") [] = point (48 ∷ []) [] (lit< tt, tt) (omega arith) nothing in
      subst IsUnsigned (append_assoc digits (zeros (power - 400)) (codes ".0"))
      (some_whole padded (codes ".0") [] (both digits _ all (zero_digits _)) (still digits first) tail)
    where
      still : (ds : List ℕ) → 48 < get_or ds 0 0 → 48 < get_or (ds ++ zeros (power - 400)) 0 0
      still [] h = absurd (omega arith)
      still (d ∷ ds) h = h

  small : (place : ℕ) → IsUnsigned (small_text digits place)
  small place =
      let ds = zeros (400 - place) ++ digits in
      let tail : IsTail (46 ∷ ds) [] = subst (λ t. IsTail (46 ∷ t) []) (append-nil ds) (point ds [] (both _ digits (zero_digits _) all) (more (zeros (400 - place)) digits first) nothing) in
      zero_whole (46 ∷ ds) [] tail
    where
      more : (xs ys : List ℕ) → 48 < get_or ys 0 0 → 0 < length (xs ++ ys)
      more [] [] h = absurd (omega arith)
      more [] (y ∷ ys) h = omega arith
      more (x ∷ xs) ys h = omega arith

  exponent_is : (n : ℕ) → n < 2 ^ 64 → AllDigits 10 (exponent_digits n) × (0 < length (exponent_digits n))
  exponent_is n l = two (ltb n 10)
    where
      own : AllDigits 10 (decimal n) × (0 < length (decimal n))
      own = ((decimal_is_IsNumeral n l).0.1, decimal_nonempty n l)

      two : (b : Bool) → AllDigits 10 (cond b (48 ∷ decimal n) (decimal n)) × (0 < length (cond b (48 ∷ decimal n) (decimal n)))
      two true = ((lit< tt, own.0), omega arith)
      two false = own

  exponent_end : (place : ℕ) → place < 2 ^ 63 → IsEnd (exponent_text place)
  exponent_end place l = by_sign (ltb 400 place)
    where
      up : AllDigits 10 (exponent_digits (place - 401)) × (0 < length (exponent_digits (place - 401)))
      up = exponent_is (place - 401) (omega arith)

      down : AllDigits 10 (exponent_digits (401 - place)) × (0 < length (exponent_digits (401 - place)))
      down = exponent_is (401 - place) (omega arith)

      by_sign : (b : Bool) → IsEnd (cond b (codes "e+" ++ exponent_digits (place - 401)) (codes "e-" ++ exponent_digits (401 - place)))
      by_sign true = exponent true _ up.0 up.1
      by_sign false = exponent false _ down.0 down.1

  mantissa : (place : ℕ) → place < 2 ^ 63 → IsUnsigned (mantissa_text digits ++ exponent_text place)
  mantissa place l =
      subst IsUnsigned (sym (append_assoc (take 1 digits) _ (exponent_text place)))
      (some_whole (take 1 digits) _ (exponent_text place) (front 1 digits all) (first_of 1 (omega arith)) (by_count (ltb 1 (length digits)) (λ e. ltb-true 1 (length digits) e)))
    where
      by_count : (b : Bool) → (b ≡ true → 1 < length digits) → IsTail (cond b (46 ∷ drop 1 digits) [] ++ exponent_text place) (exponent_text place)
      by_count true many = point (drop 1 digits) _ (rest 1 digits all) (omega (arith, many refl, length-drop 1 digits)) (exponent_end place l)
      by_count false many = no_point _ (exponent_end place l)

  choose : (b : Bool) (xs ys : List ℕ) → (b ≡ true → IsUnsigned xs) → (b ≡ false → IsUnsigned ys) → IsUnsigned (cond b xs ys)
  choose true xs ys p q = p refl
  choose false xs ys p q = q refl

  layout_unsigned : (power : ℕ) → length digits + power < 2 ^ 63 → IsUnsigned (layout digits power)
  layout_unsigned power l =
      let place = length digits + power in
      choose (ltb 400 place && ltb place 417) _ _
      (λ e. let from : 400 < place = ltb-true 400 place (and_parts _ _ e).0 in
      choose (ltb power 400) _ _ (λ less. let few : power < 400 = ltb-true power 400 less in pointed place from (omega arith)) (λ _. whole power))
      (λ _. choose (ltb 396 place && ltb place 401) _ _ (λ _. small place) (λ _. mantissa place l))

-- ---- the texts
unsigned_number : (text : List ℕ) → IsUnsigned text → IsNumber text
unfolding after_number
unsigned_number text h = ap (λ b. option_and_then after_exponent (option_and_then after_fraction (after_whole (cond b (drop 1 text) text)))) h.no_sign ∙ h.parts

negative_number : (text : List ℕ) → IsUnsigned text → IsNumber (45 ∷ text)
unfolding after_number
negative_number text h = h.parts

size_of : (text : List ℕ) → IsUnsigned text → IsJsonSize text
size_of text h = record { alone = unsigned_number text h; negative = negative_number text h }

pub zero_size : (f : Format) (bits : ℕ) → bits ≡ 0 → IsJsonSize (size_text f bits)
zero_size f bits none = rw (eq-eqb bits 0 none) (size_of (codes "0.0") (zero_whole (codes ".0") [] (point (48 ∷ []) [] (lit< tt, tt) (omega arith) nothing)))

pub some_size : (f : Format) (bits : ℕ) (decimals : ℕ × ℕ) → IsFinite f bits → decimals ≡ shortest f bits → reads_as f bits decimals.0 decimals.1 ≡ true → decimals.0 < 2 ^ 64 → length (decimal decimals.0) ≤ 40 → decimals.1 ≤ 709
    → IsJsonSize (size_text f bits)
some_size f bits decimals F is read fits few small =
    let above = F.some in
    let some : 0 < decimals.0 = elim (eq-zero-or-pos decimals.0) [
      | inl z ↦ absurd (mathlib.Core.Bool.true≢false (sym read ∙ zero_unread f bits decimals.0 decimals.1 F z))
      | inr p ↦ p
    ]
    in
    rw (ne_eqb bits 0 (λ e. omega arith), ← is)
    (size_of _ (layout_unsigned (decimal decimals.0) (decimal_is_IsNumeral decimals.0 fits).0.1 (first_decimal decimals.0 some fits) decimals.1 (omega arith)))
