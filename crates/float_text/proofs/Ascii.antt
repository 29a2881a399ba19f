-- The texts are ASCII.
use Rattle.std.proofs.Common.{◌≡◌, ℕ, ◌+◌, ◌-◌, ◌^◌, ◌<◌, ◌&&◌, ◌++◌, Bool, true, false, cond, ltb, T, List, [], ◌∷◌, length, take, drop, codes, decimal, IsAscii, arith, subst, sym}
use Rattle.std.specs.Prelude.{Result, Ok, Err, IfOk, is_ok}
use lib.Dec.{lit<}
use lib.Ieee.Fits.{and_l, and_r}
use Rattle.std.proofs.lemmas.Str.{IsAscii-append, IsAscii-take, IsAscii-drop}
use Rattle.std.proofs.lemmas.Str.Ascii.{IsAscii-nil, IsAscii-cons}
use Rattle.std.proofs.lemmas.Fmt.{IsAscii-decimal}
use Rattle.float_text.specs.Layout.{zeros, pointed_text, whole_text, small_text, mantissa_text, exponent_digits, exponent_text, layout}

abbrev are_ascii : List ℕ → Bool
are_ascii [] = true
are_ascii (x ∷ xs) = ltb x 128 && are_ascii xs

-- the text is ASCII
pub record IsAsciiText (text : List ℕ) : Type 0 where
  pub ascii : IsAscii text

pub ascii_of : (xs : List ℕ) → T (are_ascii xs) → IsAscii xs
ascii_of [] h = IsAscii-nil
ascii_of (x ∷ xs) h = IsAscii-cons x xs (lit< (and_l (ltb x 128) (are_ascii xs) h)) (ascii_of xs (and_r (ltb x 128) (are_ascii xs) h))

literal : (xs : List ℕ) → T (are_ascii xs) → IsAsciiText xs
literal xs h = record { ascii = ascii_of xs h }

join : (xs ys : List ℕ) → IsAsciiText xs → IsAsciiText ys → IsAsciiText (xs ++ ys)
join xs ys p q = record { ascii = IsAscii-append xs ys p.ascii q.ascii }

front : (n : ℕ) (xs : List ℕ) → IsAsciiText xs → IsAsciiText (take n xs)
front n xs p = record { ascii = IsAscii-take xs n p.ascii }

rest : (n : ℕ) (xs : List ℕ) → IsAsciiText xs → IsAsciiText (drop n xs)
rest n xs p = record { ascii = IsAscii-drop xs n p.ascii }

either : (b : Bool) (xs ys : List ℕ) → IsAsciiText xs → IsAsciiText ys → IsAsciiText (cond b xs ys)
either true xs ys p q = p
either false xs ys p q = q

zeros_ascii : (count : ℕ) → IsAsciiText (zeros count)
zeros_ascii count = front count (codes "0000000000000000") (literal (codes "0000000000000000") tt)

point : IsAsciiText (46 ∷ [])
point = literal (46 ∷ []) tt

pointed_ascii : (digits : List ℕ) (place : ℕ) → IsAsciiText digits → IsAsciiText (pointed_text digits place)
pointed_ascii digits place h = join _ _ (front _ digits h) (join _ _ point (rest _ digits h))

whole_ascii : (digits : List ℕ) (power : ℕ) → IsAsciiText digits → IsAsciiText (whole_text digits power)
whole_ascii digits power h = join _ _ h (join _ _ (zeros_ascii _) (literal (codes ".0") tt))

small_ascii : (digits : List ℕ) (place : ℕ) → IsAsciiText digits → IsAsciiText (small_text digits place)
small_ascii digits place h = join _ _ (literal (codes "0.") tt) (join _ _ (zeros_ascii _) h)

mantissa_ascii : (digits : List ℕ) → IsAsciiText digits → IsAsciiText (mantissa_text digits)
mantissa_ascii digits h = join _ _ (front 1 digits h) (either _ _ _ (join _ _ point (rest 1 digits h)) (literal [] tt))

exponent_digits_ascii : (exponent : ℕ) → exponent < 2 ^ 64 → IsAsciiText (exponent_digits exponent)
exponent_digits_ascii exponent l =
    let digits : IsAsciiText (decimal exponent) = record { ascii = IsAscii-decimal exponent l } in
    either _ _ _ (join _ _ (literal (48 ∷ []) tt) digits) digits

exponent_ascii : (place : ℕ) → place < 2 ^ 63 → IsAsciiText (exponent_text place)
exponent_ascii place l =
    either _ _ _ (join _ _ (literal (codes "e+") tt) (exponent_digits_ascii (place - 401) (omega arith)))
    (join _ _ (literal (codes "e-") tt) (exponent_digits_ascii (401 - place) (omega arith)))

layout_text : (digits : List ℕ) (power : ℕ) → length digits + power < 2 ^ 63 → IsAsciiText digits → IsAsciiText (layout digits power)
layout_text digits power l h =
    let place = length digits + power in
    either (ltb 400 place && ltb place 417) _ _ (either (ltb power 400) _ _ (pointed_ascii digits place h) (whole_ascii digits power h))
    (either (ltb 396 place && ltb place 401) _ _ (small_ascii digits place h) (join _ _ (mantissa_ascii digits h) (exponent_ascii _ l)))

pub layout_ascii : (digits : List ℕ) (power : ℕ) → length digits + power < 2 ^ 63 → IsAscii digits → IsAscii (layout digits power)
layout_ascii digits power l h = (layout_text digits power l (record { ascii = h })).ascii

-- what comes behind ASCII
pub longer : (old new text : List ℕ) → new ≡ old ++ text → IsAscii text → IsAscii old → IsAscii new
longer old new text is h before = subst IsAscii (sym is) (IsAscii-append old text before h)

pub appended : {T E : Type 0} (r : Result T E) (old new text : List ℕ) → new ≡ cond (is_ok r) (old ++ text) old → IsAscii text → IfOk r (λ _. IsAscii old → IsAscii new)
appended (Ok x) old new text is h = longer old new text is h
appended (Err e) old new text is h = tt
