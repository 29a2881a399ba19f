-- Dates and times, and what is none.
use Rattle.std.proofs.Common.{◌≡◌, ℕ, ◌-◌, ◌^◌, ◌≤◌, true, false, List, ◌∷◌, ◌++◌, length, nat_lt, Option, Some, None, refl, ne_eqb, eq-eqb, arith}
use Rattle.std.proofs.lemmas.Bool.Decides.{nat_tests}
use Rattle.byteorder.specs.Endian.{little_number}
use Rattle.binlog_documents.specs.Opaques.{in_quotes, is_shown, shown_text, span_text, time_opaque, time_text}
use Rattle.binlog_documents.specs.Appended.{AppendsText}

pub time-below : (n magnitude : ℕ) → 2 ^ 63 ≤ n → magnitude ≡ 2 ^ 64 - n → time_text n ≡ 45 ∷ span_text magnitude
time-below n magnitude below is = let not_above : nat_lt n (2 ^ 63) ≡ false = grind (arith, nat_tests) in rw (not_above, is) refl

pub appends-none : (old : List ℕ) (text : Option (List ℕ)) → text ≡ None → AppendsText old old text false
appends-none old None e = (refl, refl)
appends-none old (Some t) e = absurd cc

pub appends-some : (old new t : List ℕ) (text : Option (List ℕ)) → text ≡ Some t → new ≡ old ++ t → AppendsText old new text true
appends-some old new t None e is = absurd cc
appends-some old new t (Some s) e is = let same : s ≡ t = cc in (refl, rw same is)

pub no_time-by_length : (kind : ℕ) (bytes : List ℕ) → (length bytes ≡ 8 → ⊥) → time_opaque kind bytes ≡ None
unfolding time_opaque
no_time-by_length kind bytes isnt = rw (ne_eqb (length bytes) 8 isnt) refl

pub no_time-by_sign : (kind n : ℕ) (bytes : List ℕ) → length bytes ≡ 8 → n ≡ little_number 8 bytes → is_shown kind n ≡ false → time_opaque kind bytes ≡ None
unfolding time_opaque
no_time-by_sign kind n bytes len number isnt = let shown : is_shown kind (little_number 8 bytes) ≡ false = rw number at isnt in rw (eq-eqb (length bytes) 8 len, shown) refl

pub is_time : (kind n : ℕ) (bytes : List ℕ) → length bytes ≡ 8 → n ≡ little_number 8 bytes → is_shown kind n ≡ true → time_opaque kind bytes ≡ Some (in_quotes (shown_text kind n))
unfolding time_opaque
is_time kind n bytes len number is = let shown : is_shown kind (little_number 8 bytes) ≡ true = rw number at is in rw (eq-eqb (length bytes) 8 len, shown, number) refl
