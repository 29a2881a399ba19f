-- Steps that failed, and steps that didn't.
use Rattle.std.proofs.Common.{◌≡◌, ℕ, Bool, true, false, cond, List, Option, Some, None, Result, Ok, Err, refl, sym, ap, ◌∙◌}
use Rattle.std.specs.Str.{IsUtf8}
use Rattle.std.proofs.lemmas.Bool.{eq-eqb}
use Rattle.std.proofs.lemmas.Str.{utf8_valid_len-IsUtf8}
use Rattle.binlog_table.specs.declared.fault.MapFault.{MapFault}
use Rattle.binlog_table.specs.declared.fault.MapFault.TheVariants.{BadMap, OutOfMemory}
use Rattle.binlog_table.specs.MapResult.{◌>>=◌, Fails}
use Rattle.binlog_table.specs.Columns.{or_bad}
use Rattle.binlog_table.specs.Fields.{is_utf8, text_of}

-- what fails first fails the whole
pub fails_first : {A B : Type 0} (e : MapFault) (r : Result A MapFault) (f : A → Result B MapFault) (total : Result B MapFault) → Fails e r → (r >>= f) ≡ total → Fails e total
fails_first OutOfMemory r f total h so_far = tt
fails_first {A = A} _ r f total h so_far = sym so_far ∙ ap (λ (x : Result A MapFault). x >>= f) h

-- a step that failed has its fault
pub fails_as : {A : Type 0} (e : MapFault) (r : Result A MapFault) → r ≡ Err e → Fails e r
fails_as OutOfMemory r h = tt
fails_as _ r h = h

-- its fault is that of the whole
pub stops_first : {A B : Type 0} (e : MapFault) (r : Result A MapFault) (f : A → Result B MapFault) (total : Result B MapFault) → r ≡ Err e → (r >>= f) ≡ total → total ≡ Err e
stops_first {A = A} e r f total h so_far = sym so_far ∙ ap (λ (x : Result A MapFault). x >>= f) h

-- what went well goes on
pub goes_first : {A B : Type 0} (r : Result A MapFault) (x : A) (f : A → Result B MapFault) (total : Result B MapFault) → r ≡ Ok x → (r >>= f) ≡ total → f x ≡ total
goes_first {A = A} r x f total h so_far = sym (ap (λ (y : Result A MapFault). y >>= f) h) ∙ so_far

-- ---- what is known of the steps of a whole

pub bind_ok : {A B : Type 0} (r : Result A MapFault) (f : A → Result B MapFault) (y : B) → (r >>= f) ≡ Ok y → (x : A) × (r ≡ Ok x) × (f x ≡ Ok y)
bind_ok (Ok x) f y e = (x, refl, e)
bind_ok (Err d) f y e = absurd cc

-- the same, with the value as a variable
pub bind_then : {A B P : Type 0} (r : Result A MapFault) (f : A → Result B MapFault) (y : B) → (r >>= f) ≡ Ok y → ((x : A) → r ≡ Ok x → f x ≡ Ok y → P) → P
bind_then (Ok x) f y e k = k x refl e
bind_then (Err d) f y e k = absurd cc

-- a step that is known
pub bind_known : {A B : Type 0} (r : Result A MapFault) (f : A → Result B MapFault) (x : A) (y : Result B MapFault) → r ≡ Ok x → f x ≡ y → (r >>= f) ≡ y
bind_known {A = A} r f x y e h = ap (λ (s : Result A MapFault). s >>= f) e ∙ h

pub bind_same : {A B : Type 0} (r : Result A MapFault) (f g : A → Result B MapFault) → ((x : A) → r ≡ Ok x → f x ≡ g x) → (r >>= f) ≡ (r >>= g)
bind_same (Ok x) f g h = h x refl
bind_same (Err d) f g h = refl

pub bind_assoc : {A B C : Type 0} (r : Result A MapFault) (f : A → Result B MapFault) (g : B → Result C MapFault) → ((r >>= f) >>= g) ≡ (r >>= λ x. f x >>= g)
bind_assoc (Ok x) f g = refl
bind_assoc (Err d) f g = refl

pub ok_same : {A : Type 0} (x y : A) → ◌≡◌ {A = Result A MapFault} (Ok x) (Ok y) → x ≡ y
ok_same x y e = cc

-- a test that let a value through, and one that refused
pub guarded_ok : {A : Type 0} (b : Bool) (r : Result A MapFault) (y : A) → cond b r (Err BadMap) ≡ Ok y → (b ≡ true) × (r ≡ Ok y)
guarded_ok true r y e = (refl, e)
guarded_ok false r y e = absurd cc

pub refused_ok : {A : Type 0} (b : Bool) (r : Result A MapFault) (y : A) → cond b (Err BadMap) r ≡ Ok y → (b ≡ false) × (r ≡ Ok y)
refused_ok true r y e = absurd cc
refused_ok false r y e = (refl, e)

pub or_bad-ok : {A : Type 0} (o : Option A) (x : A) → or_bad o ≡ Ok x → o ≡ Some x
or_bad-ok None x e = absurd cc
or_bad-ok (Some y) x e = let same : y ≡ x = cc in ap Some same

pub text-ok : (bytes text : List ℕ) → text ≡ bytes → IsUtf8 bytes → text_of bytes ≡ Ok text
text-ok bytes text same utf8 = let whole : is_utf8 bytes ≡ true = eq-eqb _ _ (utf8_valid_len-IsUtf8 bytes utf8) in rw (whole, same) refl
