-- What is read is spelled.
use Rattle.std.proofs.Common.{◌≡◌, ◌∙◌, ℕ, zero, suc, ℤ, pos, ◌+◌, ◌-◌, ◌*◌, ◌<◌, ◌≤◌, ◌==◌, ◌&&◌, ◌⊎◌, inl, inr, Bool, true, false, cond, nat_lt, nat_le, List, [], ◌∷◌, ◌++◌, length, take, drop, Option, Some, None, option_map, refl, sym, ap, subst, add-one, leb-true, length-drop, length-take, length-take-le, take-append-drop, arith}
use Rattle.std.specs.Prelude.{slice_index}
use Rattle.std.specs.Str.{is_utf8}
use Rattle.std.proofs.Math.Seq.{take-add}
use Rattle.std.proofs.lemmas.Bool.{and_parts}
use Rattle.std.proofs.lemmas.Bool.Decides.{leb_tells, nat_tests}
use Rattle.std.proofs.lemmas.List.{drop-drop, drop-take}
use Rattle.std.proofs.lemmas.Option.{same_Some}
use Rattle.byteorder.specs.Endian.{little_number, twos_complement}
use Rattle.byteorder.specs.Numbers.{little_from-take}
use Rattle.binlog_documents.specs.Document.{Document, null, boolean, integer, double, text, opaque, array, object, Elements, no_elements, element, Members, no_members, member}
use Rattle.binlog_documents.specs.Scalars.{◌>>=◌, Reading, literal_at, number_at, signed, unsigned, is_finite, double_at, length_at, counted_at, utf8_text, text_at, opaque_at, scalar_at}
use Rattle.binlog_documents.specs.Containers.{Container, element_entry, member_entries, container_at, is_inlined, value_place, value_in, key_in, keys_end, elements_in, members_in, elements_of, members_of, array_at, object_at, value_at, greatest_depth, document_at}
use Rattle.binlog_documents.specs.Spelling.{IsInteger, IsSigned, IsUnsigned, IsLength, IsCounted, HasWidth, IsNumber, IsEntry, AreKeys, elements_count, keys_of, SpellsValue, AreElements, AreMembers, nesting, elements_nesting, members_nesting, Spells}

abbrev Tells : ℕ → ℕ → Type 0
Tells a b = ((nat_le a b ≡ true) × (a ≤ b)) ⊎ ((nat_le a b ≡ false) × (b < a))

and_then_ok : {A B : Type 0} (o : Option A) (f : A → Option B) (y : B) → (o >>= f) ≡ Some y → (x : A) × (o ≡ Some x) × (f x ≡ Some y)
and_then_ok None f y e = absurd cc
and_then_ok (Some x) f y e = (x, refl, e)

map_ok : {A B : Type 0} (o : Option A) (f : A → B) (y : B) → option_map f o ≡ Some y → (x : A) × (o ≡ Some x) × (f x ≡ y)
map_ok None f y e = absurd cc
map_ok (Some x) f y e = (x, refl, same_Some (f x) y e)

guarded : {A : Type 0} (b : Bool) (o : Option A) (y : A) → cond b o None ≡ Some y → (b ≡ true) × (o ≡ Some y)
guarded true o y e = (refl, e)
guarded false o y e = absurd cc

-- ---- values that have no parts

-- a value that is read takes so many bytes of those that are there, and these spell it
pub record Found (deep kind : ℕ) (bytes : List ℕ) (d : Document) (n : ℕ) : Type 0 where
  pub within : n ≤ length bytes
  pub shallow : nesting d ≤ deep
  pub spelled : SpellsValue d kind (take n bytes)

abbrev pub OnFound : ℕ → ℕ → List ℕ → Reading → Type 0
OnFound deep kind bytes None = Unit {0}
OnFound deep kind bytes (Some x) = Found deep kind bytes x.0 x.1

pub record IsFound (deep kind : ℕ) (bytes : List ℕ) (r : Reading) : Type 0 where
  pub has : OnFound deep kind bytes r

nothing : (deep kind : ℕ) (bytes : List ℕ) → IsFound deep kind bytes None
nothing deep kind bytes = record { has = tt }

found_of : (deep kind : ℕ) (bytes : List ℕ) (r : Reading) (d : Document) (n : ℕ) → IsFound deep kind bytes r → r ≡ Some (d, n) → Found deep kind bytes d n
found_of deep kind bytes None d n f e = absurd cc
found_of deep kind bytes (Some x) d n f e = subst (λ (y : Document × ℕ). Found deep kind bytes y.0 y.1) (same_Some x (d, n) e) f.has

literal_found : (deep : ℕ) (bytes : List ℕ) → IsFound deep 4 bytes (literal_at bytes)
unfolding literal_at
literal_found deep [] = nothing deep 4 []
literal_found deep (code ∷ bytes) = at (code == 0) (code == 1) (code == 2) refl refl refl
  where
    at : (a b c : Bool) → (code == 0) ≡ a → (code == 1) ≡ b → (code == 2) ≡ c
        → IsFound deep 4 (code ∷ bytes) (option_map (λ d. (d, 1)) (cond a (Some null) (cond b (Some (boolean true)) (cond c (Some (boolean false)) None))))
    at true b c x y z = let is : code ≡ 0 = grind (arith, nat_tests, x) in record { has = record { within = omega arith; shallow = omega arith; spelled = (refl, ap (λ (k : ℕ). k ∷ []) is) } }
    at false true c x y z = let is : code ≡ 1 = grind (arith, nat_tests, y) in record { has = record { within = omega arith; shallow = omega arith; spelled = (refl, ap (λ (k : ℕ). k ∷ []) is) } }
    at false false true x y z = let is : code ≡ 2 = grind (arith, nat_tests, z) in record { has = record { within = omega arith; shallow = omega arith; spelled = (refl, ap (λ (k : ℕ). k ∷ []) is) } }
    at false false false x y z = nothing deep 4 (code ∷ bytes)

number_found : (deep kind width : ℕ) (made : ℕ → Document) (bytes : List ℕ)
    → (width ≤ length bytes → (nesting (made (little_number width bytes)) ≤ deep) × SpellsValue (made (little_number width bytes)) kind (take width bytes)) → IsFound deep kind bytes (number_at width made bytes)
unfolding number_at
number_found deep kind width made bytes p = by_test (leb_tells width (length bytes))
  where
    by_test : Tells width (length bytes) → IsFound deep kind bytes (cond (nat_le width (length bytes)) (Some (made (little_number width bytes), width)) None)
    by_test (inl t) = rw t.0 (record { has = record { within = t.1; shallow = (p t.1).0; spelled = (p t.1).1 } })
    by_test (inr t) = rw t.0 (nothing deep kind bytes)

front_number : (width : ℕ) (bytes : List ℕ) → little_number width bytes ≡ little_number width (take width bytes)
front_number width bytes = sym (little_from-take 0 width width bytes (omega arith))

signed_spelled : (width : ℕ) (bytes : List ℕ) → width ≤ length bytes → IsSigned width (twos_complement width (little_number width bytes)) (take width bytes)
signed_spelled width bytes le = (length-take-le width bytes le, ap (twos_complement width) (front_number width bytes))

unsigned_spelled : (width : ℕ) (bytes : List ℕ) → width ≤ length bytes → IsUnsigned width (pos (little_number width bytes)) (take width bytes)
unsigned_spelled width bytes le = (length-take-le width bytes le, ap pos (front_number width bytes))

double_found : (deep : ℕ) (bytes : List ℕ) → IsFound deep 11 bytes (double_at bytes)
unfolding double_at
double_found deep bytes = by_test (leb_tells 8 (length bytes)) (is_finite (little_number 8 bytes)) refl
  where
    by_test : Tells 8 (length bytes) → (b : Bool) → is_finite (little_number 8 bytes) ≡ b
        → IsFound deep 11 bytes (cond (nat_le 8 (length bytes)) (cond b (Some (double (little_number 8 bytes), 8)) None) None)
    by_test (inl t) true e = rw t.0 (record { has = record { within = t.1; shallow = omega arith; spelled = (refl, length-take-le 8 bytes t.1, front_number 8 bytes, e) } })
    by_test (inl t) false e = rw t.0 (nothing deep 11 bytes)
    by_test (inr t) b e = rw t.0 (nothing deep 11 bytes)

length_found : (most : ℕ) (bytes : List ℕ) (n k : ℕ) → length_at most bytes ≡ Some (n, k) → (k ≤ length bytes) × (k ≤ most) × IsLength n (take k bytes)
unfolding length_at
length_found zero bytes n k e = absurd cc
length_found (suc most) [] n k e = absurd cc
length_found (suc most) (b ∷ bytes) n k e = at (nat_lt b 128) refl e (λ m j is. length_found most bytes m j is)
  where
    at : (small : Bool) → nat_lt b 128 ≡ small → cond {A = Option (ℕ × ℕ)} small (Some (b, 1)) (option_map {U = ℕ × ℕ} (λ l. (b - 128 + 128 * l.0, l.1 + 1)) (length_at most bytes)) ≡ Some (n, k)
        → ((m j : ℕ) → length_at most bytes ≡ Some (m, j) → (j ≤ length bytes) × (j ≤ most) × IsLength m (take j bytes))
        → (k ≤ suc (length bytes)) × (k ≤ suc most) × IsLength n (take k (b ∷ bytes))
    at true is e others =
        let below : b < 128 = grind (arith, nat_tests, is) in
        subst (λ (p : ℕ × ℕ). (p.1 ≤ suc (length bytes)) × (p.1 ≤ suc most) × IsLength p.0 (take p.1 (b ∷ bytes))) (same_Some (b, 1) (n, k) e) (omega arith, omega arith, inl (below, refl, refl))
    at false is e others =
        let above : 128 ≤ b = grind (arith, nat_tests, is) in
        let more = map_ok (length_at most bytes) (λ l. (b - 128 + 128 * l.0, l.1 + 1)) (n, k) e in
        let rest = others more.0.0 more.0.1 more.1 in
        let spelled : IsLength (b - 128 + 128 * more.0.0) (b ∷ take more.0.1 bytes) = inr (more.0.0, above, refl, rest.2) in
        subst (λ (p : ℕ × ℕ). (p.1 ≤ suc (length bytes)) × (p.1 ≤ suc most) × IsLength p.0 (take p.1 (b ∷ bytes))) more.2 (omega (arith, rest.0), omega (arith, rest.1), rw add-one spelled)

counted_found : (bytes content : List ℕ) (n : ℕ) → counted_at bytes ≡ Some (content, n) → (n ≤ length bytes) × IsCounted content (take n bytes)
unfolding counted_at
counted_found bytes content n e =
    let a = and_then_ok (length_at 5 bytes) _ (content, n) e in
    let len = a.0.0 in let begin = a.0.1 in
    let l = length_found 5 bytes len begin a.1 in
    let g = guarded (nat_le (begin + len) (length bytes)) (Some (take len (drop begin bytes), begin + len)) (content, n) a.2 in
    let le : begin + len ≤ length bytes = leb-true _ _ g.0 in
    let size : length (take len (drop begin bytes)) ≡ len = length-take-le len (drop begin bytes) (omega (arith, le, length-drop begin bytes)) in
    let spelled : IsCounted (take len (drop begin bytes)) (take (begin + len) bytes) =
    (take begin bytes, take-add begin len bytes, omega (arith, length-take begin bytes, l.1), rw size l.2) in
    subst (λ (p : List ℕ × ℕ). (p.1 ≤ length bytes) × IsCounted p.0 (take p.1 bytes)) (same_Some (take len (drop begin bytes), begin + len) (content, n) g.1) (le, spelled)

text_found : (deep : ℕ) (bytes : List ℕ) → IsFound deep 12 bytes (text_at bytes)
unfolding text_at utf8_text
text_found deep bytes = at (counted_at bytes) refl
  where
    by_test : (content : List ℕ) (n : ℕ) → (n ≤ length bytes) × IsCounted content (take n bytes) → (b : Bool) → is_utf8 content ≡ b
        → IsFound deep 12 bytes (option_map (λ s. (text s, n)) (cond b (Some content) None))
    by_test content n c true e = record { has = record { within = c.0; shallow = omega arith; spelled = (refl, e, c.1) } }
    by_test content n c false e = nothing deep 12 bytes

    at : (o : Option (List ℕ × ℕ)) → counted_at bytes ≡ o → IsFound deep 12 bytes (o >>= λ c. option_map (λ s. (text s, c.1)) (cond (is_utf8 c.0) (Some c.0) None))
    at None e = nothing deep 12 bytes
    at (Some c) e = by_test c.0 c.1 (counted_found bytes c.0 c.1 e) (is_utf8 c.0) refl

opaque_found : (deep : ℕ) (bytes : List ℕ) → IsFound deep 15 bytes (opaque_at bytes)
unfolding opaque_at
opaque_found deep [] = nothing deep 15 []
opaque_found deep (kind ∷ bytes) = at (counted_at bytes) refl
  where
    at : (o : Option (List ℕ × ℕ)) → counted_at bytes ≡ o → IsFound deep 15 (kind ∷ bytes) (option_map (λ c. (opaque kind c.0, c.1 + 1)) o)
    at None e = nothing deep 15 (kind ∷ bytes)
    at (Some c) e =
        let f = counted_found bytes c.0 c.1 e in
        let spelled : SpellsValue (opaque kind c.0) 15 (kind ∷ take c.1 bytes) = (take c.1 bytes, refl, refl, f.1) in
        record { has = record { within = omega (arith, f.0); shallow = omega arith; spelled = rw add-one spelled } }

chosen : (deep kind k : ℕ) (bytes : List ℕ) (x y : Reading) (b : Bool) → (kind == k) ≡ b → IsFound deep k bytes x → IsFound deep kind bytes y → IsFound deep kind bytes (cond b x y)
chosen deep kind k bytes x y true e p q = let is : kind ≡ k = grind (arith, nat_tests, e) in subst (λ (j : ℕ). IsFound deep j bytes x) (sym is) p
chosen deep kind k bytes x y false e p q = q

scalar_found : (deep kind : ℕ) (bytes : List ℕ) → IsFound deep kind bytes (scalar_at kind bytes)
unfolding scalar_at
scalar_found deep kind bytes =
    chosen deep kind 4 bytes _ _ (kind == 4) refl (literal_found deep bytes)
    (chosen deep kind 5 bytes _ _ (kind == 5) refl (number_found deep 5 2 (signed 2) bytes (λ le. (omega arith, inl (refl, signed_spelled 2 bytes le))))
    (chosen deep kind 6 bytes _ _ (kind == 6) refl (number_found deep 6 2 unsigned bytes (λ le. (omega arith, inr (inl (refl, unsigned_spelled 2 bytes le)))))
    (chosen deep kind 7 bytes _ _ (kind == 7) refl (number_found deep 7 4 (signed 4) bytes (λ le. (omega arith, inr (inr (inl (refl, signed_spelled 4 bytes le))))))
    (chosen deep kind 8 bytes _ _ (kind == 8) refl (number_found deep 8 4 unsigned bytes (λ le. (omega arith, inr (inr (inr (inl (refl, unsigned_spelled 4 bytes le)))))))
    (chosen deep kind 9 bytes _ _ (kind == 9) refl (number_found deep 9 8 (signed 8) bytes (λ le. (omega arith, inr (inr (inr (inr (inl (refl, signed_spelled 8 bytes le))))))))
    (chosen deep kind 10 bytes _ _ (kind == 10) refl (number_found deep 10 8 unsigned bytes (λ le. (omega arith, inr (inr (inr (inr (inr (refl, unsigned_spelled 8 bytes le))))))))
    (chosen deep kind 11 bytes _ _ (kind == 11) refl (double_found deep bytes)
    (chosen deep kind 12 bytes _ _ (kind == 12) refl (text_found deep bytes)
    (chosen deep kind 15 bytes _ _ (kind == 15) refl (opaque_found deep bytes) (nothing deep kind bytes))))))))))

-- ---- places in bytes

-- a byte, and what stands behind it
opened : (bytes : List ℕ) (at : ℕ) → at < length bytes → drop at bytes ≡ slice_index bytes at ∷ drop (at + 1) bytes
opened [] at lt = absurd (omega (arith, lt))
opened (b ∷ bytes) zero lt = refl
opened (b ∷ bytes) (suc at) lt =
    let next : suc at + 1 ≡ suc (at + 1) = omega arith in
    rw next (opened bytes at (omega (arith, lt)))

-- the first bytes from a place on, as fewer of them and the others
split_there : (n m : ℕ) (at : ℕ) (bytes : List ℕ) → take (n + m) (drop at bytes) ≡ take n (drop at bytes) ++ take m (drop (at + n) bytes)
split_there n m at bytes = take-add n m (drop at bytes) ∙ ap (λ (x : List ℕ). take n (drop at bytes) ++ take m x) (drop-drop n at bytes)

-- all bytes from a place on
rest_there : (n at : ℕ) (bytes : List ℕ) → drop at bytes ≡ take n (drop at bytes) ++ drop (at + n) bytes
rest_there n at bytes = sym (take-append-drop n (drop at bytes)) ∙ ap (λ (x : List ℕ). take n (drop at bytes) ++ x) (drop-drop n at bytes)

taken : (n at : ℕ) (bytes : List ℕ) → at + n ≤ length bytes → length (take n (drop at bytes)) ≡ n
taken n at bytes le = length-take-le n (drop at bytes) (omega (arith, le, length-drop at bytes))

-- ---- entries

inlined_least : (width kind : ℕ) → is_inlined width kind ≡ true → 4 ≤ kind
inlined_least width kind e = grind (arith, nat_tests, e)

inlined_most : (width kind : ℕ) → is_inlined width kind ≡ true → kind ≤ 8
inlined_most width kind e = grind (arith, nat_tests, e)

inlined_wide : (width kind : ℕ) → is_inlined width kind ≡ true → 7 ≤ kind → width ≡ 4
inlined_wide width kind e le = grind (arith, nat_tests, e, le)

two_at_least : (width : ℕ) → (width ≡ 2) ⊎ (width ≡ 4) → 2 ≤ width
two_at_least width (inl e) = omega (arith, e)
two_at_least width (inr e) = omega (arith, e)

inlined_integer : (width kind : ℕ) (z : ℤ) (value : List ℕ) → 2 ≤ width → is_inlined width kind ≡ true → IsInteger z kind value → length value ≤ width
inlined_integer width kind z value two e (inl h) = omega (arith, two, h.1.0)
inlined_integer width kind z value two e (inr (inl h)) = omega (arith, two, h.1.0)
inlined_integer width kind z value two e (inr (inr (inl h))) = omega (arith, inlined_wide width kind e (omega (arith, h.0)), h.1.0)
inlined_integer width kind z value two e (inr (inr (inr (inl h)))) = omega (arith, inlined_wide width kind e (omega (arith, h.0)), h.1.0)
inlined_integer width kind z value two e (inr (inr (inr (inr (inl h))))) = absurd (omega (arith, inlined_most width kind e, h.0))
inlined_integer width kind z value two e (inr (inr (inr (inr (inr h))))) = absurd (omega (arith, inlined_most width kind e, h.0))

small_kind : (small kind width : ℕ) → HasWidth small kind width → kind ≤ small + 1
small_kind small kind width (inl h) = omega (arith, h.0)
small_kind small kind width (inr h) = omega (arith, h.0)

inlined_size : (width kind : ℕ) (d : Document) (value : List ℕ) → 2 ≤ width → is_inlined width kind ≡ true → SpellsValue d kind value → length value ≤ width
inlined_size width kind null value two e h = omega (arith, ap length h.1, two)
inlined_size width kind (boolean b) value two e h = omega (arith, ap length h.1, two)
inlined_size width kind (integer z) value two e h = inlined_integer width kind z value two e h
inlined_size width kind (double bits) value two e h = absurd (omega (arith, inlined_most width kind e, h.0))
inlined_size width kind (text content) value two e h = absurd (omega (arith, inlined_most width kind e, h.0))
inlined_size width kind (opaque own_type content) value two e h = absurd (omega (arith, inlined_most width kind e, h.1))
inlined_size width kind (array ds) value two e h = absurd (omega (arith, inlined_least width kind e, small_kind 2 kind h.0 h.1))
inlined_size width kind (object ms) value two e h = absurd (omega (arith, inlined_least width kind e, small_kind 0 kind h.0 h.1))

entry_opened : (width at : ℕ) (bytes : List ℕ) → at + (width + 1) ≤ length bytes → take (width + 1) (drop at bytes) ≡ slice_index bytes at ∷ take width (drop (at + 1) bytes)
entry_opened width at bytes le =
    let more : width + 1 ≡ suc width = omega arith in
    ap (take (width + 1)) (opened bytes at (omega (arith, le))) ∙ ap (λ (n : ℕ). take n (slice_index bytes at ∷ drop (at + 1) bytes)) more

-- without keys the texts of keys end where they begin
no_more : (width n key_at keys : ℕ) (names : List (List ℕ)) (ends : ℕ) (bytes : List ℕ) → n ≡ 0 → length names ≡ n → keys ≤ ends → ends ≤ length bytes
    → AreKeys names width keys (take (n * (width + 2)) (drop key_at bytes)) (take (ends - keys) (drop keys bytes)) → keys ≡ ends
no_more width n key_at keys [] ends bytes none count after within named =
    let len = taken (ends - keys) keys bytes (omega (arith, after, within)) in
    omega (arith, len, ap length named.1, after)
no_more width n key_at keys (name ∷ names) ends bytes none count after within named = absurd (omega (arith, count, none))

-- a reader of values, which finds what is spelled
record AllFound (deep : ℕ) (value : ℕ → List ℕ → Reading) : Type 0 where
  each : (kind : ℕ) (bytes : List ℕ) (d : Document) (n : ℕ) → value kind bytes ≡ Some (d, n) → Found deep kind bytes d n

record EntryFound (deep width at from : ℕ) (bytes : List ℕ) (d : Document) (next : ℕ) : Type 0 where
  entry : IsEntry (SpellsValue d) width from (take (width + 1) (drop at bytes)) (drop from bytes) next (drop next bytes)
  shallow : nesting d ≤ deep

module _ (deep width : ℕ) (value : ℕ → List ℕ → Reading) (found : AllFound deep value) (two : 2 ≤ width) where
  inlined_found : (at from : ℕ) (bytes : List ℕ) (d : Document) (next : ℕ) → at + (width + 1) ≤ length bytes → is_inlined width (slice_index bytes at) ≡ true
      → option_map {U = Document × ℕ} (λ x. (x.0, from)) (scalar_at (slice_index bytes at) (drop (at + 1) bytes)) ≡ Some (d, next) → EntryFound deep width at from bytes d next
  inlined_found at from bytes d next room small e =
      let kind = slice_index bytes at in
      let rest = drop (at + 1) bytes in
      let m = map_ok (scalar_at kind rest) (λ x. (x.0, from)) (d, next) e in
      let n = m.0.1 in
      let f = found_of deep kind rest (scalar_at kind rest) m.0.0 n (scalar_found deep kind rest) m.1 in
      let fits : n ≤ width = omega (arith, inlined_size width kind m.0.0 (take n rest) two small f.spelled, length-take-le n rest f.within) in
      let sum : width ≡ n + (width - n) = omega (arith, fits) in
      let split : take width rest ≡ take n rest ++ take (width - n) (drop n rest) = ap (λ (k : ℕ). take k rest) sum ∙ take-add n (width - n) rest in
      let len : length (take width rest) ≡ width = length-take-le width rest (omega (arith, room, length-drop (at + 1) bytes)) in
      subst (λ (y : Document × ℕ). EntryFound deep width at from bytes y.0 y.1) m.2
      (record {
        entry = inl (record {
          kind = kind;
          value = take n rest;
          unused = take (width - n) (drop n rest);
          whole = entry_opened width at bytes room ∙ ap (λ (x : List ℕ). kind ∷ x) split;
          fills = ap length (sym split) ∙ len;
          small = small;
          spelled = f.spelled;
          stays = refl;
          leaves = refl;
        });
        shallow = f.shallow;
      })

  placed_found : (at from : ℕ) (bytes : List ℕ) (d : Document) (next : ℕ) → at + (width + 1) ≤ length bytes → is_inlined width (slice_index bytes at) ≡ false
      → (value_place width bytes at from >>= λ place. option_map {U = Document × ℕ} (λ x. (x.0, place + x.1)) (value (slice_index bytes at) (drop place bytes))) ≡ Some (d, next) → EntryFound deep width at from bytes d next
  unfolding value_place
  placed_found at from bytes d next room large e =
      let kind = slice_index bytes at in
      let rest = drop (at + 1) bytes in
      let a = and_then_ok (value_place width bytes at from) (λ place. option_map {U = Document × ℕ} (λ x. (x.0, place + x.1)) (value kind (drop place bytes))) (d, next) e in
      let place = a.0 in
      let g = guarded (nat_le from (little_number width rest) && nat_le (little_number width rest) (length bytes)) (Some (little_number width rest)) place a.1 in
      let same : little_number width rest ≡ place = same_Some (little_number width rest) place g.1 in
      let tests = and_parts (nat_le from (little_number width rest)) (nat_le (little_number width rest) (length bytes)) g.0 in
      let from_le : from ≤ place = omega (arith, leb-true _ _ tests.0, same) in
      let place_le : place ≤ length bytes = omega (arith, leb-true _ _ tests.1, same) in
      let m = map_ok (value kind (drop place bytes)) (λ x. (x.0, place + x.1)) (d, next) a.2 in
      let n = m.0.1 in
      let f = found.each kind (drop place bytes) m.0.0 n m.1 in
      let gap = take (place - from) (drop from bytes) in
      let gap_len : length gap ≡ place - from = taken (place - from) from bytes (omega (arith, from_le, place_le)) in
      let value_len : length (take n (drop place bytes)) ≡ n = length-take-le n (drop place bytes) f.within in
      let back : from + (place - from) ≡ place = omega (arith, from_le) in
      let apart : drop from bytes ≡ gap ++ (take n (drop place bytes) ++ drop (place + n) bytes) =
      rest_there (place - from) from bytes ∙ ap (λ (x : List ℕ). gap ++ x) (ap (λ (k : ℕ). drop k bytes) back ∙ rest_there n place bytes) in
      subst (λ (y : Document × ℕ). EntryFound deep width at from bytes y.0 y.1) m.2
      (record {
        entry = inr (record {
          kind = kind;
          offset = take width rest;
          gap = gap;
          value = take n (drop place bytes);
          whole = entry_opened width at bytes room;
          large = large;
          apart = apart;
          points = (length-take-le width rest (omega (arith, room, length-drop (at + 1) bytes)), sym (front_number width rest) ∙ same ∙ omega (arith, gap_len, from_le));
          spelled = f.spelled;
          ends = omega (arith, gap_len, value_len, from_le);
        });
        shallow = f.shallow;
      })

  value_in_found : (at from : ℕ) (bytes : List ℕ) (d : Document) (next : ℕ) → at + (width + 1) ≤ length bytes → value_in value width bytes at from ≡ Some (d, next)
      → EntryFound deep width at from bytes d next
  unfolding value_in
  value_in_found at from bytes d next room e = by_kind (is_inlined width (slice_index bytes at)) refl e
    where
      by_kind : (b : Bool) → is_inlined width (slice_index bytes at) ≡ b
          → cond b (option_map {U = Document × ℕ} (λ x. (x.0, from)) (scalar_at (slice_index bytes at) (drop (at + 1) bytes)))
          (value_place width bytes at from >>= λ place. option_map {U = Document × ℕ} (λ x. (x.0, place + x.1)) (value (slice_index bytes at) (drop place bytes))) ≡ Some (d, next)
          → EntryFound deep width at from bytes d next
      by_kind true is e = inlined_found at from bytes d next room is e
      by_kind false is e = placed_found at from bytes d next room is e

  -- ---- elements

  record ElementsFound (n at from : ℕ) (bytes : List ℕ) (ds : Elements) : Type 0 where
    spelled : AreElements ds width from (take (n * (width + 1)) (drop at bytes)) (drop from bytes)
    count : elements_count ds ≡ n
    shallow : elements_nesting ds ≤ deep

  elements_found : (n at from : ℕ) (bytes : List ℕ) (ds : Elements) → at + n * (width + 1) ≤ length bytes → elements_in value width bytes n at from ≡ Some ds
      → ElementsFound n at from bytes ds
  unfolding elements_in
  elements_found zero at from bytes ds room e =
      let none : 0 * (width + 1) ≡ 0 = omega arith in
      subst (ElementsFound 0 at from bytes) (same_Some no_elements ds e) (record { spelled = ap (λ (k : ℕ). take k (drop at bytes)) none; count = refl; shallow = omega arith })
  elements_found (suc n) at from bytes ds room e =
      let a = and_then_ok (value_in value width bytes at from) (λ x. option_map (element x.0) (elements_in value width bytes n (at + (width + 1)) x.1)) ds e in
      let d = a.0.0 in let next = a.0.1 in
      let first = value_in_found at from bytes d next (omega (arith, room)) a.1 in
      let m = map_ok (elements_in value width bytes n (at + (width + 1)) next) (element d) ds a.2 in
      let others = elements_found n (at + (width + 1)) next bytes m.0 (omega (arith, room)) m.1 in
      let sum : suc n * (width + 1) ≡ width + 1 + n * (width + 1) = omega arith in
      let split : take (suc n * (width + 1)) (drop at bytes) ≡ take (width + 1) (drop at bytes) ++ take (n * (width + 1)) (drop (at + (width + 1)) bytes) =
      ap (λ (k : ℕ). take k (drop at bytes)) sum ∙ split_there (width + 1) (n * (width + 1)) at bytes in
      subst (ElementsFound (suc n) at from bytes) m.2
      (record {
        spelled = (take (width + 1) (drop at bytes), take (n * (width + 1)) (drop (at + (width + 1)) bytes), next, drop next bytes, split, first.entry, others.spelled);
        count = ap suc others.count;
        shallow = omega (arith, first.shallow, others.shallow);
      })

  -- ---- members

  record KeyFound (at keys : ℕ) (bytes key : List ℕ) (next : ℕ) : Type 0 where
    place : ℕ
    len : ℕ
    starts : little_number width (drop at bytes) ≡ place
    counts : little_number 2 (drop (at + width) bytes) ≡ len
    from : keys ≤ place
    within : place + len ≤ length bytes
    is : key ≡ take len (drop place bytes)
    is_text : is_utf8 key ≡ true
    ends : next ≡ place + len

  key_found : (at keys : ℕ) (bytes key : List ℕ) (next : ℕ) → key_in width bytes at keys ≡ Some (key, next) → KeyFound at keys bytes key next
  unfolding key_in utf8_text
  key_found at keys bytes key next e =
      let place = little_number width (drop at bytes) in
      let len = little_number 2 (drop (at + width) bytes) in
      let content = take len (drop place bytes) in
      let a = guarded (nat_le keys place && nat_le (place + len) (length bytes)) (option_map {U = List ℕ × ℕ} (λ s. (s, place + len)) (cond (is_utf8 content) (Some content) None)) (key, next) e in
      let tests = and_parts (nat_le keys place) (nat_le (place + len) (length bytes)) a.0 in
      let m = map_ok (cond (is_utf8 content) (Some content) None) (λ s. (s, place + len)) (key, next) a.1 in
      let g = guarded (is_utf8 content) (Some content) m.0 m.1 in
      let same : content ≡ key = same_Some content m.0 g.1 ∙ ap (λ (y : List ℕ × ℕ). y.0) m.2 in
      record {
        place = place;
        len = len;
        starts = refl;
        counts = refl;
        from = leb-true keys place tests.0;
        within = leb-true (place + len) (length bytes) tests.1;
        is = sym same;
        is_text = ap is_utf8 (sym same) ∙ g.0;
        ends = sym (ap (λ (y : List ℕ × ℕ). y.1) m.2);
      }

  record MembersFound (n key_at keys at from : ℕ) (bytes : List ℕ) (ms : Members) : Type 0 where
    ends : ℕ
    after : keys ≤ ends
    within : ends ≤ length bytes
    named : AreKeys (keys_of ms) width keys (take (n * (width + 2)) (drop key_at bytes)) (take (ends - keys) (drop keys bytes))
    last : (m i : ℕ) → n ≡ suc m → i ≡ key_at + m * (width + 2) → little_number width (drop i bytes) + little_number 2 (drop (i + width) bytes) ≡ ends
    spelled : AreMembers ms width from (take (n * (width + 1)) (drop at bytes)) (drop from bytes)
    count : length (keys_of ms) ≡ n
    shallow : members_nesting ms ≤ deep

  -- the entry of a key, its text, and what stands behind both
  key_entries : (n key_at keys ends : ℕ) (bytes key : List ℕ) (next : ℕ) (k : KeyFound key_at keys bytes key next) (others : List (List ℕ)) → key_at + suc n * (width + 2) ≤ length bytes
      → next ≤ ends → ends ≤ length bytes → AreKeys others width next (take (n * (width + 2)) (drop (key_at + (width + 2)) bytes)) (take (ends - next) (drop next bytes))
      → AreKeys (key ∷ others) width keys (take (suc n * (width + 2)) (drop key_at bytes)) (take (ends - keys) (drop keys bytes))
  key_entries n key_at keys ends bytes key next k others room before within more =
      let offset = take width (drop key_at bytes) in
      let len = take 2 (drop (key_at + width) bytes) in
      let gap = take (k.place - keys) (drop keys bytes) in
      let from = k.from in
      let inside = k.within in
      let at_end = k.ends in
      let gap_len : length gap ≡ k.place - keys = taken (k.place - keys) keys bytes (omega (arith, from, inside)) in
      let key_len : length key ≡ k.len = ap length k.is ∙ taken k.len k.place bytes inside in
      let back : keys + (k.place - keys) ≡ k.place = omega (arith, from) in
      let sum : suc n * (width + 2) ≡ width + (2 + n * (width + 2)) = omega arith in
      let behind : key_at + width + 2 ≡ key_at + (width + 2) = omega arith in
      let entries : take (suc n * (width + 2)) (drop key_at bytes) ≡ offset ++ (len ++ take (n * (width + 2)) (drop (key_at + (width + 2)) bytes)) =
      ap (λ (j : ℕ). take j (drop key_at bytes)) sum ∙ split_there width (2 + n * (width + 2)) key_at bytes
      ∙ ap (λ (x : List ℕ). offset ++ x) (split_there 2 (n * (width + 2)) (key_at + width) bytes ∙ ap (λ (j : ℕ). len ++ take (n * (width + 2)) (drop j bytes)) behind) in
      let texts_sum : ends - keys ≡ k.place - keys + (k.len + (ends - next)) = omega (arith, from, at_end, before) in
      let texts : take (ends - keys) (drop keys bytes) ≡ gap ++ (key ++ take (ends - next) (drop next bytes)) =
      ap (λ (j : ℕ). take j (drop keys bytes)) texts_sum ∙ split_there (k.place - keys) (k.len + (ends - next)) keys bytes
      ∙ ap (λ (x : List ℕ). gap ++ x) (ap (λ (j : ℕ). take (k.len + (ends - next)) (drop j bytes)) back ∙ split_there k.len (ends - next) k.place bytes
      ∙ ap (λ (x : List ℕ). x ++ take (ends - next) (drop (k.place + k.len) bytes)) (sym k.is) ∙ ap (λ (j : ℕ). key ++ take (ends - next) (drop j bytes)) (sym at_end)) in
      let reach : next ≡ keys + length gap + length key = omega (arith, at_end, gap_len, key_len, from) in (
        offset,
        len,
        take (n * (width + 2)) (drop (key_at + (width + 2)) bytes),
        gap,
        take (ends - next) (drop next bytes),
        entries,
        texts,
        (taken width key_at bytes (omega (arith, room)), sym (front_number width (drop key_at bytes)) ∙ k.starts ∙ omega (arith, gap_len, from)),
        (taken 2 (key_at + width) bytes (omega (arith, room)), sym (front_number 2 (drop (key_at + width) bytes)) ∙ k.counts ∙ sym key_len),
        k.is_text,
        subst (λ (j : ℕ). AreKeys others width j (take (n * (width + 2)) (drop (key_at + (width + 2)) bytes)) (take (ends - next) (drop next bytes))) reach more,
      )

  last_found : (n key_at keys : ℕ) (bytes key : List ℕ) (next ends : ℕ) → KeyFound key_at keys bytes key next → (n ≡ 0 → next ≡ ends)
      → ((m i : ℕ) → n ≡ suc m → i ≡ key_at + (width + 2) + m * (width + 2) → little_number width (drop i bytes) + little_number 2 (drop (i + width) bytes) ≡ ends)
      → (m i : ℕ) → suc n ≡ suc m → i ≡ key_at + m * (width + 2) → little_number width (drop i bytes) + little_number 2 (drop (i + width) bytes) ≡ ends
  last_found zero key_at keys bytes key next ends k here more m i is at =
      let same : i ≡ key_at = omega (arith, ap (λ (j : ℕ). j * (width + 2)) {x = m} {y = 0} (omega (arith, is)), at) in
      rw same (ap (λ (x : ℕ). x + little_number 2 (drop (key_at + width) bytes)) k.starts ∙ ap (λ (x : ℕ). k.place + x) k.counts ∙ sym k.ends ∙ here refl)
  last_found (suc n) key_at keys bytes key next ends k here more zero i is at = absurd (omega (arith, is))
  last_found (suc n) key_at keys bytes key next ends k here more (suc m) i is at = more m i (omega (arith, is)) (omega (arith, at))

  members_found : (n key_at keys at from : ℕ) (bytes : List ℕ) (ms : Members) → key_at + n * (width + 2) ≤ length bytes → keys ≤ length bytes → at + n * (width + 1) ≤ length bytes
      → members_in value width bytes n key_at keys at from ≡ Some ms → MembersFound n key_at keys at from bytes ms
  unfolding members_in
  members_found zero key_at keys at from bytes ms key_room keys_le room e =
      let none : 0 * (width + 1) ≡ 0 = omega arith in
      let no_keys : 0 * (width + 2) ≡ 0 = omega arith in
      let no_text : keys - keys ≡ 0 = omega arith in
      subst (MembersFound 0 key_at keys at from bytes) (same_Some no_members ms e)
      (record {
        ends = keys;
        after = omega arith;
        within = keys_le;
        named = (ap (λ (k : ℕ). take k (drop key_at bytes)) no_keys, ap (λ (k : ℕ). take k (drop keys bytes)) no_text);
        last = λ m i is. absurd (omega (arith, is));
        spelled = ap (λ (k : ℕ). take k (drop at bytes)) none;
        count = refl;
        shallow = omega arith;
      })
  members_found (suc n) key_at keys at from bytes ms key_room keys_le room e =
      let a = and_then_ok (key_in width bytes key_at keys)
      (λ k. value_in value width bytes at from >>= λ x. option_map (member k.0 x.0) (members_in value width bytes n (key_at + (width + 2)) k.1 (at + (width + 1)) x.1)) ms e in
      let key = a.0.0 in let next_key = a.0.1 in
      let k = key_found key_at keys bytes key next_key a.1 in
      let b = and_then_ok (value_in value width bytes at from) (λ x. option_map (member key x.0) (members_in value width bytes n (key_at + (width + 2)) next_key (at + (width + 1)) x.1)) ms a.2 in
      let d = b.0.0 in let next = b.0.1 in
      let first = value_in_found at from bytes d next (omega (arith, room)) b.1 in
      let m = map_ok (members_in value width bytes n (key_at + (width + 2)) next_key (at + (width + 1)) next) (member key d) ms b.2 in
      let inside = k.within in
      let at_end = k.ends in
      let start = k.from in
      let others = members_found n (key_at + (width + 2)) next_key (at + (width + 1)) next bytes m.0 (omega (arith, key_room)) (omega (arith, inside, at_end)) (omega (arith, room)) m.1 in
      let sum : suc n * (width + 1) ≡ width + 1 + n * (width + 1) = omega arith in
      let split : take (suc n * (width + 1)) (drop at bytes) ≡ take (width + 1) (drop at bytes) ++ take (n * (width + 1)) (drop (at + (width + 1)) bytes) =
      ap (λ (j : ℕ). take j (drop at bytes)) sum ∙ split_there (width + 1) (n * (width + 1)) at bytes in
      subst (MembersFound (suc n) key_at keys at from bytes) m.2
      (record {
        ends = others.ends;
        after = omega (arith, others.after, at_end, start);
        within = others.within;
        named = key_entries n key_at keys others.ends bytes key next_key k (keys_of m.0) key_room others.after others.within others.named;
        last = last_found n key_at keys bytes key next_key others.ends k (λ none. no_more width n (key_at + (width + 2)) next_key (keys_of m.0) others.ends bytes none others.count others.after others.within others.named) others.last;
        spelled = (take (width + 1) (drop at bytes), take (n * (width + 1)) (drop (at + (width + 1)) bytes), next, drop next bytes, split, first.entry, others.spelled);
        count = ap suc others.count;
        shallow = omega (arith, first.shallow, others.shallow);
      })

-- ---- containers

record IsHeld (entry_len width : ℕ) (bytes : List ℕ) (c : Container) : Type 0 where
  room : 2 * width + c.count * entry_len ≤ length c.bytes
  within : length c.bytes ≤ length bytes
  front : c.bytes ≡ take (length c.bytes) bytes
  counts : little_number width c.bytes ≡ c.count
  sizes : little_number width (drop width c.bytes) ≡ length c.bytes

container_found : (entry_len width : ℕ) (bytes : List ℕ) (c : Container) → container_at entry_len width bytes ≡ Some c → IsHeld entry_len width bytes c
unfolding container_at
container_found entry_len width bytes c e =
    let count = little_number width bytes in
    let size = little_number width (drop width bytes) in
    let made : Container = record { count = count; bytes = take size bytes } in
    let a = guarded (nat_le (2 * width) (length bytes)) (cond (nat_le (2 * width + count * entry_len) size && nat_le size (length bytes)) (Some made) None) c e in
    let b = guarded (nat_le (2 * width + count * entry_len) size && nat_le size (length bytes)) (Some made) c a.1 in
    let tests = and_parts (nat_le (2 * width + count * entry_len) size) (nat_le size (length bytes)) b.0 in
    let room : 2 * width + count * entry_len ≤ size = leb-true _ _ tests.0 in
    let within : size ≤ length bytes = leb-true _ _ tests.1 in
    let len : length (take size bytes) ≡ size = length-take-le size bytes within in
    let parts : size ≡ width + (size - width) = omega (arith, room) in
    let behind : drop width (take size bytes) ≡ take (size - width) (drop width bytes) = ap (λ (k : ℕ). drop width (take k bytes)) parts ∙ drop-take width (size - width) bytes in
    subst (IsHeld entry_len width bytes) (same_Some made c b.1)
    (record {
      room = omega (arith, len, room);
      within = omega (arith, len, within);
      front = ap (λ (k : ℕ). take k bytes) (sym len);
      counts = little_from-take 0 width size bytes (omega (arith, room));
      sizes = ap (little_number width) behind ∙ little_from-take 0 width (size - width) (drop width bytes) (omega (arith, room)) ∙ sym len;
    })

width_of : (small kind width : ℕ) → HasWidth small kind width → 2 ≤ width
width_of small kind width (inl h) = omega (arith, h.1)
width_of small kind width (inr h) = omega (arith, h.1)

-- the count, the size and what stands behind them
head_split : (width : ℕ) (bytes : List ℕ) → bytes ≡ take width bytes ++ (take width (drop width bytes) ++ drop (2 * width) bytes)
head_split width bytes =
    let twice : width + width ≡ 2 * width = omega arith in
    sym (take-append-drop width bytes) ∙ ap (λ (x : List ℕ). take width bytes ++ x) (rest_there width width bytes ∙ ap (λ (k : ℕ). take width (drop width bytes) ++ drop k bytes) twice)

head_numbers : (entry_len width : ℕ) (bytes : List ℕ) (c : Container) → IsHeld entry_len width bytes c
    → IsNumber width c.count (take width c.bytes) × IsNumber width (length c.bytes) (take width (drop width c.bytes))
head_numbers entry_len width bytes c held =
    let room = held.room in (
      (length-take-le width c.bytes (omega (arith, room)), sym (front_number width c.bytes) ∙ held.counts),
      (taken width width c.bytes (omega (arith, room)), sym (front_number width (drop width c.bytes)) ∙ held.sizes),
    )

last_key : (width m : ℕ) (bytes : List ℕ)
    → keys_end width bytes (suc m) ≡ little_number width (drop (2 * width + m * (width + 2)) bytes) + little_number 2 (drop (2 * width + m * (width + 2) + width) bytes)
last_key width m bytes =
    let some : (suc m == 0) ≡ false = grind (arith, nat_tests) in
    let less : suc m - 1 ≡ m = omega arith in
    rw (some, less) refl

-- without members nothing is taken of the values
no_members_anywhere : (ms : Members) (width from place : ℕ) (entries values others : List ℕ) → length (keys_of ms) ≡ 0 → AreMembers ms width from entries values → AreMembers ms width place entries others
no_members_anywhere no_members width from place entries values others none h = h
no_members_anywhere (member k d ms) width from place entries values others none h = absurd (omega (arith, none))

module _ (deep : ℕ) (value : ℕ → List ℕ → Reading) (found : AllFound deep value) where
  array_spelled : (kind width : ℕ) (bytes : List ℕ) (c : Container) (ds : Elements) → HasWidth 2 kind width → IsHeld (element_entry width) width bytes c → elements_of value width c ≡ Some ds
      → Found (suc deep) kind bytes (array ds) (length c.bytes)
  array_spelled kind width bytes c ds wide held e =
      let two = width_of 2 kind width wide in
      let room = held.room in
      let size = c.count * (width + 1) in
      let all = elements_found deep width value found two c.count (2 * width) (2 * width + size) c.bytes ds (omega (arith, room)) e in
      let entries = take size (drop (2 * width) c.bytes) in
      let len : length entries ≡ size = taken size (2 * width) c.bytes (omega (arith, room)) in
      let numbers = head_numbers (element_entry width) width bytes c held in
      let place : 2 * width + size ≡ 2 * width + length entries = omega (arith, len) in
      let spelled : SpellsValue (array ds) kind c.bytes = (
        width,
        wide,
        record {
          count = take width c.bytes;
          size = take width (drop width c.bytes);
          entries = entries;
          values = drop (2 * width + size) c.bytes;
          whole = head_split width c.bytes ∙ ap (λ (x : List ℕ). take width c.bytes ++ (take width (drop width c.bytes) ++ x)) (rest_there size (2 * width) c.bytes);
          counts = subst (λ (k : ℕ). IsNumber width k (take width c.bytes)) (sym all.count) numbers.0;
          sizes = numbers.1;
          spelled = subst (λ (k : ℕ). AreElements ds width k entries (drop (2 * width + size) c.bytes)) place all.spelled;
        },
      ) in
      record { within = held.within; shallow = omega (arith, all.shallow); spelled = subst (SpellsValue (array ds) kind) held.front spelled }

  array_found : (kind width : ℕ) (bytes : List ℕ) (d : Document) (n : ℕ) → HasWidth 2 kind width → array_at value width bytes ≡ Some (d, n) → Found (suc deep) kind bytes d n
  unfolding array_at
  array_found kind width bytes d n wide e =
      let a = and_then_ok (container_at (element_entry width) width bytes) (λ c. option_map (λ ds. (array ds, length c.bytes)) (elements_of value width c)) (d, n) e in
      let m = map_ok (elements_of value width a.0) (λ ds. (array ds, length a.0.bytes)) (d, n) a.2 in
      subst (λ (y : Document × ℕ). Found (suc deep) kind bytes y.0 y.1) m.2
      (array_spelled kind width bytes a.0 m.0 wide (container_found (element_entry width) width bytes a.0 a.1) m.1)

  -- the members of an object, the first key's text begins behind all entries
  object_spelled : (kind width : ℕ) (bytes : List ℕ) (c : Container) (ms : Members) → HasWidth 0 kind width → IsHeld (member_entries width) width bytes c → members_of value width c ≡ Some ms
      → Found (suc deep) kind bytes (object ms) (length c.bytes)
  object_spelled kind width bytes c ms wide held e = by_count c.count refl
    where
      two : 2 ≤ width
      two = width_of 0 kind width wide

      all : MembersFound deep width value found two c.count (2 * width) (2 * width + c.count * member_entries width) (2 * width + c.count * (width + 2)) (keys_end width c.bytes c.count) c.bytes ms
      all =
          let room = held.room in
          members_found deep width value found two c.count (2 * width) (2 * width + c.count * member_entries width) (2 * width + c.count * (width + 2)) (keys_end width c.bytes c.count) c.bytes ms
          (omega (arith, room)) (omega (arith, room)) (omega (arith, room)) e

      made : AreMembers ms width all.ends (take (c.count * (width + 1)) (drop (2 * width + c.count * (width + 2)) c.bytes)) (drop all.ends c.bytes) → Found (suc deep) kind bytes (object ms) (length c.bytes)
      made members =
          let room = held.room in
          let ends = all.ends in
          let after = all.after in
          let key_size = c.count * (width + 2) in
          let size = c.count * (width + 1) in
          let keys_place = 2 * width + c.count * member_entries width in
          let key_entries = take key_size (drop (2 * width) c.bytes) in
          let entries = take size (drop (2 * width + key_size) c.bytes) in
          let keys = take (ends - keys_place) (drop keys_place c.bytes) in
          let key_len : length key_entries ≡ key_size = taken key_size (2 * width) c.bytes (omega (arith, room)) in
          let len : length entries ≡ size = taken size (2 * width + key_size) c.bytes (omega (arith, room)) in
          let keys_len : length keys ≡ ends - keys_place = taken (ends - keys_place) keys_place c.bytes (omega (arith, after, all.within)) in
          let numbers = head_numbers (member_entries width) width bytes c held in
          let behind : 2 * width + key_size + size ≡ keys_place = omega arith in
          let back : keys_place + (ends - keys_place) ≡ ends = omega (arith, after) in
          let split : drop (2 * width) c.bytes ≡ key_entries ++ (entries ++ (keys ++ drop ends c.bytes)) =
          rest_there key_size (2 * width) c.bytes
          ∙ ap (λ (x : List ℕ). key_entries ++ x) (rest_there size (2 * width + key_size) c.bytes
          ∙ ap (λ (x : List ℕ). entries ++ x) (ap (λ (k : ℕ). drop k c.bytes) behind ∙ rest_there (ends - keys_place) keys_place c.bytes ∙ ap (λ (k : ℕ). keys ++ drop k c.bytes) back)) in
          let named_at : keys_place ≡ 2 * width + (length key_entries + length entries) = omega (arith, key_len, len) in
          let place : ends ≡ 2 * width + (length key_entries + (length entries + length keys)) = omega (arith, key_len, len, keys_len, after) in
          let spelled : SpellsValue (object ms) kind c.bytes = (
            width,
            wide,
            record {
              count = take width c.bytes;
              size = take width (drop width c.bytes);
              key_entries = key_entries;
              entries = entries;
              keys = keys;
              values = drop ends c.bytes;
              whole = head_split width c.bytes ∙ ap (λ (x : List ℕ). take width c.bytes ++ (take width (drop width c.bytes) ++ x)) split;
              counts = subst (λ (k : ℕ). IsNumber width k (take width c.bytes)) (sym all.count) numbers.0;
              sizes = numbers.1;
              named = subst (λ (k : ℕ). AreKeys (keys_of ms) width k key_entries keys) named_at all.named;
              spelled = subst (λ (k : ℕ). AreMembers ms width k entries (drop ends c.bytes)) place members;
            },
          ) in
          record { within = held.within; shallow = omega (arith, all.shallow); spelled = subst (SpellsValue (object ms) kind) held.front spelled }

      by_count : (n : ℕ) → c.count ≡ n → Found (suc deep) kind bytes (object ms) (length c.bytes)
      by_count zero is = made (no_members_anywhere ms width (keys_end width c.bytes c.count) all.ends _ (drop (keys_end width c.bytes c.count) c.bytes) (drop all.ends c.bytes) (all.count ∙ is) all.spelled)
      by_count (suc m) is =
          let last = all.last m (2 * width + m * (width + 2)) is refl in
          let ends : keys_end width c.bytes c.count ≡ all.ends = ap (keys_end width c.bytes) is ∙ last_key width m c.bytes ∙ last in
          made (subst (λ (k : ℕ). AreMembers ms width k (take (c.count * (width + 1)) (drop (2 * width + c.count * (width + 2)) c.bytes)) (drop k c.bytes)) ends all.spelled)

  object_found : (kind width : ℕ) (bytes : List ℕ) (d : Document) (n : ℕ) → HasWidth 0 kind width → object_at value width bytes ≡ Some (d, n) → Found (suc deep) kind bytes d n
  unfolding object_at
  object_found kind width bytes d n wide e =
      let a = and_then_ok (container_at (member_entries width) width bytes) (λ c. option_map (λ ms. (object ms, length c.bytes)) (members_of value width c)) (d, n) e in
      let m = map_ok (members_of value width a.0) (λ ms. (object ms, length a.0.bytes)) (d, n) a.2 in
      subst (λ (y : Document × ℕ). Found (suc deep) kind bytes y.0 y.1) m.2
      (object_spelled kind width bytes a.0 m.0 wide (container_found (member_entries width) width bytes a.0 a.1) m.1)

deeper : (deep kind : ℕ) (bytes : List ℕ) (d : Document) (n : ℕ) → Found 0 kind bytes d n → Found deep kind bytes d n
deeper deep kind bytes d n f = record { within = f.within; shallow = omega (arith, f.shallow); spelled = f.spelled }

value_found : (deep kind : ℕ) (bytes : List ℕ) (d : Document) (n : ℕ) → value_at deep kind bytes ≡ Some (d, n) → Found deep kind bytes d n
unfolding value_at
value_found zero kind bytes d n e = found_of 0 kind bytes (scalar_at kind bytes) d n (scalar_found 0 kind bytes) e
value_found (suc deep) kind bytes d n e =
    by_kind (kind == 0) (kind == 1) (kind == 2) (kind == 3) refl refl refl refl e (record { each = λ k bs doc m is. value_found deep k bs doc m is })
  where
    by_kind : (a b c f : Bool) → (kind == 0) ≡ a → (kind == 1) ≡ b → (kind == 2) ≡ c → (kind == 3) ≡ f
        → cond a (object_at (value_at deep) 2 bytes) (cond b (object_at (value_at deep) 4 bytes) (cond c (array_at (value_at deep) 2 bytes) (cond f (array_at (value_at deep) 4 bytes) (scalar_at kind bytes)))) ≡ Some (d, n)
        → AllFound deep (value_at deep) → Found (suc deep) kind bytes d n
    by_kind true b c f w x y z e found = let is : kind ≡ 0 = grind (arith, nat_tests, w) in object_found deep (value_at deep) found kind 2 bytes d n (inl (is, refl)) e
    by_kind false true c f w x y z e found = let is : kind ≡ 1 = grind (arith, nat_tests, x) in object_found deep (value_at deep) found kind 4 bytes d n (inr (is, refl)) e
    by_kind false false true f w x y z e found = let is : kind ≡ 2 = grind (arith, nat_tests, y) in array_found deep (value_at deep) found kind 2 bytes d n (inl (is, refl)) e
    by_kind false false false true w x y z e found = let is : kind ≡ 3 = grind (arith, nat_tests, z) in array_found deep (value_at deep) found kind 4 bytes d n (inr (is, refl)) e
    by_kind false false false false w x y z e found = found_of (suc deep) kind bytes (scalar_at kind bytes) d n (scalar_found (suc deep) kind bytes) e

pub document_found : (bytes : List ℕ) (d : Document) → document_at bytes ≡ Some d → Spells d bytes
unfolding document_at
document_found [] d e = sym (same_Some null d e)
document_found (kind ∷ bytes) d e =
    let m = map_ok (value_at greatest_depth kind bytes) (λ x. x.0) d e in
    let n = m.0.1 in
    let f = value_found greatest_depth kind bytes m.0.0 n m.1 in
    subst (λ (x : Document). Spells x (kind ∷ bytes)) m.2 (take n bytes, drop n bytes, sym (take-append-drop n bytes), f.shallow, f.spelled)
