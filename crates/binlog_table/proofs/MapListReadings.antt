-- The lists in a table map's fields that are read are spelled so, and those that are spelled so are read.
use Rattle.std.proofs.Common.{◌≡◌, ℕ, zero, suc, ◌+◌, ◌<◌, ◌≤◌, Bool, true, false, ltb, List, [], ◌∷◌, ◌++◌, length, Some, Ok, refl, sym, ap, subst, ◌∙◌, append_assoc, append-nil, arith}
use Rattle.std.specs.Prelude.{not, ◌&&◌, ◌==◌}
use Rattle.std.specs.List.{list_any, AllByRecursion}
use Rattle.std.proofs.lemmas.Bool.{and_parts, not-true, ltb-true, lt-ltb}
use Rattle.std.proofs.lemmas.List.{length-append}
use Rattle.std.proofs.lemmas.Option.{same_Some}
use Rattle.binlog_table.specs.MapResult.{◌>>=◌}
use Rattle.binlog_table.specs.Fields.{is_utf8, text_of, number_at, string_at}
use Rattle.binlog_table.specs.Names.{used_up, names_at, strings_at, are_distinct, distinct_names, column_names, index_at, new_index, key_from}
use Rattle.binlog_table.specs.MapLists.{AreStrings, AreColumnNames, IsIndex, AreIndexes, AreNew, AreKeyColumns}
use Rattle.binlog_table.proofs.FirstFaults.{bind_then, ok_same, guarded_ok}
use Rattle.binlog_table.proofs.MapBodies.{number-found, number-only, packed-some, string-only}
use Rattle.binlog_table.proofs.ValueNameReadings.{strings-found, used_up-found}

-- ---- the names of columns

-- names are strings in UTF-8
names_at-found : (n : ℕ) (bytes : List ℕ) (x : List (List ℕ) × List ℕ) → names_at n bytes ≡ Ok x → (strings_at n bytes ≡ Ok x) × AllByRecursion (λ name. is_utf8 name ≡ true) x.0
unfolding names_at strings_at
names_at-found zero bytes x e = (e, subst (λ (y : List (List ℕ) × List ℕ). AllByRecursion (λ name. is_utf8 name ≡ true) y.0) (ok_same ([], bytes) x e) tt)
names_at-found (suc n) bytes x e =
    bind_then (string_at bytes) _ x e (λ s e1 k1. bind_then (text_of s.0) _ x k1 (λ t e2 k2. bind_then (names_at n s.1) _ x k2 (λ r e3 k3.
    let g = guarded_ok (is_utf8 s.0) (Ok s.0) t e2 in
    let others = names_at-found n s.1 r e3 in
    let same : (s.0 ∷ r.0, r.1) ≡ x = ap (λ (y : List ℕ). (y ∷ r.0, r.1)) (ok_same s.0 t g.1) ∙ ok_same (t ∷ r.0, r.1) x k3 in
    subst (λ (y : List (List ℕ) × List ℕ). (strings_at (suc n) bytes ≡ Ok y) × AllByRecursion (λ name. is_utf8 name ≡ true) y.0) same (rw (e1, others.0) refl, (g.0, others.1)))))

names_at-only : (names : List (List ℕ)) (text rest : List ℕ) → AreStrings names text → AllByRecursion (λ name. is_utf8 name ≡ true) names → names_at (length names) (text ++ rest) ≡ Ok (names, rest)
unfolding names_at
names_at-only [] text rest h u = rw h refl
names_at-only (name ∷ names) text rest h u =
    let whole : text ++ rest ≡ h.0 ++ (h.1 ++ rest) = rw h.2 (append_assoc h.0 h.1 rest) in
    rw (whole, string-only name h.0 (h.1 ++ rest) h.3, u.0, names_at-only names h.1 rest h.4 u.1) refl

pub column_names-found : (count : ℕ) (value : List ℕ) (names : List (List ℕ)) → column_names count (Some value) ≡ Ok (Some names) → AreColumnNames count names value
unfolding column_names
column_names-found count value names e =
    bind_then (names_at count value) _ (Some names) e (λ r e1 k1. bind_then (used_up r.1) _ (Some names) k1 (λ u e2 k2. bind_then (distinct_names r.0) _ (Some names) k2 (λ d e3 k3.
    let distinct = guarded_ok (are_distinct r.0) (Ok r.0) d e3 in
    let all : r.0 ≡ names = ok_same r.0 d distinct.1 ∙ same_Some d names (ok_same (Some d) (Some names) k3) in
    let read = names_at-found count value r e1 in
    let f = strings-found count value r read.0 in
    subst (λ (ns : List (List ℕ)). AreColumnNames count ns value) all (record {
      spelled = subst (AreStrings r.0) (sym (f.1 ∙ ap (λ (y : List ℕ). f.0 ++ y) (used_up-found r.1 u e2) ∙ append-nil f.0)) f.2;
      one_each = f.3;
      texts = read.1;
      distinct = distinct.0;
    }))))

pub column_names-only : (count : ℕ) (value : List ℕ) (names : List (List ℕ)) → AreColumnNames count names value → column_names count (Some value) ≡ Ok (Some names)
unfolding column_names
column_names-only count value names h =
    let all : names_at count value ≡ Ok (names, []) = ap (λ (n : ℕ). names_at n value) (sym h.one_each) ∙ ap (names_at (length names)) (sym (append-nil value)) ∙ names_at-only names value [] h.spelled h.texts in
    rw (all, h.distinct) refl

-- ---- the key

index-found : (prefixed : Bool) (bytes : List ℕ) (x : ℕ × List ℕ) → index_at prefixed bytes ≡ Ok x → (text : List ℕ) × IsIndex prefixed x.0 text × (bytes ≡ text ++ x.1)
unfolding index_at
index-found false bytes x e = number-found bytes x e
index-found true bytes x e =
    bind_then (number_at bytes) _ x e (λ i e1 k1. bind_then (number_at i.1) _ x k1 (λ p e2 k2.
    let f = number-found bytes i e1 in
    let g = number-found i.1 p e2 in
    let whole : bytes ≡ (f.0 ++ g.0) ++ p.1 = f.2 ∙ ap (λ (y : List ℕ). f.0 ++ y) g.2 ∙ sym (append_assoc f.0 g.0 p.1) in
    subst (λ (y : ℕ × List ℕ). (text : List ℕ) × IsIndex true y.0 text × (bytes ≡ text ++ y.1)) (ok_same (i.0, p.1) x k2) (f.0 ++ g.0, (f.0, g.0, p.0, refl, f.1, g.1), whole)))

index-only : (prefixed : Bool) (index : ℕ) (text rest : List ℕ) → IsIndex prefixed index text → index_at prefixed (text ++ rest) ≡ Ok (index, rest)
unfolding index_at
index-only false index text rest h = number-only index text rest h
index-only true index text rest h =
    let whole : text ++ rest ≡ h.0 ++ (h.1 ++ rest) = rw h.3 (append_assoc h.0 h.1 rest) in
    rw (whole, number-only index h.0 (h.1 ++ rest) h.4, number-only h.2 h.1 rest h.5) refl

index-some : (prefixed : Bool) (index : ℕ) (text : List ℕ) → IsIndex prefixed index text → 0 < length text
index-some false index text h = packed-some index text h
index-some true index text h = omega (arith, packed-some index h.0 h.4, ap length h.3, length-append h.0 h.1)

pub index-less : (prefixed : Bool) (bytes : List ℕ) (x : ℕ × List ℕ) → index_at prefixed bytes ≡ Ok x → length x.1 < length bytes
index-less prefixed bytes x e = let f = index-found prefixed bytes x e in omega (arith, index-some prefixed x.0 f.0 f.1, ap length f.2, length-append f.0 x.1)

new-found : (count : ℕ) (front : List ℕ) (i x : ℕ) → new_index count front i ≡ Ok x → (i ≡ x) × (i < count) × (list_any (λ y. y == i) front ≡ false)
new-found count front i x e =
    let g = guarded_ok (ltb i count && not (list_any (λ y. y == i) front)) (Ok i) x e in
    let both = and_parts (ltb i count) (not (list_any (λ y. y == i) front)) g.0 in
    (ok_same i x g.1, ltb-true _ _ both.0, not-true (list_any (λ y. y == i) front) both.1)

new-only : (count : ℕ) (front : List ℕ) (i : ℕ) → i < count → list_any (λ y. y == i) front ≡ false → new_index count front i ≡ Ok i
new-only count front i lt none = let below : ltb i count ≡ true = lt-ltb _ _ lt in rw (below, none) refl

pub key_end : (n : ℕ) (prefixed : Bool) (count : ℕ) (key : List ℕ) → key_from n prefixed count key [] ≡ Ok key
unfolding key_from
key_end zero prefixed count key = refl
key_end (suc n) prefixed count key = refl

pub key_step : (n : ℕ) (prefixed : Bool) (count : ℕ) (key bytes : List ℕ) → 0 < length bytes
    → key_from (suc n) prefixed count key bytes ≡ (index_at prefixed bytes >>= λ i. new_index count key i.0 >>= λ x. key_from n prefixed count (key ++ x ∷ []) i.1)
unfolding key_from
key_step n prefixed count key [] h = absurd (omega arith)
key_step n prefixed count key (b ∷ bs) h = refl

key_from-found : (fuel : ℕ) (prefixed : Bool) (count : ℕ) (front bytes key : List ℕ) → length bytes ≤ fuel → key_from fuel prefixed count front bytes ≡ Ok key
    → (more : List ℕ) × (key ≡ front ++ more) × AreIndexes prefixed more bytes × AreNew count front more
unfolding key_from
key_from-found zero prefixed count front (b ∷ bs) key h e = absurd (omega arith)
key_from-found (suc n) prefixed count front (b ∷ bs) key h e =
    bind_then (index_at prefixed (b ∷ bs)) _ key e (λ i e1 k1. bind_then (new_index count front i.0) _ key k1 (λ x e2 k2.
    let less = index-less prefixed (b ∷ bs) i e1 in
    let new = new-found count front i.0 x e2 in
    let f = index-found prefixed (b ∷ bs) i e1 in
    let others = key_from-found n prefixed count (front ++ x ∷ []) i.1 key (omega arith) k2 in
    (i.0 ∷ others.0, others.1 ∙ ap (λ (k : ℕ). (front ++ k ∷ []) ++ others.0) (sym new.0) ∙ append_assoc front (i.0 ∷ []) others.0, (f.0, i.1, f.2, f.1, others.2), (new.1, new.2, subst (λ (k : ℕ). AreNew count (front ++ k ∷ []) others.0) (sym new.0) others.3))))
key_from-found _ prefixed count front _ key h e = ([], sym (ok_same front key e) ∙ sym (append-nil front), refl, tt)

key_from-only : (fuel : ℕ) (prefixed : Bool) (count : ℕ) (front more bytes : List ℕ) → length bytes ≤ fuel → AreIndexes prefixed more bytes → AreNew count front more → key_from fuel prefixed count front bytes ≡ Ok (front ++ more)
key_from-only fuel prefixed count front [] bytes h a new = ap (key_from fuel prefixed count front) a ∙ key_end fuel prefixed count front ∙ ap (λ (k : List ℕ). Ok k) (sym (append-nil front))
key_from-only zero prefixed count front (i ∷ is) bytes h a new = absurd (omega (arith, index-some prefixed i a.0 a.3, ap length a.2, length-append a.0 a.1))
key_from-only (suc n) prefixed count front (i ∷ is) bytes h a new =
    let some = index-some prefixed i a.0 a.3 in
    let len : length bytes ≡ length a.0 + length a.1 = ap length a.2 ∙ length-append a.0 a.1 in
    let others = key_from-only n prefixed count (front ++ i ∷ []) is a.1 (omega arith) a.4 new.2 in
    let first : index_at prefixed bytes ≡ Ok (i, a.1) = ap (index_at prefixed) a.2 ∙ index-only prefixed i a.0 a.1 a.3 in
    key_step n prefixed count front bytes (omega arith) ∙ rw (first, new-only count front i new.0 new.1) (others ∙ ap (λ (k : List ℕ). Ok k) (append_assoc front (i ∷ []) is))

pub key-found : (prefixed : Bool) (count : ℕ) (value key : List ℕ) → key_from (length value) prefixed count [] value ≡ Ok key → AreKeyColumns prefixed count key value
key-found prefixed count value key e =
    let f = key_from-found (length value) prefixed count [] value key (omega arith) e in
    subst (λ (k : List ℕ). AreKeyColumns prefixed count k value) (sym f.1) (record { spelled = f.2; columns = f.3 })

pub key-only : (prefixed : Bool) (count : ℕ) (value key : List ℕ) → AreKeyColumns prefixed count key value → key_from (length value) prefixed count [] value ≡ Ok key
key-only prefixed count value key h = key_from-only (length value) prefixed count [] key value (omega arith) h.spelled h.columns
