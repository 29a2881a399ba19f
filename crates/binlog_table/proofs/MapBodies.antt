-- What is read of a table map's body is spelled so, and what is spelled so is read.
use Rattle.std.proofs.Common.{◌≡◌, ℕ, zero, suc, ◌+◌, ◌/◌, ◌<◌, ◌≤◌, true, false, cond, leb, ltb, eqb, List, [], ◌∷◌, ◌++◌, length, get_or, take, drop, Result, Ok, Err, refl, sym, ap, subst, ◌∙◌, append_assoc, arith}
use Rattle.std.proofs.lemmas.Bool.{leb-true, le-leb, ltb-true, lt-ltb, ltb-false, le-ltb, eqb-true}
use Rattle.std.proofs.lemmas.List.{take-append-drop, take_at, drop_at, length-append, length-take-le, drop_more, get_or_at, length_push}
use Rattle.byteorder.specs.Endian.{little_number}
use Rattle.byteorder.specs.Numbers.{little_from-append}
use Rattle.binlog_table.specs.declared.fault.MapFault.{MapFault}
use Rattle.binlog_table.specs.declared.fault.MapFault.TheVariants.{BadMap}
use Rattle.binlog_table.specs.Packed.{IsPacked, packed_at}
use Rattle.binlog_table.specs.MapResult.{◌>>=◌}
use Rattle.binlog_table.specs.Columns.{or_bad}
use Rattle.binlog_table.specs.Fields.{Fields, no_fields, is_utf8, bytes_at, number_at, string_at, name_at, with_field, fields_from}
use Rattle.binlog_table.specs.Map.{Sections, counted, sections_after, sections_at}
use Rattle.binlog_table.specs.MapBody.{IsString, IsName, AreFields, collected, IsMapBody}
use Rattle.binlog_table.proofs.Extents.{little-take}
use Rattle.binlog_table.proofs.FirstFaults.{bind_ok, bind_then, bind_known, bind_same, ok_same, guarded_ok, refused_ok, or_bad-ok}
use Rattle.binlog_table.proofs.PackedNumbers.{packed_at-found, packed_at-only}

-- ---- numbers, strings and names: what is taken and what is left

pub number-found : (bytes : List ℕ) (x : ℕ × List ℕ) → number_at bytes ≡ Ok x → (text : List ℕ) × IsPacked x.0 text × (bytes ≡ text ++ x.1)
unfolding number_at
number-found bytes x e =
    bind_then (or_bad (packed_at bytes)) _ x e (λ p e1 k1. subst (λ (y : ℕ × List ℕ). (text : List ℕ) × IsPacked y.0 text × (bytes ≡ text ++ y.1)) (ok_same (p.0, drop p.1 bytes) x k1)
    (take p.1 bytes, (packed_at-found bytes p.0 p.1 (or_bad-ok (packed_at bytes) p e1)).1, sym (take-append-drop p.1 bytes)))

pub number-only : (n : ℕ) (text rest : List ℕ) → IsPacked n text → number_at (text ++ rest) ≡ Ok (n, rest)
unfolding number_at
number-only n text rest h = rw (packed_at-only n text rest h, drop_at text rest (length text) refl) refl

pub packed-some : (n : ℕ) (text : List ℕ) → IsPacked n text → 0 < length text
packed-some n [] h = absurd h
packed-some n (b ∷ bs) h = omega arith

bytes-found : (n : ℕ) (bytes : List ℕ) (x : List ℕ × List ℕ) → bytes_at n bytes ≡ Ok x → (length x.0 ≡ n) × (bytes ≡ x.0 ++ x.1)
bytes-found n bytes x e =
    let g = guarded_ok (leb n (length bytes)) _ x e in
    subst (λ (y : List ℕ × List ℕ). (length y.0 ≡ n) × (bytes ≡ y.0 ++ y.1)) (ok_same (take n bytes, drop n bytes) x g.1) (length-take-le n bytes (leb-true _ _ g.0), sym (take-append-drop n bytes))

pub bytes-only : (text rest : List ℕ) → bytes_at (length text) (text ++ rest) ≡ Ok (text, rest)
bytes-only text rest =
    let le : leb (length text) (length (text ++ rest)) ≡ true = le-leb _ _ (omega (arith, length-append text rest)) in
    rw (le, take_at text rest (length text) refl, drop_at text rest (length text) refl) refl

pub string-found : (bytes : List ℕ) (x : List ℕ × List ℕ) → string_at bytes ≡ Ok x → (text : List ℕ) × IsString x.0 text × (bytes ≡ text ++ x.1)
unfolding string_at
string-found bytes x e =
    let a = bind_ok (number_at bytes) (λ n. bytes_at n.0 n.1) x e in
    let n = number-found bytes a.0 a.1 in
    let b = bytes-found a.0.0 a.0.1 x a.2 in
    (n.0 ++ x.0, (n.0, rw b.0 n.1, refl), n.2 ∙ ap (λ (t : List ℕ). n.0 ++ t) b.1 ∙ sym (append_assoc n.0 x.0 x.1))

pub string-only : (s text rest : List ℕ) → IsString s text → string_at (text ++ rest) ≡ Ok (s, rest)
unfolding string_at
string-only s text rest h =
    let whole : text ++ rest ≡ h.0 ++ (s ++ rest) = rw h.2 (append_assoc h.0 s rest) in
    rw (whole, number-only (length s) h.0 (s ++ rest) h.1) (bytes-only s rest)

-- ---- optional fields

pub fields-found : (fuel : ℕ) (f : Fields) (bytes : List ℕ) (g : Fields) → length bytes ≤ fuel → fields_from fuel f bytes ≡ Ok g → (fs : List (ℕ × List ℕ)) × AreFields fs bytes × (collected f fs ≡ Ok g)
unfolding fields_from
fields-found zero f (t ∷ bytes) g h e = absurd (omega arith)
fields-found (suc n) f (t ∷ bytes) g h e =
    let a = bind_ok (string_at bytes) (λ v. with_field f t v.0 >>= λ x. fields_from n x v.1) g e in
    let b = bind_ok (with_field f t a.0.0) (λ x. fields_from n x a.0.1) g a.2 in
    let s = string-found bytes a.0 a.1 in
    let short : length a.0.1 ≤ n = omega (arith, ap length s.2, length-append s.0 a.0.1) in
    let others = fields-found n b.0 a.0.1 g short b.2 in
    let put : collected f ((t, a.0.0) ∷ others.0) ≡ Ok g = ap (λ (r : Result Fields MapFault). r >>= λ x. collected x others.0) b.1 ∙ others.2 in
    ((t, a.0.0) ∷ others.0, (s.0, a.0.1, ap (λ (x : List ℕ). t ∷ x) s.2, s.1, others.1), put)
fields-found _ f _ g h e = ([], refl, e)

pub fields-only : (fuel : ℕ) (f : Fields) (fs : List (ℕ × List ℕ)) (bytes : List ℕ) → length bytes ≤ fuel → AreFields fs bytes → fields_from fuel f bytes ≡ collected f fs
unfolding fields_from
fields-only zero f [] bytes h a = refl
fields-only (suc n) f [] bytes h a = rw a refl
fields-only zero f (x ∷ xs) bytes h a = absurd (omega (arith, ap length a.2))
fields-only (suc n) f (x ∷ xs) bytes h a =
    let short : length a.1 ≤ n = omega (arith, ap length a.2, length-append a.0 a.1) in
    rw (a.2, string-only x.1 a.0 a.1 a.3) (bind_same (with_field f x.0 x.1) _ _ (λ g is. fields-only n g xs a.1 short a.4))

-- ---- names

pub name-found : (bytes : List ℕ) (x : List ℕ × List ℕ) → name_at bytes ≡ Ok x → (text : List ℕ) × IsName x.0 text × (bytes ≡ text ++ x.1)
unfolding name_at
name-found [] x e = absurd cc
name-found (n ∷ bs) x e =
    let a = guarded_ok (leb n 250) _ x e in
    let b = guarded_ok (ltb n (length bs)) _ x a.1 in
    let c = guarded_ok (eqb (get_or bs n 0) 0) _ x b.1 in
    let d = guarded_ok (is_utf8 (take n bs)) _ x c.1 in
    let le : n ≤ 250 = leb-true _ _ a.0 in
    let lt : n < length bs = ltb-true _ _ b.0 in
    let zero_is : get_or bs n 0 ≡ 0 = eqb-true _ _ c.0 in
    let len : length (take n bs) ≡ n = length-take-le n bs (omega arith) in
    let back : drop n bs ≡ 0 ∷ drop (n + 1) bs = drop_more bs n 0 lt ∙ ap (λ (z : ℕ). z ∷ drop (n + 1) bs) zero_is in
    let split : bs ≡ (take n bs ++ 0 ∷ []) ++ drop (n + 1) bs = sym (take-append-drop n bs) ∙ ap (λ (t : List ℕ). take n bs ++ t) back ∙ sym (append_assoc (take n bs) (0 ∷ []) (drop (n + 1) bs)) in
    let spelled : IsName (take n bs) (n ∷ (take n bs ++ 0 ∷ [])) = (omega arith, d.0, ap (λ (m : ℕ). m ∷ (take n bs ++ 0 ∷ [])) (sym len)) in
    subst (λ (y : List ℕ × List ℕ). (text : List ℕ) × IsName y.0 text × (n ∷ bs ≡ text ++ y.1)) (ok_same (take n bs, drop (n + 1) bs) x d.1) (n ∷ (take n bs ++ 0 ∷ []), spelled, ap (λ (t : List ℕ). n ∷ t) split)

pub name-only : (s text rest : List ℕ) → IsName s text → name_at (text ++ rest) ≡ Ok (s, rest)
unfolding name_at
name-only s text rest h =
    let bs : List ℕ = s ++ (0 ∷ rest) in
    let whole : text ++ rest ≡ length s ∷ (s ++ (0 ∷ rest)) = rw h.2 (ap (λ (t : List ℕ). length s ∷ t) (append_assoc s (0 ∷ []) rest)) in
    let le : leb (length s) 250 ≡ true = le-leb _ _ h.0 in
    let lt : ltb (length s) (length (s ++ (0 ∷ rest))) ≡ true = lt-ltb _ _ (omega (arith, length-append s (0 ∷ rest))) in
    let at : get_or (s ++ (0 ∷ rest)) (length s) 0 ≡ 0 = get_or_at s 0 rest 0 (length s) refl in
    let left : drop (length s + 1) (s ++ (0 ∷ rest)) ≡ rest = ap (drop (length s + 1)) (sym (append_assoc s (0 ∷ []) rest)) ∙ drop_at (s ++ 0 ∷ []) rest (length s + 1) (length_push s 0) in
    rw (whole, le, lt, at, take_at s (0 ∷ rest) (length s) refl, h.1, left) refl

-- ---- bodies

counted-found : (n m : ℕ) → counted n ≡ Ok m → (n ≡ m) × (1 ≤ m) × (m ≤ 4096)
counted-found n m e =
    let a = refused_ok (ltb n 1) (cond (ltb 4096 n) (Err BadMap) (Ok n)) m e in
    let b = refused_ok (ltb 4096 n) (Ok n) m a.1 in
    let same : n ≡ m = ok_same n m b.1 in
    (same, omega (arith, ltb-false _ _ a.0), omega (arith, ltb-false _ _ b.0))

counted-only : (n : ℕ) → 1 ≤ n → n ≤ 4096 → counted n ≡ Ok n
counted-only n low high =
    let a : ltb n 1 ≡ false = le-ltb _ _ low in
    let b : ltb 4096 n ≡ false = le-ltb _ _ high in
    rw (a, b) refl

pub sections_after-found : (id : ℕ) (head bytes : List ℕ) (p : Sections) → length head ≡ 8 → id ≡ little_number 6 head → sections_after id bytes ≡ Ok p → IsMapBody p (head ++ bytes)
unfolding sections_after
sections_after-found id head bytes p eight is e =
    bind_then (name_at bytes) _ p e (λ schema e1 k1.
    bind_then (name_at schema.1) _ p k1 (λ table e2 k2.
    bind_then (number_at table.1) _ p k2 (λ n e3 k3.
    bind_then (counted n.0) _ p k3 (λ count e4 k4.
    bind_then (bytes_at count n.1) _ p k4 (λ types e5 k5.
    bind_then (string_at types.1) _ p k5 (λ metadata e6 k6.
    bind_then (bytes_at ((count + 7) / 8) metadata.1) _ p k6 (λ nulls e7 k7.
    bind_then (fields_from (length nulls.1) no_fields nulls.1) _ p k7 (λ fields e8 k8.
    let a1 = name-found bytes schema e1 in
    let a2 = name-found schema.1 table e2 in
    let a3 = number-found table.1 n e3 in
    let a4 = counted-found n.0 count e4 in
    let a5 = bytes-found count n.1 types e5 in
    let a6 = string-found types.1 metadata e6 in
    let a7 = bytes-found ((count + 7) / 8) metadata.1 nulls e7 in
    let a8 = fields-found (length nulls.1) no_fields nulls.1 fields (omega arith) e8 in
    let len : n.0 ≡ length types.0 = a4.0 ∙ sym a5.0 in
    subst (λ (q : Sections). IsMapBody q (head ++ bytes)) (ok_same (record { table_id = id; schema = schema.0; table = table.0; types = types.0; metadata = metadata.0; fields = fields }) p k8) (record {
      head = head;
      schema = a1.0;
      table = a2.0;
      count = a3.0;
      metadata = a6.0;
      nulls = nulls.0;
      fields = nulls.1;
      whole = ap (λ (t : List ℕ). head ++ t) (a1.2 ∙ ap (λ (t : List ℕ). a1.0 ++ t) (a2.2 ∙ ap (λ (t : List ℕ). a2.0 ++ t) (a3.2 ∙ ap (λ (t : List ℕ). a3.0 ++ t) (a5.1 ∙ ap (λ (t : List ℕ). types.0 ++ t) (a6.2 ∙ ap (λ (t : List ℕ). a6.0 ++ t) a7.1)))));
      head_len = eight;
      table_id = is;
      schema_is = a1.1;
      table_is = a2.1;
      count_is = subst (λ (m : ℕ). IsPacked m a3.0) len a3.1;
      columns = (omega (arith, a4.1, a5.0), omega (arith, a4.2, a5.0));
      metadata_is = a6.1;
      nulls_len = a7.0 ∙ ap (λ (m : ℕ). (m + 7) / 8) (sym a5.0);
      field_list = a8.0;
      fields_are = a8.1;
      collects = a8.2;
    })))))))))

pub sections-found : (body : List ℕ) (p : Sections) → sections_at body ≡ Ok p → IsMapBody p body
unfolding sections_at
sections-found body p e =
    let a = refused_ok (ltb (length body) 8) (sections_after (little_number 6 body) (drop 8 body)) p e in
    let le : 8 ≤ length body = ltb-false _ _ a.0 in
    let is : little_number 6 body ≡ little_number 6 (take 8 body) = sym (little-take 6 8 body (omega arith) le) in
    subst (IsMapBody p) (take-append-drop 8 body) (sections_after-found (little_number 6 body) (take 8 body) (drop 8 body) p (length-take-le 8 body le) is a.1)

pub sections_after-only : (p : Sections) (body : List ℕ) (b : IsMapBody p body) → sections_after p.table_id (b.schema ++ (b.table ++ (b.count ++ (p.types ++ (b.metadata ++ (b.nulls ++ b.fields)))))) ≡ Ok p
unfolding sections_after
sections_after-only p body b =
    let nulls : bytes_at ((length p.types + 7) / 8) (b.nulls ++ b.fields) ≡ Ok (b.nulls, b.fields) = subst (λ (m : ℕ). bytes_at m (b.nulls ++ b.fields) ≡ Ok (b.nulls, b.fields)) b.nulls_len (bytes-only b.nulls b.fields) in
    let fields : fields_from (length b.fields) no_fields b.fields ≡ Ok p.fields = fields-only (length b.fields) no_fields b.field_list b.fields (omega arith) b.fields_are ∙ b.collects in
    bind_known _ _ (p.schema, _) _ (name-only p.schema b.schema (b.table ++ (b.count ++ (p.types ++ (b.metadata ++ (b.nulls ++ b.fields))))) b.schema_is)
    (bind_known _ _ (p.table, _) _ (name-only p.table b.table (b.count ++ (p.types ++ (b.metadata ++ (b.nulls ++ b.fields)))) b.table_is)
    (bind_known _ _ (length p.types, _) _ (number-only (length p.types) b.count (p.types ++ (b.metadata ++ (b.nulls ++ b.fields))) b.count_is)
    (bind_known _ _ (length p.types) _ (counted-only (length p.types) b.columns.0 b.columns.1)
    (bind_known _ _ (p.types, _) _ (bytes-only p.types (b.metadata ++ (b.nulls ++ b.fields)))
    (bind_known _ _ (p.metadata, _) _ (string-only p.metadata b.metadata (b.nulls ++ b.fields) b.metadata_is)
    (bind_known _ _ (b.nulls, b.fields) _ nulls
    (bind_known _ _ p.fields _ fields refl)))))))

pub sections-only : (p : Sections) (body : List ℕ) → IsMapBody p body → sections_at body ≡ Ok p
unfolding sections_at
sections-only p body b =
    let rest : List ℕ = b.schema ++ (b.table ++ (b.count ++ (p.types ++ (b.metadata ++ (b.nulls ++ b.fields))))) in
    let long : ltb (length (b.head ++ rest)) 8 ≡ false = le-ltb _ _ (omega (arith, length-append b.head rest, b.head_len)) in
    let id : little_number 6 (b.head ++ rest) ≡ p.table_id = little_from-append 6 b.head rest (omega (arith, b.head_len)) ∙ sym b.table_id in
    let left : drop 8 (b.head ++ rest) ≡ rest = drop_at b.head rest 8 b.head_len in
    ap sections_at b.whole ∙ rw (long, id, left) (sections_after-only p body b)

pub sections-one : (s t : Sections) (body : List ℕ) → IsMapBody s body → IsMapBody t body → s ≡ t
sections-one s t body h k = ok_same s t (sym (sections-only s body h) ∙ sections-only t body k)
