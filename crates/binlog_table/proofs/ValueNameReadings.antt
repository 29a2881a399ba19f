-- The names of ENUM and SET values that are read are spelled so, and those that are spelled so are read.
use Rattle.std.proofs.Common.{◌≡◌, ℕ, zero, suc, ◌<◌, eqb, List, [], ◌∷◌, ◌++◌, length, map, Option, Some, None, option_map, Ok, refl, sym, ap, subst, ◌∙◌, append_assoc, arith}
use Rattle.std.specs.Prelude.{Bool, unwrap_or}
use Rattle.std.specs.List.{AllByRecursion}
use Rattle.std.proofs.lemmas.Bool.{eqb-true}
use Rattle.std.proofs.lemmas.List.{length-append, nil_from_length}
use Rattle.std.proofs.lemmas.Option.{same_Some}
use Rattle.binlog_table.specs.declared.column.Column.{Column}
use Rattle.binlog_table.specs.declared.column.Layout.{Layout}
use Rattle.binlog_table.specs.declared.column.Layout.TheVariants.{Enum, Set}
use Rattle.binlog_table.specs.Packed.{IsPacked}
use Rattle.binlog_table.specs.Fields.{number_at, string_at}
use Rattle.binlog_table.specs.Names.{used_up, strings_at, list_in, value_names_of, value_names_at, value_names}
use Rattle.binlog_table.specs.MapLists.{AreStrings, IsNameList, AreNameLists, is_set, is_enum, is_neither, names_at_columns, FieldSpells, AreValueNames}
use Rattle.binlog_table.proofs.FirstFaults.{bind_then, bind_known, ok_same, guarded_ok}
use Rattle.binlog_table.proofs.MapBodies.{number-found, number-only, packed-some, string-found, string-only}

abbrev Names : Type 0
Names = List (List ℕ)

abbrev Fields : Type 0
Fields = Option (List ℕ) × Option (List ℕ)

-- ---- a list of names

pub strings-found : (n : ℕ) (bytes : List ℕ) (x : Names × List ℕ) → strings_at n bytes ≡ Ok x → (text : List ℕ) × (bytes ≡ text ++ x.1) × AreStrings x.0 text × (length x.0 ≡ n)
unfolding strings_at
strings-found zero bytes x e =
    subst (λ (y : Names × List ℕ). (text : List ℕ) × (bytes ≡ text ++ y.1) × AreStrings y.0 text × (length y.0 ≡ 0)) (ok_same ([], bytes) x e) ([], refl, refl, refl)
strings-found (suc n) bytes x e =
    bind_then (string_at bytes) _ x e (λ s e1 k1. bind_then (strings_at n s.1) _ x k1 (λ r e2 k2.
    let f = string-found bytes s e1 in
    let others = strings-found n s.1 r e2 in
    let whole : bytes ≡ (f.0 ++ others.0) ++ r.1 = f.2 ∙ ap (λ (y : List ℕ). f.0 ++ y) others.1 ∙ sym (append_assoc f.0 others.0 r.1) in
    subst (λ (y : Names × List ℕ). (text : List ℕ) × (bytes ≡ text ++ y.1) × AreStrings y.0 text × (length y.0 ≡ suc n)) (ok_same (s.0 ∷ r.0, r.1) x k2)
    (f.0 ++ others.0, whole, (f.0, others.0, refl, f.1, others.2), ap suc others.3)))

strings-only : (names : Names) (text rest : List ℕ) → AreStrings names text → strings_at (length names) (text ++ rest) ≡ Ok (names, rest)
unfolding strings_at
strings-only [] text rest h = rw h refl
strings-only (name ∷ names) text rest h =
    let whole : text ++ rest ≡ h.0 ++ (h.1 ++ rest) = rw h.2 (append_assoc h.0 h.1 rest) in
    rw (whole, string-only name h.0 (h.1 ++ rest) h.3, strings-only names h.1 rest h.4) refl

abbrev Listed : List ℕ → Option Names × Option (List ℕ) → Type 0
Listed bytes x = (names : Names) × (text : List ℕ) × (rest : List ℕ) × (x ≡ (Some names, Some rest)) × IsNameList names text × (bytes ≡ text ++ rest)

list-found : (bytes : List ℕ) (x : Option Names × Option (List ℕ)) → list_in (Some bytes) ≡ Ok x → Listed bytes x
unfolding list_in
list-found bytes x e =
    bind_then (number_at bytes) _ x e (λ n e1 k1. bind_then (strings_at n.0 n.1) _ x k1 (λ s e2 k2.
    let f = number-found bytes n e1 in
    let g = strings-found n.0 n.1 s e2 in
    let count : IsPacked (length s.0) f.0 = subst (λ (m : ℕ). IsPacked m f.0) (sym g.3) f.1 in
    let whole : bytes ≡ (f.0 ++ g.0) ++ s.1 = f.2 ∙ ap (λ (y : List ℕ). f.0 ++ y) g.1 ∙ sym (append_assoc f.0 g.0 s.1) in
    (s.0, f.0 ++ g.0, s.1, sym (ok_same (Some s.0, Some s.1) x k2), (f.0, g.0, refl, count, g.2), whole)))

list-only : (names : Names) (text rest : List ℕ) → IsNameList names text → list_in (Some (text ++ rest)) ≡ Ok (Some names, Some rest)
unfolding list_in
list-only names text rest h =
    let whole : text ++ rest ≡ h.0 ++ (h.1 ++ rest) = rw h.2 (append_assoc h.0 h.1 rest) in
    rw (whole, number-only (length names) h.0 (h.1 ++ rest) h.3, strings-only names h.1 rest h.4) refl

list-some : (names : Names) (text : List ℕ) → IsNameList names text → 0 < length text
list-some names text h = omega (arith, packed-some (length names) h.0 h.3, ap length h.2, length-append h.0 h.1)

-- a field spells one list of lists
pub lists-one : (value : List ℕ) (lists others : List Names) → AreNameLists lists value → AreNameLists others value → lists ≡ others
lists-one value [] [] a b = refl
lists-one value [] (other ∷ others) a b = absurd (omega (arith, ap length a, list-some other b.0 b.3, ap length b.2, length-append b.0 b.1))
lists-one value (names ∷ lists) [] a b = absurd (omega (arith, ap length b, list-some names a.0 a.3, ap length a.2, length-append a.0 a.1))
lists-one value (names ∷ lists) (other ∷ others) a b =
    let first : list_in (Some value) ≡ Ok (Some names, Some a.1) = ap (λ (y : List ℕ). list_in (Some y)) a.2 ∙ list-only names a.0 a.1 a.3 in
    let second : list_in (Some value) ≡ Ok (Some other, Some b.1) = ap (λ (y : List ℕ). list_in (Some y)) b.2 ∙ list-only other b.0 b.1 b.3 in
    let same = ok_same (Some names, Some a.1) (Some other, Some b.1) (sym first ∙ second) in
    let head : names ≡ other = same_Some names other (ap (λ (p : Option Names × Option (List ℕ)). p.0) same) in
    let rest : a.1 ≡ b.1 = same_Some a.1 b.1 (ap (λ (p : Option Names × Option (List ℕ)). p.1) same) in
    let tail = lists-one b.1 lists others (subst (AreNameLists lists) rest a.4) b.4 in
    ap (λ (n : Names). n ∷ lists) head ∙ ap (λ (ns : List Names). other ∷ ns) tail

-- ---- a field from its front, and what is left of it

-- the lists of some columns, one after the other
abbrev Takes : Option (List ℕ) → List (Option Names) → Option (List ℕ) → Type 0
Takes field [] left = left ≡ field
Takes field (own ∷ names) left = (rest : Option (List ℕ)) × (list_in field ≡ Ok (own, rest)) × Takes rest names left

pub used_up-found : (bytes : List ℕ) (n : ℕ) → used_up bytes ≡ Ok n → bytes ≡ []
used_up-found bytes n e = nil_from_length bytes (eqb-true _ _ (guarded_ok (eqb (length bytes) 0) (Ok 0) n e).0)

takes-found : (field : Option (List ℕ)) (names : List (Option Names)) (left : Option (List ℕ)) → Takes field names left → unwrap_or left [] ≡ [] → FieldSpells field names
unfolding list_in
takes-found None [] left h none = tt
takes-found (Some value) [] left h none = ([], refl, sym (ap (λ (o : Option (List ℕ)). unwrap_or o []) h) ∙ none)
takes-found None (own ∷ names) left h none =
    let is : (None, None) ≡ (own, h.0) = ok_same (None, None) (own, h.0) h.1 in
    (sym (ap (λ (p : Option Names × Option (List ℕ)). p.0) is), takes-found None names left (subst (λ (f : Option (List ℕ)). Takes f names left) (sym (ap (λ (p : Option Names × Option (List ℕ)). p.1) is)) h.2) none)
takes-found (Some value) (own ∷ names) left h none =
    let l = list-found value (own, h.0) h.1 in
    let others = takes-found (Some l.2) names left (subst (λ (f : Option (List ℕ)). Takes f names left) (ap (λ (p : Option Names × Option (List ℕ)). p.1) l.3) h.2) none in
    (l.0 ∷ others.0, ap (λ (p : Option Names × Option (List ℕ)). p.0 ∷ names) l.3 ∙ ap (λ (ns : List (Option Names)). Some l.0 ∷ ns) others.1, (l.1, l.2, l.5, l.4, others.2))

-- nothing is left of a field that is there
abbrev emptied : Option (List ℕ) → Option (List ℕ)
emptied field = option_map (λ value. []) field

takes-only : (field : Option (List ℕ)) (names : List (Option Names)) → FieldSpells field names → Takes field names (emptied field)
unfolding list_in
takes-only None [] h = refl
takes-only None (own ∷ names) h = (None, ap (λ (o : Option Names). Ok (o, None)) (sym h.0), takes-only None names h.1)
takes-only (Some value) [] ([], e, a) = ap Some (sym a)
takes-only (Some value) [] (first ∷ lists, e, a) = absurd cc
takes-only (Some value) (own ∷ names) ([], e, a) = absurd cc
takes-only (Some value) (own ∷ names) (first ∷ lists, e, a) =
    let is : Some first ≡ own = cc in
    let are : names ≡ map Some lists = cc in
    (Some a.1, ap (λ (y : List ℕ). list_in (Some y)) a.2 ∙ list-only first a.0 a.1 a.3 ∙ ap (λ (o : Option Names). Ok (o, Some a.1)) is, takes-only (Some a.1) names (lists, are, a.4))

emptied-used : (field : Option (List ℕ)) → used_up (unwrap_or (emptied field) []) ≡ Ok 0
emptied-used None = refl
emptied-used (Some value) = refl

-- ---- columns, one after the other

-- what columns are called, and what is left of the two fields
record Called (columns : List Column) (sets enums : Option (List ℕ)) (names : List (Option Names)) (left : Fields) : Type 0 where
  one_each : length names ≡ length columns
  of_sets : Takes sets (names_at_columns is_set columns names) left.0
  of_enums : Takes enums (names_at_columns is_enum columns names) left.1
  of_others : AllByRecursion (λ own. own ≡ None) (names_at_columns is_neither columns names)

-- one column more in front, by its layout
module _ (unsigned : Bool) (columns : List Column) (names : List (Option Names)) (left : Fields) (sets enums : Option (List ℕ)) where
  called-more : (l : Layout) (x : Option Names × Fields) → value_names_of l sets enums ≡ Ok x → Called columns x.1.0 x.1.1 names left → Called (record { layout = l; unsigned = unsigned } ∷ columns) sets enums (x.0 ∷ names) left
  unfolding value_names_of
  called-more (Set w) x e c = bind_then (list_in sets) _ x e (λ y e1 k. subst (λ (z : Option Names × Fields). Called columns z.1.0 z.1.1 names left → Called (record { layout = Set w; unsigned = unsigned } ∷ columns) sets enums (z.0 ∷ names) left) (ok_same (y.0, (y.1, enums)) x k)
      (λ d. record { one_each = ap suc d.one_each; of_sets = (y.1, e1, d.of_sets); of_enums = d.of_enums; of_others = d.of_others }) c)
  called-more (Enum w) x e c = bind_then (list_in enums) _ x e (λ y e1 k. subst (λ (z : Option Names × Fields). Called columns z.1.0 z.1.1 names left → Called (record { layout = Enum w; unsigned = unsigned } ∷ columns) sets enums (z.0 ∷ names) left) (ok_same (y.0, (sets, y.1)) x k)
      (λ d. record { one_each = ap suc d.one_each; of_sets = d.of_sets; of_enums = (y.1, e1, d.of_enums); of_others = d.of_others }) c)
  called-more other x e c = subst (λ (z : Option Names × Fields). Called columns z.1.0 z.1.1 names left → Called (record { layout = other; unsigned = unsigned } ∷ columns) sets enums (z.0 ∷ names) left) (ok_same (None, (sets, enums)) x e)
      (λ d. record { one_each = ap suc d.one_each; of_sets = d.of_sets; of_enums = d.of_enums; of_others = (refl, d.of_others) }) c

  called-less : (l : Layout) (own : Option Names) → Called (record { layout = l; unsigned = unsigned } ∷ columns) sets enums (own ∷ names) left → (rest : Fields) × (value_names_of l sets enums ≡ Ok (own, rest)) × Called columns rest.0 rest.1 names left
  unfolding value_names_of
  called-less (Set w) own c = let s = c.of_sets in ((s.0, enums), rw s.1 refl, record { one_each = omega (arith, c.one_each); of_sets = s.2; of_enums = c.of_enums; of_others = c.of_others })
  called-less (Enum w) own c = let s = c.of_enums in ((sets, s.0), rw s.1 refl, record { one_each = omega (arith, c.one_each); of_sets = c.of_sets; of_enums = s.2; of_others = c.of_others })
  called-less other own c =
      let s = c.of_others in ((sets, enums), ap (λ (o : Option Names). Ok (o, (sets, enums))) (sym s.0), record { one_each = omega (arith, c.one_each); of_sets = c.of_sets; of_enums = c.of_enums; of_others = s.1 })

called-found : (columns : List Column) (sets enums : Option (List ℕ)) (x : List (Option Names) × Fields) → value_names_at columns sets enums ≡ Ok x → Called columns sets enums x.0 x.1
unfolding value_names_at
called-found [] sets enums x e =
    subst (λ (y : List (Option Names) × Fields). Called [] sets enums y.0 y.1) (ok_same ([], (sets, enums)) x e) (record { one_each = refl; of_sets = refl; of_enums = refl; of_others = tt })
called-found (column ∷ columns) sets enums x e =
    bind_then (value_names_of column.layout sets enums) _ x e (λ y e1 k1. bind_then (value_names_at columns y.1.0 y.1.1) _ x k1 (λ r e2 k2.
    subst (λ (z : List (Option Names) × Fields). Called (column ∷ columns) sets enums z.0 z.1) (ok_same (y.0 ∷ r.0, r.1) x k2)
    (called-more column.unsigned columns r.0 r.1 sets enums column.layout y e1 (called-found columns y.1.0 y.1.1 r e2))))

called-only : (columns : List Column) (sets enums : Option (List ℕ)) (names : List (Option Names)) (left : Fields) → Called columns sets enums names left → value_names_at columns sets enums ≡ Ok (names, left)
unfolding value_names_at
called-only [] sets enums [] left c = rw (← c.of_sets, ← c.of_enums) refl
called-only [] sets enums (own ∷ names) left c = absurd (omega (arith, c.one_each))
called-only (column ∷ columns) sets enums [] left c = absurd (omega (arith, c.one_each))
called-only (column ∷ columns) sets enums (own ∷ names) left c =
    let t = called-less column.unsigned columns names left sets enums column.layout own c in rw (t.1, called-only columns t.0.0 t.0.1 names left t.2) refl

-- ---- whole fields

pub value_names-found : (columns : List Column) (sets enums : Option (List ℕ)) (names : List (Option Names)) → value_names columns sets enums ≡ Ok names → AreValueNames columns sets enums names
unfolding value_names
value_names-found columns sets enums names e =
    bind_then (value_names_at columns sets enums) _ names e (λ r e1 k1. bind_then (used_up (unwrap_or r.1.0 [])) _ names k1 (λ m e2 k2. bind_then (used_up (unwrap_or r.1.1 [])) _ names k2 (λ n e3 k3.
    let c = called-found columns sets enums r e1 in
    subst (AreValueNames columns sets enums) (ok_same r.0 names k3) (record {
      one_each = c.one_each;
      of_sets = takes-found sets (names_at_columns is_set columns r.0) r.1.0 c.of_sets (used_up-found (unwrap_or r.1.0 []) m e2);
      of_enums = takes-found enums (names_at_columns is_enum columns r.0) r.1.1 c.of_enums (used_up-found (unwrap_or r.1.1 []) n e3);
      of_others = c.of_others;
    }))))

pub value_names-only : (columns : List Column) (sets enums : Option (List ℕ)) (names : List (Option Names)) → AreValueNames columns sets enums names → value_names columns sets enums ≡ Ok names
unfolding value_names
value_names-only columns sets enums names h =
    let c : Called columns sets enums names (emptied sets, emptied enums) = record {
      one_each = h.one_each;
      of_sets = takes-only sets (names_at_columns is_set columns names) h.of_sets;
      of_enums = takes-only enums (names_at_columns is_enum columns names) h.of_enums;
      of_others = h.of_others;
    } in
    bind_known _ _ (names, (emptied sets, emptied enums)) _ (called-only columns sets enums names (emptied sets, emptied enums) c)
    (bind_known _ _ 0 _ (emptied-used sets) (bind_known _ _ 0 _ (emptied-used enums) refl))
