-- What the two profiles make of one table map.
use Rattle.std.proofs.Common.{◌≡◌, ℕ, zero, suc, ◌*◌, ◌++◌, ◌⊎◌, inl, inr, Bool, true, false, cond, not, ◌&&◌, ltb, eqb, List, [], ◌∷◌, length, drop, Option, Some, None, Result, Ok, Err, refl, ap, sym, ◌∙◌, subst}
use Rattle.std.specs.Prelude.{unwrap_or}
use Rattle.std.specs.List.{list_any}
use Rattle.binlog_profile.specs.declared.profile.Profile.TheVariants.{Strict, Server}
use Rattle.binlog_table.specs.declared.fault.MapFault.{MapFault}
use Rattle.binlog_table.specs.declared.fault.MapFault.TheVariants.{BadMap, TypeOutOfProfile, NoColumnNames, OutOfMemory}
use Rattle.binlog_table.specs.declared.column.Column.{Column}
use Rattle.binlog_table.specs.declared.column.Layout.{Layout}
use Rattle.binlog_table.specs.declared.column.Layout.TheVariants.{Enum, Set}
use Rattle.binlog_table.specs.TypeCodes.{vector}
use Rattle.binlog_table.specs.MapResult.{◌>>=◌}
use Rattle.binlog_table.specs.Columns.{or_bad, plain_layout, has_byte, has_pair, byte_layout, bits_layout, decimal_layout, byte_at, pair_at, string_layout, real_type, string_len, pair_layout, metadata_layout, plain_or, layout_at, stored_as, next_numeric, columns_at}
use Rattle.binlog_table.specs.Fields.{is_utf8, text_of, number_at, string_at}
use Rattle.binlog_table.specs.Names.{used_up, names_at, are_distinct, distinct_names, column_names, named, index_at, new_index, key_from, key_in, strings_at, list_in, value_names_of, value_names_at, value_names}
use Rattle.binlog_table.specs.Map.{Sections, Map, signed_enough, sections_at, map_of_by, map_at_by, is_strict}
use Rattle.binlog_table.proofs.OnlyBadMap.{OnlyBad, then_bad, either_bad, or_bad-bad, number-bad, string-bad, sections-bad}
use Rattle.binlog_table.proofs.FirstFaults.{bind_then, ok_same}
use Rattle.binlog_table.proofs.Vectors.{columns_alike}
use Rattle.binlog_table.proofs.MapSteps.{strict_sections, sections_kept}

-- ---- the strict profile refuses a map for its missing names or a VECTOR, or reads it as the server's does

abbrev AsStrict : {A : Type 0} → Result A MapFault → Result A MapFault → Type 0
AsStrict strict server = (strict ≡ Err NoColumnNames) ⊎ ((strict ≡ Err (TypeOutOfProfile vector)) ⊎ (strict ≡ server))

then_alike : {A B : Type 0} (r : Result A MapFault) (f g : A → Result B MapFault) → ((x : A) → AsStrict (f x) (g x)) → AsStrict (r >>= f) (r >>= g)
then_alike (Ok x) f g h = h x
then_alike (Err e) f g h = inr (inr refl)

columns_then : {B : Type 0} (types metadata signs : List ℕ) (f g : List Column × (List ℕ × ℕ) → Result B MapFault) → ((c : List Column × (List ℕ × ℕ)) → AsStrict (f c) (g c))
    → AsStrict (columns_at Strict types metadata signs 0 >>= f) (columns_at Server types metadata signs 0 >>= g)
columns_then {B = B} types metadata signs f g h = by_columns (columns_alike types metadata signs 0)
  where
    by_columns : (columns_at Strict types metadata signs 0 ≡ Err (TypeOutOfProfile vector)) ⊎ (columns_at Strict types metadata signs 0 ≡ columns_at Server types metadata signs 0)
        → AsStrict (columns_at Strict types metadata signs 0 >>= f) (columns_at Server types metadata signs 0 >>= g)
    by_columns (inl e) = inr (inl (rw e refl))
    by_columns (inr e) = rw e (then_alike (columns_at Server types metadata signs 0) f g h)

-- names that a map has are the same by both profiles
named_alike : (count : ℕ) (field : List ℕ) (names : Option (List (List ℕ))) → column_names count (Some field) ≡ Ok names → named Strict count names ≡ named Server count names
unfolding column_names
named_alike count field names e =
    bind_then (names_at count field) _ names e (λ r e1 k1. bind_then (used_up r.1) _ names k1 (λ u e2 k2. bind_then (distinct_names r.0) _ names k2 (λ known e3 k3. rw (← ok_same (Some known) names k3) refl)))

then_known : {A B : Type 0} (r : Result A MapFault) (f g : A → Result B MapFault) → ((x : A) → r ≡ Ok x → AsStrict (f x) (g x)) → AsStrict (r >>= f) (r >>= g)
then_known (Ok x) f g h = h x refl
then_known (Err e) f g h = inr (inr refl)

sections_alike : (s : Sections) → AsStrict (map_of_by Strict s) (map_of_by Server s)
unfolding map_of_by column_names
sections_alike s = by_field s.fields.names refl
  where
    by_field : (field : Option (List ℕ)) → s.fields.names ≡ field → AsStrict (map_of_by Strict s) (map_of_by Server s)
    by_field (Some field) e = rw e (then_known (column_names (length s.types) (Some field)) _ _ (λ names is. then_alike (key_in (length s.types) s.fields.key s.fields.prefix_key) _ _ (λ key.
        columns_then s.types s.metadata (unwrap_or s.fields.signs []) _ _ (λ c. inr (inr (rw (named_alike (length s.types) field names is) refl))))))
    by_field None e = rw e (then_alike (key_in (length s.types) s.fields.key s.fields.prefix_key) _ _ (λ key. columns_then s.types s.metadata (unwrap_or s.fields.signs []) _ _ (λ c. then_alike (used_up c.1.0) _ _ (λ u. inl refl))))

pub alike : (body : List ℕ) → AsStrict (map_at_by Strict body) (map_at_by Server body)
unfolding map_at_by
alike body = then_alike (sections_at body) (map_of_by Strict) (map_of_by Server) sections_alike

-- ---- the strict profile's maps have names, and no VECTOR

pub strict_is_named : (body : List ℕ) (map : Map) → map_at_by Strict body ≡ Ok map → is_strict map.sections ≡ true
unfolding map_at_by
strict_is_named body map e =
    bind_then (sections_at body) (map_of_by Strict) map e (λ s e1 k1. ap is_strict (sections_kept Strict s map k1) ∙ strict_sections s map k1)

-- ---- the server's profile refuses none for its missing names

abbrev Another : {A : Type 0} → Result A MapFault → Type 0
Another (Ok x) = Unit {0}
Another (Err NoColumnNames) = ⊥
Another (Err fault) = Unit {0}

bad_other : {A : Type 0} (r : Result A MapFault) → OnlyBad r → Another r
bad_other (Ok x) h = tt
bad_other {A = A} (Err e) h = subst (λ (f : MapFault). Another {A = A} (Err f)) (sym h) tt

then_other : {A B : Type 0} (r : Result A MapFault) (f : A → Result B MapFault) → Another r → ((x : A) → Another (f x)) → Another (r >>= f)
then_other (Ok x) f h k = k x
then_other (Err BadMap) f h k = tt
then_other (Err (TypeOutOfProfile t)) f h k = tt
then_other (Err NoColumnNames) f h k = h
then_other (Err OutOfMemory) f h k = tt

either_other : {A : Type 0} (b : Bool) (r s : Result A MapFault) → Another r → Another s → Another (cond b r s)
either_other true r s h k = h
either_other false r s h k = k

used_up_bad : (bytes : List ℕ) → OnlyBad (used_up bytes)
used_up_bad bytes = either_bad (eqb (length bytes) 0) (Ok 0) (Err BadMap) tt refl

text_bad : (bytes : List ℕ) → OnlyBad (text_of bytes)
text_bad bytes = either_bad (is_utf8 bytes) (Ok bytes) (Err BadMap) tt refl

names_bad : (n : ℕ) (bytes : List ℕ) → OnlyBad (names_at n bytes)
unfolding names_at
names_bad zero bytes = tt
names_bad (suc n) bytes = then_bad (string_at bytes) _ (string-bad bytes) (λ s. then_bad (text_of s.0) _ (text_bad s.0) (λ name. then_bad (names_at n s.1) _ (names_bad n s.1) (λ r. tt)))

column_names_bad : (count : ℕ) (field : Option (List ℕ)) → OnlyBad (column_names count field)
unfolding column_names
column_names_bad count None = tt
column_names_bad count (Some bytes) =
    then_bad (names_at count bytes) _ (names_bad count bytes) (λ r. then_bad (used_up r.1) _ (used_up_bad r.1) (λ u. then_bad (distinct_names r.0) _ (either_bad (are_distinct r.0) (Ok r.0) (Err BadMap) tt refl) (λ names. tt)))

index_bad : (prefixed : Bool) (bytes : List ℕ) → OnlyBad (index_at prefixed bytes)
unfolding index_at
index_bad false bytes = number-bad bytes
index_bad true bytes = then_bad (number_at bytes) _ (number-bad bytes) (λ i. then_bad (number_at i.1) _ (number-bad i.1) (λ p. tt))

key_from_bad : (fuel : ℕ) (prefixed : Bool) (count : ℕ) (key bytes : List ℕ) → OnlyBad (key_from fuel prefixed count key bytes)
unfolding key_from
key_from_bad zero prefixed count key bytes = tt
key_from_bad (suc fuel) prefixed count key [] = tt
key_from_bad (suc fuel) prefixed count key (b ∷ bytes) =
    then_bad (index_at prefixed (b ∷ bytes)) _ (index_bad prefixed (b ∷ bytes)) (λ i. then_bad (new_index count key i.0) _ (either_bad (ltb i.0 count && not (list_any (λ y. eqb y i.0) key)) (Ok i.0) (Err BadMap) tt refl) (λ index. key_from_bad fuel prefixed count (key ++ index ∷ []) i.1))

key_bad : (count : ℕ) (key prefixed : Option (List ℕ)) → OnlyBad (key_in count key prefixed)
key_bad count (Some bytes) prefixed = key_from_bad (length bytes) false count [] bytes
key_bad count None (Some bytes) = key_from_bad (length bytes) true count [] bytes
key_bad count None None = tt

strings_bad : (n : ℕ) (bytes : List ℕ) → OnlyBad (strings_at n bytes)
unfolding strings_at
strings_bad zero bytes = tt
strings_bad (suc n) bytes = then_bad (string_at bytes) _ (string-bad bytes) (λ s. then_bad (strings_at n s.1) _ (strings_bad n s.1) (λ r. tt))

list_bad : (field : Option (List ℕ)) → OnlyBad (list_in field)
unfolding list_in
list_bad None = tt
list_bad (Some bytes) = then_bad (number_at bytes) _ (number-bad bytes) (λ n. then_bad (strings_at n.0 n.1) _ (strings_bad n.0 n.1) (λ x. tt))

value_names_of_bad : (layout : Layout) (sets enums : Option (List ℕ)) → OnlyBad (value_names_of layout sets enums)
unfolding value_names_of
value_names_of_bad (Set w) sets enums = then_bad (list_in sets) _ (list_bad sets) (λ x. tt)
value_names_of_bad (Enum w) sets enums = then_bad (list_in enums) _ (list_bad enums) (λ x. tt)
value_names_of_bad other sets enums = tt

value_names_at_bad : (columns : List Column) (sets enums : Option (List ℕ)) → OnlyBad (value_names_at columns sets enums)
unfolding value_names_at
value_names_at_bad [] sets enums = tt
value_names_at_bad (column ∷ columns) sets enums =
    then_bad (value_names_of column.layout sets enums) _ (value_names_of_bad column.layout sets enums) (λ x. then_bad (value_names_at columns x.1.0 x.1.1) _ (value_names_at_bad columns x.1.0 x.1.1) (λ r. tt))

value_names_bad : (columns : List Column) (sets enums : Option (List ℕ)) → OnlyBad (value_names columns sets enums)
unfolding value_names
value_names_bad columns sets enums =
    then_bad (value_names_at columns sets enums) _ (value_names_at_bad columns sets enums) (λ r. then_bad (used_up (unwrap_or r.1.0 [])) _ (used_up_bad (unwrap_or r.1.0 [])) (λ u. then_bad (used_up (unwrap_or r.1.1 [])) _ (used_up_bad (unwrap_or r.1.1 [])) (λ v. tt)))

-- a type that isn't read has a fault of its own
or_bad_other : {A : Type 0} (o : Option A) → Another (or_bad o)
or_bad_other o = bad_other (or_bad o) (or_bad-bad o)

string_layout_other : (real len : ℕ) → Another (string_layout real len)
string_layout_other real len =
    either_other (eqb real 254) _ _ tt (either_other (eqb real 247) _ _ (or_bad_other _) (either_other (eqb real 248) _ _ (or_bad_other _) tt))

pair_layout_other : (t first second : ℕ) → Another (pair_layout t first second)
pair_layout_other t first second =
    either_other (eqb t 16) _ _ (or_bad_other (bits_layout first second)) (either_other (eqb t 246) _ _ (or_bad_other (decimal_layout first second)) (either_other (eqb t 254) _ _ (string_layout_other (real_type first) (string_len first second)) tt))

byte_other : (bytes : List ℕ) → Another (byte_at bytes)
byte_other [] = tt
byte_other (byte ∷ bytes) = tt

pair_other : (bytes : List ℕ) → Another (pair_at bytes)
pair_other [] = tt
pair_other (first ∷ []) = tt
pair_other (first ∷ second ∷ bytes) = tt

metadata_other : (t : ℕ) (metadata : List ℕ) → Another (metadata_layout t metadata)
metadata_other t metadata =
    either_other (has_byte t) _ _ (then_other (byte_at metadata) _ (byte_other metadata) (λ b. then_other (or_bad (byte_layout t b)) _ (or_bad_other (byte_layout t b)) (λ l. tt)))
    (either_other (has_pair t) _ _ (then_other (pair_at metadata) _ (pair_other metadata) (λ p. then_other (pair_layout t p.0 p.1) _ (pair_layout_other t p.0 p.1) (λ l. tt))) tt)

layout_other : (t : ℕ) (metadata : List ℕ) → Another (layout_at t metadata)
unfolding layout_at
layout_other t metadata = by_plain (plain_layout t)
  where
    by_plain : (o : Option Layout) → Another (plain_or o (metadata_layout t metadata))
    by_plain (Some layout) = tt
    by_plain None = metadata_other t metadata

columns_other : (types metadata signs : List ℕ) (j : ℕ) → Another (columns_at Server types metadata signs j)
unfolding columns_at
columns_other [] metadata signs j = tt
columns_other (t ∷ ts) metadata signs j =
    then_other (layout_at (stored_as Server t) metadata) _ (layout_other (stored_as Server t) metadata) (λ l. then_other (columns_at Server ts (drop l.1 metadata) signs (next_numeric t j)) _ (columns_other ts (drop l.1 metadata) signs (next_numeric t j)) (λ r. tt))

server_named : (count : ℕ) (names : Option (List (List ℕ))) → Another (named Server count names)
server_named count None = tt
server_named count (Some names) = tt

server_of_other : (s : Sections) → Another (map_of_by Server s)
unfolding map_of_by
server_of_other s =
    then_other (column_names (length s.types) s.fields.names) _ (bad_other _ (column_names_bad (length s.types) s.fields.names)) (λ names.
    then_other (key_in (length s.types) s.fields.key s.fields.prefix_key) _ (bad_other _ (key_bad (length s.types) s.fields.key s.fields.prefix_key)) (λ key.
    then_other (columns_at Server s.types s.metadata (unwrap_or s.fields.signs []) 0) _ (columns_other s.types s.metadata (unwrap_or s.fields.signs []) 0) (λ c.
    then_other (used_up c.1.0) _ (bad_other _ (used_up_bad c.1.0)) (λ left.
    then_other (named Server (length s.types) names) _ (server_named (length s.types) names) (λ known.
    then_other (signed_enough c.1.1 s.fields.signs) _ (bad_other _ (either_bad (ltb (8 * length (unwrap_or s.fields.signs [])) c.1.1) (Err BadMap) (Ok c.1.1) refl tt)) (λ signs.
    then_other (value_names c.0 s.fields.set_names s.fields.enum_names) _ (bad_other _ (value_names_bad c.0 s.fields.set_names s.fields.enum_names)) (λ values. tt)))))))

pub server_takes : (body : List ℕ) → map_at_by Server body ≡ Err NoColumnNames → ⊥
unfolding map_at_by
server_takes body e = subst Another e (then_other (sections_at body) (map_of_by Server) (bad_other (sections_at body) (sections-bad body)) server_of_other)
