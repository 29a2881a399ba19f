-- The loop over a table's columns.
use Rattle.std.proofs.Common.{◌≡◌, ℕ, ◌+◌, ◌<◌, Bool, ◌&&◌, cond, Bor, List, [], length, map, get_or, take, drop, count_by, Option, Some, None, option_map, unwrap_or, refl, sym, ap, ap₂, ◌∙◌, arith}
use Rattle.std.proofs.lemmas.List.{drop-drop}
use Rattle.std.proofs.lemmas.List.FromFn.{get_or-map-range_with_len, length-map-range_with_len, sum_by-map-range_with_len_more}
use Rattle.std.proofs.lemmas.List.Sums.{count_by-le-length, sum_by_more}
use Rattle.std.specs.List.{range_with_len}
use Rattle.binlog_table.specs.Columns.{high_bit}
use Rattle.binlog_table.specs.Map.{Sections}
use Rattle.binlog_types.specs.ColumnTypes.{Collations, metadata_len, has_sign, is_text, is_named, is_vector, column_type, metadata_at, dimensions_in, dimensions_of, code_at, collation_at, collations_of, text_collations, name_collations, collation_of, type_at}
use Rattle.binlog_types.specs.Found.{listed_collation}
use Rattle.binlog_types.specs.declared.types.Seen.{Seen}

-- a field's bytes, or none
pub unwrapped : (o : Option (Bor (List ℕ))) (none r : Bor (List ℕ)) (s : Option (List ℕ)) → none.now ≡ [] → r ≡ unwrap_or o none → option_map (λ (b : Bor (List ℕ)). b.now) o ≡ s → r.now ≡ unwrap_or s []
unwrapped None none r s empty r_is s_is = ap (λ (b : Bor (List ℕ)). b.now) r_is ∙ (empty ∙ ap (λ (t : Option (List ℕ)). unwrap_or t []) s_is)
unwrapped (Some b) none r s empty r_is s_is = ap (λ (b : Bor (List ℕ)). b.now) r_is ∙ ap (λ (t : Option (List ℕ)). unwrap_or t []) s_is

pub taken_more : (p : ℕ → Bool) (s : Sections) (i code n : ℕ) → i < length s.types → code ≡ get_or s.types i 0 → n ≡ count_by p (take i s.types)
    → n + cond (p code) 1 0 ≡ count_by p (take (i + 1) s.types)
taken_more p s i code n below code_is n_is = rw (code_is, n_is) (sym (sum_by_more (λ (x : ℕ). cond (p x) 1 0) s.types i 0 below))

pub count_more : (p : ℕ → Bool) (s : Sections) (i real n : ℕ) → real ≡ code_at s i → n ≡ count_by p (map (code_at s) (range_with_len 0 i))
    → n + cond (p real) 1 0 ≡ count_by p (map (code_at s) (range_with_len 0 (i + 1)))
count_more p s i real n real_is n_is = rw (real_is, n_is) (sym (sum_by-map-range_with_len_more (λ (x : ℕ). cond (p x) 1 0) (code_at s) 0 i i (omega arith)))

pub metadata_more : (s : Sections) (i code : ℕ) (rest : List ℕ) → i < length s.types → code ≡ get_or s.types i 0 → rest ≡ metadata_at s i
    → drop (metadata_len code) rest ≡ metadata_at s (i + 1)
metadata_more s i code rest below code_is rest_is =
    rw (code_is, rest_is) (drop-drop (metadata_len (get_or s.types i 0)) _ s.metadata ∙ ap (λ (n : ℕ). drop n s.metadata) (sym (sum_by_more metadata_len s.types i 0 below)))

-- fewer stand in front of a column than there are columns
few : (p : ℕ → Bool) (f : ℕ → ℕ) (i count : ℕ) → i < count → count_by p (map f (range_with_len 0 i)) < count
few p f i count below = omega (arith, count_by-le-length p (map f (range_with_len 0 i)), length-map-range_with_len f 0 i)

listed : (c : Collations) (list : List (Option ℕ)) (count n : ℕ) → n < count → list ≡ map (collation_at c) (range_with_len 0 count) → get_or list n None ≡ collation_at c n
listed c list count n below list_is = rw list_is (get_or-map-range_with_len (collation_at c) 0 count n n None below (omega arith))

-- the collation of a column, by the lists of those of all columns
pub collation_listed : (s : Sections) (texts names : List (Option ℕ)) (i real : ℕ) (seen : Seen) → i < length s.types → real ≡ code_at s i
    → texts ≡ map (collation_at (text_collations s.fields)) (range_with_len 0 (length s.types))
    → names ≡ map (collation_at (name_collations s.fields)) (range_with_len 0 (length s.types))
    → seen.texts ≡ count_by is_text (map (code_at s) (range_with_len 0 i)) → seen.names ≡ count_by is_named (map (code_at s) (range_with_len 0 i))
    → listed_collation real texts names seen ≡ collation_of s i
collation_listed s texts names i real seen below real_is texts_are names_are text_count name_count =
    let front = map (code_at s) (range_with_len 0 i) in
    let text : get_or texts seen.texts None ≡ collation_at (text_collations s.fields) (count_by is_text front) =
    rw text_count (listed (text_collations s.fields) texts (length s.types) (count_by is_text front) (few is_text (code_at s) i (length s.types) below) texts_are) in
    let name : get_or names seen.names None ≡ collation_at (name_collations s.fields) (count_by is_named front) =
    rw name_count (listed (name_collations s.fields) names (length s.types) (count_by is_named front) (few is_named (code_at s) i (length s.types) below) names_are) in
    rw (text, name, real_is)

-- the collations of all columns, by the bytes of two fields
pub collations_listed : (each usual : List ℕ) (e u : Option (List ℕ)) (list : List (Option ℕ)) (count n : ℕ) → list ≡ map (collation_at (collations_of each usual)) (range_with_len 0 count)
    → each ≡ unwrap_or e [] → usual ≡ unwrap_or u [] → count ≡ n → list ≡ map (collation_at (collations_of (unwrap_or e []) (unwrap_or u []))) (range_with_len 0 n)
collations_listed each usual e u list count n list_is each_is usual_is count_is =
    list_is ∙ (ap₂ (λ (a b : List ℕ). map (collation_at (collations_of a b)) (range_with_len 0 count)) each_is usual_is ∙ ap (λ (k : ℕ). map (collation_at (collations_of (unwrap_or e []) (unwrap_or u []))) (range_with_len 0 k)) count_is)

-- the type of a column, by what its parts are
pub type_found : (s : Sections) (i code : ℕ) (rest signs : List ℕ) (n dimensions : ℕ) (collation : Option ℕ) → code ≡ get_or s.types i 0 → rest ≡ metadata_at s i → signs ≡ unwrap_or s.fields.signs []
    → n ≡ count_by has_sign (take i s.types) → dimensions ≡ dimensions_of s i → collation ≡ collation_of s i
    → column_type code rest dimensions (has_sign code && high_bit signs n) collation ≡ type_at s i
type_found s i code rest signs n dimensions collation code_is rest_is signs_are n_is dimensions_are collation_is = rw (code_is, rest_is, signs_are, n_is, dimensions_are, collation_is)

-- a field is the one of the sections
pub dimensions_found : (s : Sections) (field : Option (List ℕ)) (numbers : List ℕ) (i n number : ℕ) → numbers ≡ dimensions_in field → field ≡ s.fields.dimensions → n ≡ count_by is_vector (take i s.types)
    → number ≡ get_or numbers n 0 → number ≡ dimensions_of s i
dimensions_found s field numbers i n number numbers_are field_is n_is number_is = number_is ∙ rw (numbers_are, field_is, n_is) refl
