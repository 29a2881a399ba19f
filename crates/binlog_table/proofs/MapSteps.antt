-- The map of sections, read in four steps.
use Rattle.std.proofs.Common.{◌≡◌, ℕ, List, [], length, true, Bool, false, not, ◌&&◌, Option, Some, None, Result, Ok, refl, ap, sym, ◌∙◌}
use Rattle.std.specs.Prelude.{unwrap_or, is_some}
use Rattle.std.proofs.lemmas.Bool.{not-true}
use Rattle.binlog_profile.specs.declared.profile.Profile.{Profile}
use Rattle.binlog_profile.specs.declared.profile.Profile.TheVariants.{Strict, Server}
use Rattle.binlog_table.specs.declared.column.Column.{Column}
use Rattle.binlog_table.specs.MapResult.{◌>>=◌}
use Rattle.binlog_table.specs.Columns.{columns_at}
use Rattle.binlog_table.specs.Names.{column_names, names_in, named, key_in, used_up, value_names}
use Rattle.binlog_table.specs.Map.{Sections, Map, signed_enough, columns_stand, columns_in, map_of_by, map_at_by, sections_at, has_vector, is_strict}
use Rattle.binlog_table.specs.declared.fault.MapFault.{MapFault}
use Rattle.binlog_table.proofs.Vectors.{columns_same, strict_columns}
use Rattle.binlog_table.proofs.FirstFaults.{bind_assoc, bind_then, bind_known, ok_same}

abbrev made : Sections → List (List ℕ) → List ℕ → List Column → List (Option (List (List ℕ))) → Map
made s names key columns values = record { table_id = s.table_id; schema = s.schema; table = s.table; columns = columns; names = names; key = key; value_names = values; sections = s }

-- the names, the key, the columns that stand, and the names of values
pub map_in_steps : (profile : Profile) (s : Sections) → (names_in profile (length s.types) s.fields.names >>= λ names. key_in (length s.types) s.fields.key s.fields.prefix_key >>= λ key. columns_in profile s >>= λ columns. value_names columns s.fields.set_names s.fields.enum_names >>= λ values. Ok (made s names key columns values)) ≡ map_of_by profile s
unfolding map_of_by column_names
map_in_steps profile s = by_field profile s.fields.names
  where
    by_field : (profile : Profile) (field : Option (List ℕ))
        → (names_in profile (length s.types) field >>= λ names. key_in (length s.types) s.fields.key s.fields.prefix_key >>= λ key.
        (columns_at profile s.types s.metadata (unwrap_or s.fields.signs []) 0 >>= λ c. columns_stand profile c.1.0 field (unwrap_or s.fields.signs []) c.1.1 >>= λ _. Ok c.0) >>= λ columns. value_names columns s.fields.set_names s.fields.enum_names >>= λ values. Ok (made s names key columns values))
        ≡ (column_names (length s.types) field >>= λ names. key_in (length s.types) s.fields.key s.fields.prefix_key >>= λ key. columns_at profile s.types s.metadata (unwrap_or s.fields.signs []) 0 >>= λ c.
        used_up c.1.0 >>= λ _. named profile (length s.types) names >>= λ known. signed_enough c.1.1 s.fields.signs >>= λ _. value_names c.0 s.fields.set_names s.fields.enum_names >>= λ values. Ok (made s known key c.0 values))
    by_field Strict None = simp bind_assoc
    by_field Server None = simp bind_assoc
    by_field Strict (Some field) = simp bind_assoc
    by_field Server (Some field) = simp bind_assoc

-- ---- the two profiles

both : (a b : Bool) → (a && b) ≡ true → (a ≡ true) × (b ≡ true)
both true b e = (refl, e)
both false b e = absurd cc

-- where a map has names and no VECTOR, both give the same
pub same_where_strict : (s : Sections) → is_strict s ≡ true → map_of_by Server s ≡ map_of_by Strict s
unfolding map_of_by column_names
same_where_strict s e = by_field s.fields.names (both (is_some s.fields.names) _ e).0
  where
    same : columns_at Server s.types s.metadata (unwrap_or s.fields.signs []) 0 ≡ columns_at Strict s.types s.metadata (unwrap_or s.fields.signs []) 0
    same = columns_same s.types s.metadata (unwrap_or s.fields.signs []) 0 (not-true (has_vector s.types) (both (is_some s.fields.names) _ e).1)

    by_field : (field : Option (List ℕ)) → is_some field ≡ true
        → (column_names (length s.types) field >>= λ names. key_in (length s.types) s.fields.key s.fields.prefix_key >>= λ key. columns_at Server s.types s.metadata (unwrap_or s.fields.signs []) 0 >>= λ c.
        used_up c.1.0 >>= λ _. named Server (length s.types) names >>= λ known. signed_enough c.1.1 s.fields.signs >>= λ _. value_names c.0 s.fields.set_names s.fields.enum_names >>= λ values. Ok (made s known key c.0 values))
        ≡ (column_names (length s.types) field >>= λ names. key_in (length s.types) s.fields.key s.fields.prefix_key >>= λ key. columns_at Strict s.types s.metadata (unwrap_or s.fields.signs []) 0 >>= λ c.
        used_up c.1.0 >>= λ _. named Strict (length s.types) names >>= λ known. signed_enough c.1.1 s.fields.signs >>= λ _. value_names c.0 s.fields.set_names s.fields.enum_names >>= λ values. Ok (made s known key c.0 values))
    by_field None h = absurd cc
    by_field (Some field) h = rw same (simp bind_assoc)

-- what the strict profile reads has names, and no VECTOR
pub strict_sections : (s : Sections) (map : Map) → map_of_by Strict s ≡ Ok map → is_strict s ≡ true
unfolding map_of_by column_names
strict_sections s map e = by_field s.fields.names e
  where
    by_columns : {B : Type 0} (f : List Column × (List ℕ × ℕ) → Result B MapFault) (y : B) → (columns_at Strict s.types s.metadata (unwrap_or s.fields.signs []) 0 >>= f) ≡ Ok y → not (has_vector s.types) ≡ true
    by_columns f y h = bind_then (columns_at Strict s.types s.metadata (unwrap_or s.fields.signs []) 0) f y h (λ c e1 k1. ap not (strict_columns s.types s.metadata (unwrap_or s.fields.signs []) 0 c e1))

    by_field : (field : Option (List ℕ))
        → (column_names (length s.types) field >>= λ names. key_in (length s.types) s.fields.key s.fields.prefix_key >>= λ key. columns_at Strict s.types s.metadata (unwrap_or s.fields.signs []) 0 >>= λ c.
        used_up c.1.0 >>= λ _. named Strict (length s.types) names >>= λ known. signed_enough c.1.1 s.fields.signs >>= λ _. value_names c.0 s.fields.set_names s.fields.enum_names >>= λ values. Ok (made s known key c.0 values)) ≡ Ok map
        → (is_some field && not (has_vector s.types)) ≡ true
    by_field (Some field) h = bind_then (column_names (length s.types) (Some field)) _ map h (λ names e1 k1. bind_then (key_in (length s.types) s.fields.key s.fields.prefix_key) _ map k1 (λ key e2 k2. by_columns _ map k2))
    by_field None h = bind_then (key_in (length s.types) s.fields.key s.fields.prefix_key) _ map h (λ key e1 k1. bind_then (columns_at Strict s.types s.metadata (unwrap_or s.fields.signs []) 0) _ map k1 (λ c e2 k2.
        bind_then (used_up c.1.0) _ map k2 (λ u e3 k3. absurd cc)))

-- each profile's maps are the server's
pub as_server : (profile : Profile) (s : Sections) (map : Map) → map_of_by profile s ≡ Ok map → map_of_by Server s ≡ Ok map
as_server Strict s map e = same_where_strict s (strict_sections s map e) ∙ e
as_server Server s map e = e

-- the sections of a map are those that it was read from
pub sections_kept : (profile : Profile) (s : Sections) (map : Map) → map_of_by profile s ≡ Ok map → map.sections ≡ s
unfolding map_of_by
sections_kept profile s map e =
    bind_then (column_names (length s.types) s.fields.names) _ map e (λ names e1 k1. bind_then (key_in (length s.types) s.fields.key s.fields.prefix_key) _ map k1 (λ key e2 k2.
    bind_then (columns_at profile s.types s.metadata (unwrap_or s.fields.signs []) 0) _ map k2 (λ c e3 k3. bind_then (used_up c.1.0) _ map k3 (λ u e4 k4.
    bind_then (named profile (length s.types) names) _ map k4 (λ known e5 k5. bind_then (signed_enough c.1.1 s.fields.signs) _ map k5 (λ g e6 k6.
    bind_then (value_names c.0 s.fields.set_names s.fields.enum_names) _ map k6 (λ values e7 k7. sym (ap (λ (m : Map). m.sections) (ok_same (made s known key c.0 values) map k7)))))))))

-- the same of a body
pub server_at : (profile : Profile) (body : List ℕ) (map : Map) → map_at_by profile body ≡ Ok map → map_at_by Server body ≡ Ok map
unfolding map_at_by
server_at profile body map e =
    bind_then (sections_at body) (map_of_by profile) map e (λ s e1 k1. bind_known (sections_at body) (map_of_by Server) s (Ok map) e1 (as_server profile s map k1))

pub strict_at : (body : List ℕ) (map : Map) → map_at_by Server body ≡ Ok map → is_strict map.sections ≡ true → map_at_by Strict body ≡ Ok map
unfolding map_at_by
strict_at body map e strict =
    bind_then (sections_at body) (map_of_by Server) map e (λ s e1 k1.
    let same : is_strict s ≡ true = rw (← sections_kept Server s map k1) strict in
    bind_known (sections_at body) (map_of_by Strict) s (Ok map) e1 (sym (same_where_strict s same) ∙ k1))
