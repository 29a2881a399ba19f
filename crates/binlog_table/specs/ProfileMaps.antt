-- What the two profiles make of one table map, as the contract of the public law says it.
use Rattle.std.specs.Prelude.{◌≡◌, ◌⊎◌, ℕ, List, Ok, Err, true}
use Rattle.binlog_profile.specs.declared.profile.Profile.TheVariants.{Server}
use Rattle.binlog_table.specs.Map.{Map, map_at, map_at_by, is_strict}
use Rattle.binlog_table.specs.TypeCodes.{vector}
use Rattle.binlog_table.specs.declared.fault.MapFault.TheVariants.{NoColumnNames, TypeOutOfProfile}

-- The strict profile refuses a body for its missing names or for a VECTOR, or reads it as the server's does.
abbrev pub StrictOrAlike : Type 0
StrictOrAlike = (body : List ℕ) →
    (map_at body ≡ Err NoColumnNames) ⊎ ((map_at body ≡ Err (TypeOutOfProfile vector)) ⊎ (map_at body ≡ map_at_by Server body))

-- It reads exactly the maps of the server's profile that have names of their own and no VECTOR.
abbrev pub StrictIsNamed : Type 0
StrictIsNamed = (body : List ℕ) (map : Map) → map_at body ≡ Ok map → is_strict map.sections ≡ true

abbrev pub NamedIsStrict : Type 0
NamedIsStrict = (body : List ℕ) (map : Map) → map_at_by Server body ≡ Ok map → is_strict map.sections ≡ true → map_at body ≡ Ok map

-- The server's profile refuses no body for its missing names.
abbrev pub ServerNeedsNoNames : Type 0
ServerNeedsNoNames = (body : List ℕ) → map_at_by Server body ≡ Err NoColumnNames → ⊥
