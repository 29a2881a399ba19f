-- What the readers of a table map say of what they own: the lists as values.
use Rattle.std.specs.Prelude.{◌≡◌, ℕ, ◌<◌, ◌+◌, ◌-◌, Bool, false, List, length, map, Option, Result, Ok, Err, option_map, slice_index_or, if◌then◌else◌}
use Rattle.std.specs.Borrow.{Bor}
use Rattle.binlog_table.specs.declared.fault.MapFault.{MapFault}
use Rattle.binlog_table.specs.declared.fault.MapFault.TheVariants.{BadMap}
use Rattle.binlog_table.specs.Names.{are_distinct}
use Rattle.binlog_table.specs.NameOrder.{AreSorted, name_of, name_in}

-- the bytes of a field, where it is there
abbrev pub bytes_if : Option (Bor (List ℕ)) → Option (List ℕ)
bytes_if field = option_map (λ x. x.now) field

-- the name at a place of a sorted list
abbrev pub sorted_name : List (Bor (List ℕ) × ℕ) → ℕ → List ℕ
sorted_name sorted place = name_of (map name_in sorted) place

-- the names at a place and in front of it are equal
abbrev pub RepeatsAt : List (Bor (List ℕ) × ℕ) → ℕ → Type 0
RepeatsAt sorted place = (0 < place) × (sorted_name sorted (place - 1) ≡ sorted_name sorted place)

abbrev pub RepeatsNotAt : List (Bor (List ℕ) × ℕ) → ℕ → Type 0
RepeatsNotAt sorted place = 0 < place → sorted_name sorted (place - 1) ≡ sorted_name sorted place → ⊥

-- no name stands twice in a sorted list
abbrev pub RepeatsNowhere : List (Bor (List ℕ) × ℕ) → Type 0
RepeatsNowhere sorted = (k : ℕ) → k + 1 < length (map name_in sorted) → sorted_name sorted k ≡ sorted_name sorted (k + 1) → ⊥

-- names that are so when they are sorted aren't distinct
abbrev pub AreRepeated : List (Bor (List ℕ) × ℕ) → Type 0
AreRepeated sorted = (names : List (List ℕ)) → AreSorted names sorted → are_distinct names ≡ false

-- an index that wasn't seen before
abbrev pub if_unseen : List Bool → ℕ → Result ℕ MapFault
if_unseen seen index = if slice_index_or seen index Bool.true then Err BadMap else Ok index
