-- What the optional fields of a table map hold, as concatenations.
use Rattle.std.specs.Prelude.{◌≡◌, ℕ, ◌<◌, Bool, true, false, not, ◌||◌, List, [], ◌∷◌, ◌++◌, length, map, Option, Some, None, if◌then◌else◌}
use Rattle.std.specs.List.{list_any, AllByRecursion}
use Rattle.std.specs.Prelude.{◌==◌}
use Rattle.binlog_table.specs.declared.column.Column.{Column}
use Rattle.binlog_table.specs.declared.column.Layout.{Layout}
use Rattle.binlog_table.specs.declared.column.Layout.TheVariants.{Enum, Set}
use Rattle.binlog_table.specs.Packed.{IsPacked}
use Rattle.binlog_table.specs.Fields.{is_utf8}
use Rattle.binlog_table.specs.MapBody.{IsString}
use Rattle.binlog_table.specs.Names.{are_distinct}

-- strings one after another, each a packed length and as many bytes
abbrev pub AreStrings : List (List ℕ) → List ℕ → Type 0
AreStrings [] bytes = bytes ≡ []
AreStrings (string ∷ strings) bytes = (text : List ℕ) × (rest : List ℕ) × (bytes ≡ text ++ rest) × IsString string text × AreStrings strings rest

-- The names of so many columns: as many strings in UTF-8, no two alike.
pub record AreColumnNames (count : ℕ) (names : List (List ℕ)) (value : List ℕ) : Type 0 where
  pub spelled : AreStrings names value
  pub one_each : length names ≡ count
  pub texts : AllByRecursion (λ name. is_utf8 name ≡ true) names
  pub distinct : are_distinct names ≡ true

-- a column of a key: its index, and the length of its prefix where the key has prefixes
abbrev pub IsIndex : Bool → ℕ → List ℕ → Type 0
IsIndex false index text = IsPacked index text
IsIndex true index text = (first : List ℕ) × (second : List ℕ) × (prefix : ℕ) × (text ≡ first ++ second) × IsPacked index first × IsPacked prefix second

abbrev pub AreIndexes : Bool → List ℕ → List ℕ → Type 0
AreIndexes prefixed [] bytes = bytes ≡ []
AreIndexes prefixed (index ∷ indexes) bytes = (text : List ℕ) × (rest : List ℕ) × (bytes ≡ text ++ rest) × IsIndex prefixed index text × AreIndexes prefixed indexes rest

-- each is below the count, and not among those in front of it
abbrev pub AreNew : ℕ → List ℕ → List ℕ → Type 0
AreNew count front [] = Unit {0}
AreNew count front (index ∷ indexes) = (index < count) × (list_any (λ y. y == index) front ≡ false) × AreNew count (front ++ index ∷ []) indexes

-- The key of a table of so many columns: distinct indexes of columns, in key order.
pub record AreKeyColumns (prefixed : Bool) (count : ℕ) (key value : List ℕ) : Type 0 where
  pub spelled : AreIndexes prefixed key value
  pub columns : AreNew count [] key

-- ---- the names of ENUM and SET values

-- a list of names: how many there are, then each as a string
abbrev pub IsNameList : List (List ℕ) → List ℕ → Type 0
IsNameList names text = (count : List ℕ) × (strings : List ℕ) × (text ≡ count ++ strings) × IsPacked (length names) count × AreStrings names strings

-- one list after another
abbrev pub AreNameLists : List (List (List ℕ)) → List ℕ → Type 0
AreNameLists [] bytes = bytes ≡ []
AreNameLists (names ∷ lists) bytes = (text : List ℕ) × (rest : List ℕ) × (bytes ≡ text ++ rest) × IsNameList names text × AreNameLists lists rest

abbrev pub is_set : Layout → Bool
is_set (Set w) = true
is_set other = false

abbrev pub is_enum : Layout → Bool
is_enum (Enum w) = true
is_enum other = false

abbrev pub is_neither : Layout → Bool
is_neither layout = not (is_set layout || is_enum layout)

-- the names at the columns with such a layout, of names for each column
abbrev pub names_at_columns : (Layout → Bool) → List Column → List (Option (List (List ℕ))) → List (Option (List (List ℕ)))
names_at_columns is (column ∷ columns) (own ∷ others) = if is column.layout then own ∷ names_at_columns is columns others else names_at_columns is columns others
names_at_columns is columns names = []

-- a field spells the lists of its columns, one after the other; without it these have none
abbrev pub FieldSpells : Option (List ℕ) → List (Option (List (List ℕ))) → Type 0
FieldSpells None names = AllByRecursion (λ own. own ≡ None) names
FieldSpells (Some value) names = (lists : List (List (List ℕ))) × (names ≡ map Some lists) × AreNameLists lists value

-- The names of the values of each column: the lists of SET columns stand in one field, those of ENUM columns in
-- another, and other columns have none.
pub record AreValueNames (columns : List Column) (sets enums : Option (List ℕ)) (names : List (Option (List (List ℕ)))) : Type 0 where
  pub one_each : length names ≡ length columns
  pub of_sets : FieldSpells sets (names_at_columns is_set columns names)
  pub of_enums : FieldSpells enums (names_at_columns is_enum columns names)
  pub of_others : AllByRecursion (λ own. own ≡ None) (names_at_columns is_neither columns names)
