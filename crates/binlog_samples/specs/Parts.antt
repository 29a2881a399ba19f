-- Parts that looks don't give, and where a run that follows doesn't begin: what is left out, what comes twice, and another end.
use Rattle.std.specs.Prelude.{List, [], ◌∷◌, drop, None}
use Rattle.binlog_feed.specs.Changes.{RowChange}
use Rattle.binlog_feed.specs.ChangeMachine.{RemainingChanges}
use Rattle.binlog_feed.specs.declared.start.Start.TheVariants.{Beginning, After}
use Rattle.binlog_units.specs.declared.what.What.TheVariants.{RotationMismatch}
use Rattle.binlogfeed.specs.Looks.{AreParts, BeginsFollowing}
use Rattle.binlog_samples.specs.Files.{fault_at}
use Rattle.binlog_samples.specs.Tokens.{first_name, second_name, token}
use Rattle.binlog_samples.specs.Following.{all, both_files, given, look_at, nothing_to_come, one_file}

-- what is to come, with no fault behind it
abbrev pub to_come : List RowChange → RemainingChanges
to_come changes = record { changes = changes; end = None }

-- ---- parts

-- a look at a file, and one at it and a second one: what is new there comes once, and isn't left out
abbrev pub PartsOfTwo : Type 0
PartsOfTwo =
    AreParts all Beginning (given one_file) (look_at both_files) (look_at one_file ∷ []) (drop 1 (given both_files) ∷ given one_file ∷ [])
    × (AreParts all Beginning (given one_file) (look_at both_files) (look_at one_file ∷ []) ([] ∷ given one_file ∷ []) → ⊥)
    × (AreParts all Beginning (given one_file) (look_at both_files) (look_at one_file ∷ []) (given both_files ∷ given one_file ∷ []) → ⊥)

-- the first look gives all, and once
abbrev pub PartOfFirst : Type 0
PartOfFirst =
    AreParts all Beginning (given one_file) (look_at one_file) [] (given one_file ∷ []) × (AreParts all Beginning [] (look_at one_file) [] ([] ∷ []) → ⊥)
    × (AreParts all Beginning (given one_file) (look_at one_file) [] ([] ∷ []) → ⊥)

-- each look has one part: neither none nor two
abbrev pub PartsCounted : Type 0
PartsCounted =
    (AreParts all Beginning (given one_file) (look_at one_file) [] (given one_file ∷ [] ∷ []) → ⊥) × (AreParts all Beginning (given one_file) (look_at one_file) [] [] → ⊥)
    × (AreParts all Beginning (given one_file) (look_at both_files) (look_at one_file ∷ []) (given both_files ∷ []) → ⊥)

-- ---- where a run begins

-- at the beginning, behind a change, and at the end of the first file
abbrev pub Begins : Type 0
Begins =
    BeginsFollowing both_files all Beginning (to_come (given both_files)) × BeginsFollowing both_files all (After (token 153 1 first_name)) (to_come (drop 1 (given both_files)))
    × BeginsFollowing both_files all (After (token 371 0 first_name)) (to_come (drop 1 (given both_files)))

-- what stands behind the start isn't left out, and what stands before it doesn't come again
abbrev pub BeginsElsewhere : Type 0
BeginsElsewhere =
    (BeginsFollowing both_files all Beginning (to_come (drop 1 (given both_files))) → ⊥)
    × (BeginsFollowing both_files all (After (token 153 1 first_name)) nothing_to_come → ⊥)
    × (BeginsFollowing both_files all (After (token 153 1 first_name)) (to_come (given both_files)) → ⊥)

abbrev pub BeginsElsewhereAtEnd : Type 0
BeginsElsewhereAtEnd =
    (BeginsFollowing both_files all (After (token 371 0 first_name)) nothing_to_come → ⊥)
    × (BeginsFollowing both_files all (After (token 371 0 first_name)) (to_come (given both_files)) → ⊥)

-- a fault that the files don't have doesn't end what is to come
abbrev pub BeginsWithoutFault : Type 0
BeginsWithoutFault =
    (BeginsFollowing both_files all Beginning (record { changes = given both_files; end = fault_at 0 371 RotationMismatch }) → ⊥)
    × (BeginsFollowing both_files all (After (token 371 0 first_name)) (record { changes = drop 1 (given both_files); end = fault_at 0 371 RotationMismatch }) → ⊥)

-- a run begins at no token before the end where no transaction stands, at none that counts a change there, behind no change that isn't there,
-- and in no other file
abbrev pub BeginsNowhere : Type 0
BeginsNowhere =
    (BeginsFollowing one_file all (After (token 370 0 first_name)) nothing_to_come → ⊥) × (BeginsFollowing one_file all (After (token 371 1 first_name)) nothing_to_come → ⊥)
    × (BeginsFollowing one_file all (After (token 153 2 first_name)) nothing_to_come → ⊥) × (BeginsFollowing one_file all (After (token 371 0 second_name)) nothing_to_come → ⊥)
