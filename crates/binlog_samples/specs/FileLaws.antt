-- What stands at tokens of small files, their units as they are read apart, and what the laws say of them. A law is asked by its name for
-- what it says of these files, so that each of its premises has to hold of them.
use Rattle.std.specs.Prelude.{◌≡◌, ◌<◌, ℕ, List, [], ◌∷◌, ◌++◌, Option, Some, None, option_map, Bool, true, IsSome, ◌↔◌}
use Rattle.binlog_select.specs.declared.token.Token.{Token}
use Rattle.binlog_feed.specs.Changes.{RowChange}
use Rattle.binlog_feed.specs.Continues.{has_file, in_files}
use Rattle.binlog_feed.specs.FeedLaws.{ChangesAreFound, ChangesStandAtTheirPlaces, ListsResume}
use Rattle.binlog_feed.specs.Feeds.{feed, end_from}
use Rattle.binlog_feed.specs.Listings.{changes_listed}
use Rattle.feed_laws.specs.Apart.{FilesAreApart, UnitsAreApart, changes_read_apart, units_read_apart}
use Rattle.feed_laws.specs.Order.{PlacesRise}
use Rattle.binlog_units.specs.Parsing.{LogFile}
use Rattle.binlog_feed.specs.Tokens.{Judgement, change_at, judge, judge_change, token_of, is_after, rest}
use Rattle.binlog_feed.specs.Tokens.Judgement.{NoFile, Fits, NoChange, NoTransaction}
use Rattle.binlog_units.specs.Places.{units_of_files}
use Rattle.binlog_units.specs.declared.fault.LogFault.{LogFault}
use Rattle.binlog_units.specs.declared.unit.Unit.{Unit as UnitSummary}
use Rattle.binlog_units.specs.declared.unit.UnitEnding.TheVariants.{Xid}
use Rattle.binlog_units.specs.declared.what.What.TheVariants.{BadMagic, BadRows, RotationMismatch}
use Rattle.binlog_samples.specs.Hex.{hex}
use Rattle.binlog_samples.specs.Files.{alone, unit_at, fault_at}
use Rattle.binlog_samples.specs.Changes.{Brief, brief, one_row, first_change, two_updates, update_of}
use Rattle.binlog_samples.specs.Continuations.{cut_file, grown_file}
use Rattle.binlog_samples.specs.Tokens.{first_name, second_name, third_name, token, faulty, two_files, second_change, bad_in_second, rotates_past, second_rotates_past}

-- ---- what stands at a token

-- the change there, and how the token is judged where one is wanted
abbrev pub Stands : List LogFile → Token → Option Brief → Judgement → Type 0
Stands files token change judgement = (option_map brief (change_at files token) ≡ change) × (judge_change files token ≡ judgement)

-- no row has the number 0
abbrev pub ChangesAtTokens : Type 0
ChangesAtTokens =
    Stands two_files (token 153 1 first_name) (Some first_change) Fits × Stands two_files (token 153 1 second_name) (Some second_change) Fits
    × Stands two_files (token 153 0 second_name) None NoChange × Stands two_files (token 153 2 second_name) None NoChange
    × Stands two_files (token 152 1 second_name) None NoTransaction × Stands two_files (token 153 1 third_name) None NoFile
    × Stands bad_in_second (token 153 1 second_name) None (faulty 1 306 BadRows)
    × Stands (alone two_updates) (token 153 1 first_name) (Some (update_of 1)) Fits × Stands (alone two_updates) (token 153 2 first_name) (Some (update_of 2)) Fits

-- ---- units that are read apart

-- files from a number on come to these units, each file by itself
abbrev pub UnitsComeApartTo : ℕ → List LogFile → List UnitSummary → Option LogFault → Type 0
UnitsComeApartTo number files units end = units_read_apart number files ≡ record { units = units; end = end }

-- One file alone has nothing behind it; its units have its number. A fault has the number of its file, and ends what comes. A row that
-- lacks a byte is no fault of units.
abbrev pub UnitsApart : Type 0
UnitsApart =
    UnitsComeApartTo 0 (alone one_row) (unit_at 0 153 371 1 Xid ∷ []) None × UnitsComeApartTo 3 (alone one_row) (unit_at 3 153 371 1 Xid ∷ []) None
    × UnitsComeApartTo 3 (alone (hex "fd 62 69 6e")) [] (fault_at 3 0 BadMagic) × UnitsComeApartTo 0 [] [] None
    × UnitsComeApartTo 0 two_files (unit_at 0 153 371 1 Xid ∷ unit_at 1 153 371 2 Xid ∷ []) None
    × UnitsComeApartTo 0 bad_in_second (unit_at 0 153 371 1 Xid ∷ unit_at 1 153 370 2 Xid ∷ []) None
    × UnitsComeApartTo 0 rotates_past (unit_at 0 153 371 1 Xid ∷ []) (fault_at 0 371 RotationMismatch)
    × UnitsComeApartTo 0 second_rotates_past (unit_at 0 153 371 1 Xid ∷ unit_at 1 153 371 2 Xid ∷ []) (fault_at 1 371 RotationMismatch)

-- ---- laws

abbrev pub every : RowChange → Bool
every change = true

-- at the place of each change of two files stands that change, and the token of one of a row fits
abbrev pub StandsThere : Type 0
StandsThere = ChangesStandAtTheirPlaces
    → (before after : List RowChange) (member : RowChange) → feed two_files every ≡ before ++ member ∷ after
    → (change_at two_files (token_of member) ≡ Some member) × (0 < member.number → judge_change two_files (token_of member) ≡ Fits)

-- each token of two files
abbrev pub FoundOfTwo : Type 0
FoundOfTwo = ChangesAreFound → (token : Token) → (judge_change two_files token ≡ Fits) ↔ (IsSome (change_at two_files token) × (0 < token.count))

-- the second change of two files stands behind the first
abbrev pub RisesInTwo : Type 0
RisesInTwo = PlacesRise → (first second : RowChange) → feed two_files every ≡ first ∷ second ∷ [] → is_after (token_of first) second ≡ true

-- a file that has grown gives what stands behind the token of each change that it had
abbrev pub ResumesGrown : Type 0
ResumesGrown = ListsResume changes_listed
    → (before after : List RowChange) (member : RowChange) → feed cut_file every ≡ before ++ member ∷ after → has_file grown_file member.file ≡ true
    → (judge grown_file (token_of member) ≡ Fits)
    × (in_files grown_file (before ++ member ∷ []) ++ rest grown_file every (token_of member) ≡ feed grown_file every)

-- one file alone, and two, whatever they hold
abbrev pub OneApart : Type 0
OneApart =
    (FilesAreApart → (file : LogFile) (passes : RowChange → Bool)
    → record { changes = feed (file ∷ []) passes; end = end_from 3 (file ∷ []) } ≡ changes_read_apart passes 3 (file ∷ []))
    × (UnitsAreApart → (file : LogFile) → units_of_files 0 (file ∷ []) ≡ units_read_apart 0 (file ∷ []))

abbrev pub TwoApart : Type 0
TwoApart =
    (FilesAreApart → (file other : LogFile) (passes : RowChange → Bool)
    → record { changes = feed (file ∷ other ∷ []) passes; end = end_from 3 (file ∷ other ∷ []) } ≡ changes_read_apart passes 3 (file ∷ other ∷ []))
    × (UnitsAreApart → (file other : LogFile) → units_of_files 0 (file ∷ other ∷ []) ≡ units_read_apart 0 (file ∷ other ∷ []))
