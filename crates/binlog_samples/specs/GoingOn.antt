-- A feed that goes on over files that have grown: the place that it finds there, why it finds none, and why it doesn't go on.
use Rattle.std.specs.Prelude.{ℕ, List, [], ◌∷◌, ◌++◌, drop, take, map, Some, None}
use Rattle.binlog_frame.specs.Frames.{beginning, passed}
use Rattle.binlog_frame.specs.Logs.{Contents}
use Rattle.binlog_feed.specs.FeedView.{FeedView}
use Rattle.binlog_feed.specs.Following.{IsOfReading, RefusesGoOn}
use Rattle.binlog_feed.specs.Growing.{IsUnfound, StandsBehind}
use Rattle.binlog_units.specs.Parsing.{LogFile}
use Rattle.binlog_units.specs.Places.{begin_file}
use Rattle.binlog_units.specs.declared.fault.FeedFault.TheVariants as reading
use Rattle.binlog_feed.specs.declared.fault.GoOnFault.{GoOnFault}
use Rattle.binlog_units.specs.declared.fault.LogFault.{LogFault}
use Rattle.binlog_units.specs.declared.place.Place.{Place}
use Rattle.binlog_units.specs.declared.unit_state.UnitState.TheVariants.{Nothing}
use Rattle.binlog_units.specs.declared.what.What.TheVariants.{BadMagic, EventAfterEnd, NoFormat}
use Rattle.binlog_profile.specs.declared.profile.Profile.TheVariants.{Strict}
use Rattle.binlog_samples.specs.Files.{alone, event_of, front}
use Rattle.binlog_samples.specs.Changes.{one_row}
use Rattle.binlog_samples.specs.Tokens.{first_name, second_name, third_name, first_file, second_file, third_file}
use Rattle.binlog_feed.specs.declared.fault.GoOnFault.TheVariants as going

abbrev pub names_in : List LogFile → List (List ℕ)
names_in files = map LogFile.name files

abbrev pub held_by : List LogFile → Contents
held_by files = record { profile = Strict; files = map LogFile.bytes files }

-- the first bytes of a file, and a file with another first byte
abbrev pub cut_to : ℕ → LogFile → LogFile
cut_to count file = record file { bytes = take count file.bytes }

abbrev pub with_other_byte : LogFile → LogFile
with_other_byte file = record file { bytes = 0xfd ∷ drop 1 file.bytes }

-- A file's transaction, from 153 to 371, is its last whole unit. The first file goes on behind it.
abbrev pub one_followed : List LogFile
one_followed = first_file ∷ []

abbrev pub two_followed : List LogFile
two_followed = first_file ∷ second_file [] ∷ []

-- behind an event that ends at a position of a list's first file, outside a transaction
abbrev pub behind : ℕ → Place
behind position = record { file = 0; frames = passed (beginning 0) position 0; state = Nothing }

-- ---- shorter files

abbrev pub Short : List LogFile → List LogFile → Place → Type 0
Short files later mark = IsUnfound (names_in files) (held_by files) (names_in later) (held_by later) mark going.FileShorter

-- The file with the name of the last one ends before the end of that one's last whole unit, be the mark in this one, before it or behind that
-- unit, and whatever the file holds.
abbrev pub ShorterFiles : Type 0
ShorterFiles =
    Short one_followed (cut_to 370 first_file ∷ []) (begin_file 0) × Short one_followed (cut_to 370 first_file ∷ []) (behind 371)
    × Short two_followed (first_file ∷ cut_to 370 (second_file []) ∷ []) (begin_file 1) × Short two_followed (cut_to 370 (second_file []) ∷ []) (begin_file 0)
    × Short two_followed (cut_to 370 (second_file []) ∷ []) (behind 153) × Short one_followed (cut_to 370 (with_other_byte first_file) ∷ []) (begin_file 0)

-- not where it reaches as far, where another file is shorter, or where no file has the name
abbrev pub FilesNotShorter : Type 0
FilesNotShorter =
    (Short one_followed (cut_to 371 first_file ∷ []) (begin_file 0) → ⊥) × (Short one_followed (cut_to 371 first_file ∷ []) (behind 371) → ⊥)
    × (Short two_followed (cut_to 370 first_file ∷ second_file [] ∷ []) (begin_file 1) → ⊥) × (Short two_followed (cut_to 370 first_file ∷ []) (begin_file 1) → ⊥)
    × (Short one_followed (second_file [] ∷ first_file ∷ cut_to 370 first_file ∷ []) (begin_file 0) → ⊥)

-- ---- faults in place of the first event

abbrev pub Faulty : List LogFile → List LogFile → LogFault → Type 0
Faulty files later fault = IsUnfound (names_in files) (held_by files) (names_in later) (held_by later) (begin_file 0) (going.Later (reading.Log fault))

abbrev pub magic_of : ℕ → LogFault
magic_of file = record { file = file; position = 0; what = BadMagic }

-- the fault has the number of the file in its list
abbrev pub FaultsOfGrown : Type 0
FaultsOfGrown =
    Faulty one_followed (with_other_byte first_file ∷ []) (magic_of 0) × Faulty one_followed (third_file ∷ with_other_byte first_file ∷ []) (magic_of 1)
    × Faulty two_followed (with_other_byte (second_file []) ∷ []) (magic_of 0)

-- no other position, no other fault, no other file
abbrev pub OtherFaults : Type 0
OtherFaults =
    (Faulty one_followed (with_other_byte first_file ∷ []) (record (magic_of 0) { position = 4 }) → ⊥) × (Faulty one_followed (with_other_byte first_file ∷ []) (record (magic_of 0) { what = NoFormat }) → ⊥)
    × (Faulty one_followed (third_file ∷ with_other_byte first_file ∷ []) (magic_of 0) → ⊥) × (Faulty two_followed (with_other_byte first_file ∷ second_file [] ∷ []) (magic_of 0) → ⊥)

-- none of a file that is shorter, of one that has its first event, or where no unit was whole
abbrev pub NoFaultsOfGrown : Type 0
NoFaultsOfGrown =
    (Faulty one_followed (cut_to 370 (with_other_byte first_file) ∷ []) (magic_of 0) → ⊥) × (Faulty one_followed two_followed (magic_of 0) → ⊥)
    × (Faulty (alone front) (with_other_byte first_file ∷ []) (magic_of 0) → ⊥)

-- ---- why no place is found

abbrev pub Unfound : List LogFile → List LogFile → GoOnFault → Type 0
Unfound files later = IsUnfound (names_in files) (held_by files) (names_in later) (held_by later) (begin_file 0)

-- a file with a fault behind its transaction and an end: at 390
abbrev pub ends_twice : List LogFile
ends_twice = alone (one_row ++ event_of 3 0 [] ++ event_of 3 0 [])

abbrev pub second_end : LogFault
second_end = record { file = 0; position = 390; what = EventAfterEnd }

-- a shorter file, a fault of the later one, one of the earlier one, and a device
abbrev pub PlacesUnfound : Type 0
PlacesUnfound =
    Unfound one_followed (cut_to 370 first_file ∷ []) going.FileShorter × Unfound one_followed (with_other_byte first_file ∷ []) (going.Later (reading.Log (magic_of 0)))
    × Unfound ends_twice one_followed (going.Earlier (reading.Log second_end)) × Unfound one_followed two_followed (going.Later (reading.Read 0))

-- not by another position, by the other list, or where there is no such fault
abbrev pub PlacesFound : Type 0
PlacesFound =
    (Unfound one_followed (cut_to 371 first_file ∷ []) going.FileShorter → ⊥) × (Unfound one_followed (with_other_byte first_file ∷ []) (going.Later (reading.Log (record (magic_of 0) { position = 4 }))) → ⊥)
    × (Unfound one_followed (with_other_byte first_file ∷ []) (going.Earlier (reading.Log (magic_of 0))) → ⊥)
    × (Unfound ends_twice one_followed (going.Earlier (reading.Log (record second_end { position = 371 }))) → ⊥) × (Unfound ends_twice ends_twice (going.Later (reading.Log second_end)) → ⊥)
    × (Unfound one_followed two_followed (going.Earlier (reading.Log second_end)) → ⊥)

-- ---- the place that is found

abbrev pub Found : List LogFile → List LogFile → Place → Type 0
Found files later place = StandsBehind (names_in files) (held_by files) (names_in later) (held_by later) (begin_file 0) place

-- behind the last whole unit, and where there was none, at the beginning of the file that has the name
abbrev pub PlaceFound : Type 0
PlaceFound =
    Found one_followed two_followed (behind 371) × Found (alone front) two_followed (begin_file 0) × Found (alone front) (third_file ∷ first_file ∷ []) (begin_file 1)

-- Not at another position, in another file, in a file that ends before it, or in one with a fault in place of its first event; and none is found
-- where the earlier file's units end with a fault.
abbrev pub OtherPlaces : Type 0
OtherPlaces =
    (Found one_followed two_followed (begin_file 0) → ⊥) × (Found one_followed two_followed (behind 370) → ⊥) × (Found one_followed two_followed (behind 344) → ⊥) × (Found (alone front) two_followed (behind 153) → ⊥)
    × (Found (alone front) two_followed (begin_file 1) → ⊥) × (Found (alone front) (third_file ∷ first_file ∷ []) (begin_file 0) → ⊥)
    × ((place : Place) → Found one_followed (cut_to 370 first_file ∷ []) place → ⊥) × ((place : Place) → Found one_followed (with_other_byte first_file ∷ []) place → ⊥)
    × ((place : Place) → Found one_followed (third_file ∷ []) place → ⊥)
    × ((place : Place) → Found ends_twice one_followed place → ⊥)

-- ---- why a feed doesn't go on

-- a device, the window or want of memory, in either list
abbrev pub RefusalsOfReading : Type 0
RefusalsOfReading =
    IsOfReading (going.Earlier (reading.Read 0)) × IsOfReading (going.Earlier reading.OutOfMemory) × IsOfReading (going.Earlier (reading.WindowTooSmall 99))
    × IsOfReading (going.Later (reading.Read 1)) × IsOfReading (going.Later reading.OutOfMemory) × IsOfReading (going.Later (reading.WindowTooSmall 99))

abbrev pub RefusalsOfFiles : Type 0
RefusalsOfFiles =
    (IsOfReading going.NotAtEnd → ⊥) × (IsOfReading (going.DuplicateFile 1) → ⊥) × (IsOfReading (going.OutOfOrder 1) → ⊥) × (IsOfReading going.FileGone → ⊥) × (IsOfReading going.FileShorter → ⊥)
    × (IsOfReading (going.Earlier (reading.Log second_end)) → ⊥) × (IsOfReading (going.Later (reading.Log (magic_of 0))) → ⊥)

-- Only a feed to which a change may be still to come, or one that met a fault, refuses by that.
abbrev pub NotAtEnd : Type 0
NotAtEnd = (feed : FeedView)
    → RefusesGoOn (record feed { settled = None }) [] going.NotAtEnd × RefusesGoOn (record feed { settled = Some (Some second_end) }) [] going.NotAtEnd
    × (RefusesGoOn (record feed { settled = Some None }) [] going.NotAtEnd → ⊥)

abbrev pub followed_names : List (List ℕ)
followed_names = first_name ∷ second_name ∷ []

-- A file is gone where none has the name of the feed's last one, and of two files with one name the second is told. One of the feed's files
-- is out of order where it is the first that stands behind its last one.
abbrev pub GoOnRefused : Type 0
GoOnRefused = (feed : FeedView)
    → RefusesGoOn (record feed { names = followed_names }) (first_name ∷ third_name ∷ []) going.FileGone
    × (RefusesGoOn (record feed { names = followed_names }) (third_name ∷ second_name ∷ []) going.FileGone → ⊥)
    × RefusesGoOn (record feed { names = followed_names }) (third_name ∷ third_name ∷ []) (going.DuplicateFile 1)
    × (RefusesGoOn (record feed { names = followed_names }) (third_name ∷ third_name ∷ []) (going.DuplicateFile 0) → ⊥)
    × (RefusesGoOn (record feed { names = third_name ∷ third_name ∷ [] }) followed_names (going.DuplicateFile 1) → ⊥)
    × RefusesGoOn (record feed { names = followed_names }) (second_name ∷ third_name ∷ first_name ∷ []) (going.OutOfOrder 2)
    × (RefusesGoOn (record feed { names = followed_names }) (second_name ∷ third_name ∷ first_name ∷ []) (going.OutOfOrder 1) → ⊥)
    × (RefusesGoOn (record feed { names = followed_names }) (second_name ∷ first_name ∷ first_name ∷ []) (going.OutOfOrder 2) → ⊥)
    × (RefusesGoOn (record feed { names = followed_names }) (first_name ∷ second_name ∷ []) (going.OutOfOrder 0) → ⊥)
