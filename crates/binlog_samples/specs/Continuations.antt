-- Small files that have gone on: what stands behind a token, and which files continue others.
use Rattle.std.specs.Prelude.{◌≡◌, ℕ, List, [], ◌∷◌, ◌++◌, length, take, drop, Some, None, true, codes}
use Rattle.binlog_frame.specs.Closing.{closed}
use Rattle.binlog_select.specs.declared.kind.ChangeKind.TheVariants.{Insert}
use Rattle.binlog_feed.specs.Changes.{RowChange}
use Rattle.binlog_feed.specs.Continues.{Extends, Continues}
use Rattle.binlog_units.specs.Parsing.{LogFile}
use Rattle.binlog_feed.specs.Starts.{Anew}
use Rattle.binlog_feed.specs.Tokens.Judgement.{NoFile}
use Rattle.binlog_feed.specs.declared.start.Start.TheVariants.{After}
use Rattle.binlog_samples.specs.Files.{front, named, alone, xid_event}
use Rattle.binlog_samples.specs.Changes.{Has, image, cells, begun, one_row, one_more, change_at, first_change, two_updates}
use Rattle.binlog_samples.specs.Tokens.{first_name, second_name, third_name, fourth_name, token, Judges, Rests, first_file, second_file, third_file, two_files, third_change, bad_behind_second}

-- ---- one file

-- the beginning of a transaction, and later another one in its place
abbrev pub cut_file : List LogFile
cut_file = alone (one_row ++ take 100 (one_more 2 (image 2 (codes "b")) xid_event))

abbrev pub other_end : List ℕ
other_end = one_more 2 (image 3 (codes "c")) xid_event

abbrev pub grown_file : List LogFile
grown_file = alone (one_row ++ other_end)

abbrev pub FileGrows : Type 0
FileGrows = Extends grown_file cut_file × Continues grown_file cut_file
    × Rests grown_file (token 153 1 first_name) (change_at 2 371 1 Insert None (Some (cells 3 (codes "c"))) ∷ [])

-- a file without a whole unit: another one may stand in its place
abbrev pub no_unit : List LogFile
no_unit = alone (front ++ begun 7)

abbrev pub FileWithoutUnits : Type 0
FileWithoutUnits = Extends grown_file no_unit × Continues grown_file no_unit

-- ---- several files

-- the first of two files is gone, and a third has come
abbrev pub later_files : List LogFile
later_files = second_file [] ∷ third_file ∷ []

abbrev pub FilesGoOn : Type 0
FilesGoOn =
    Extends later_files two_files × Continues later_files two_files
    × Rests later_files (token 153 1 second_name) (third_change ∷ []) × Judges later_files 153 1 first_name NoFile

abbrev pub fourth_file : LogFile
fourth_file = named fourth_name (front ++ one_more 4 (image 5 (codes "e")) xid_event)

abbrev pub four_files : List LogFile
four_files = first_file ∷ second_file [] ∷ third_file ∷ fourth_file ∷ []

-- the first file is kept, and two have come
abbrev pub FileIsKept : Type 0
FileIsKept = Extends four_files two_files × Continues four_files two_files

-- two are gone, and one has come
abbrev pub TwoAreGone : Type 0
TwoAreGone =
    Extends (third_file ∷ fourth_file ∷ []) (first_file ∷ second_file [] ∷ third_file ∷ []) × Continues (third_file ∷ fourth_file ∷ []) (first_file ∷ second_file [] ∷ third_file ∷ [])

-- the last file has a fault behind its whole transaction, at 524, and later a transaction there
abbrev pub FaultIsMended : Type 0
FaultIsMended =
    Extends (first_file ∷ second_file other_end ∷ []) bad_behind_second × Continues (first_file ∷ second_file other_end ∷ []) bad_behind_second

-- the first of three is gone, the second is kept, the third has grown, and a fourth has come
abbrev pub third_grown : LogFile
third_grown = named third_name (front ++ one_more 3 (image 4 (codes "d")) xid_event ++ other_end)

abbrev pub AllAtOnce : Type 0
AllAtOnce =
    Extends (second_file [] ∷ third_grown ∷ fourth_file ∷ []) (first_file ∷ second_file [] ∷ third_file ∷ [])
    × Continues (second_file [] ∷ third_grown ∷ fourth_file ∷ []) (first_file ∷ second_file [] ∷ third_file ∷ [])

-- two are kept
abbrev pub TwoAreKept : Type 0
TwoAreKept = Extends four_files (first_file ∷ second_file [] ∷ third_file ∷ []) × Continues four_files (first_file ∷ second_file [] ∷ third_file ∷ [])

-- ---- files that a server has closed in between

-- a file while it is written: its first event has LOG_EVENT_BINLOG_IN_USE_F
abbrev pub in_use : LogFile → LogFile
in_use file = record file { bytes = take 21 file.bytes ++ 1 ∷ drop 22 file.bytes }

-- both bytes of the flags, and no other, are cleared
abbrev pub ClosedBytes : Type 0
ClosedBytes =
    (closed (take 20 front ++ 1 ∷ 2 ∷ 3 ∷ 4 ∷ []) ≡ take 20 front ++ 1 ∷ 0 ∷ 0 ∷ 4 ∷ []) × (closed (take 20 front ++ 1 ∷ 2 ∷ []) ≡ take 20 front ++ 1 ∷ 0 ∷ [])
    × (closed (take 20 front ++ 1 ∷ []) ≡ take 20 front ++ 1 ∷ [])

-- the last file was written, and has grown and was closed; its change is still there, and another behind it
abbrev pub LastIsClosed : Type 0
LastIsClosed =
    Continues grown_file (in_use (named first_name (one_row ++ take 100 other_end)) ∷ [])
    × Has (in_use (named first_name one_row) ∷ []) (first_change ∷ []) None
    × Rests grown_file (token 153 1 first_name) (change_at 2 371 1 Insert None (Some (cells 3 (codes "c"))) ∷ [])

-- a file that is kept was closed, and the last one is still written
abbrev pub KeptIsClosed : Type 0
KeptIsClosed = Continues (first_file ∷ in_use (second_file []) ∷ []) (in_use first_file ∷ in_use (second_file []) ∷ [])

-- the last file was written, has grown and was closed, and the next one is written
abbrev pub LastIsRotated : Type 0
LastIsRotated = Continues (second_file other_end ∷ in_use third_file ∷ []) (first_file ∷ in_use (second_file []) ∷ [])

-- a file that was closed is written again
abbrev pub LastIsOpened : Type 0
LastIsOpened = Continues (in_use (second_file other_end) ∷ []) (second_file [] ∷ [])

-- ---- begun anew

-- the first of two lines of one file, over that file grown
abbrev pub AnewAfterFirst : Type 0
AnewAfterFirst =
    (member : RowChange) × (after : List RowChange) × (length after ≡ 1)
    × Anew (alone two_updates) (alone (two_updates ++ other_end)) (λ change. true) [] member after (After (token 153 1 first_name))
