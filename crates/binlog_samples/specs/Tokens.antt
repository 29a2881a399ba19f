-- Tokens over small files: how they are judged, and what stands behind them; and such files read apart.
use Rattle.std.specs.Prelude.{◌≡◌, ℕ, List, [], ◌∷◌, ◌++◌, take, map, Option, Some, None, Bool, true, codes}
use Rattle.binlog_select.specs.declared.kind.ChangeKind.TheVariants.{Insert}
use Rattle.binlog_select.specs.declared.token.Token.{Token}
use Rattle.binlog_feed.specs.AtEnd.{judge_end, up_to_file}
use Rattle.binlog_units.specs.Parsing.{LogFile}
use Rattle.binlog_feed.specs.Changes.{RowChange}
use Rattle.feed_laws.specs.Apart.{changes_read_apart}
use Rattle.binlog_feed.specs.Tokens.{Judgement, judge, rest, end_after}
use Rattle.binlog_feed.specs.Tokens.Judgement.{NoFile, Fits, NoChange, Faulty, NoTransaction}
use Rattle.binlog_units.specs.declared.fault.LogFault.{LogFault}
use Rattle.binlog_units.specs.declared.what.What.{What}
use Rattle.binlog_units.specs.declared.what.What.TheVariants.{BadMagic, BadRows, RotationMismatch}
use Rattle.binlog_samples.specs.Hex.{hex}
use Rattle.binlog_samples.specs.Files.{front, named, alone, rotate_event, xid_event, fault_at}
use Rattle.binlog_samples.specs.Changes.{Brief, brief, Has, image, cells, one_row, one_more, change_at, first_change, two_updates, update_of, two_tables, of_table, rolled_back, bad_second}

abbrev pub first_name : List ℕ
first_name = codes "binlog.000001"

abbrev pub second_name : List ℕ
second_name = codes "binlog.000002"

abbrev pub third_name : List ℕ
third_name = codes "binlog.000003"

abbrev pub fourth_name : List ℕ
fourth_name = codes "binlog.000004"

abbrev pub token : ℕ → ℕ → List ℕ → Token
token position count file = record { position = position; count = count; file = file }

abbrev pub Judges : List LogFile → ℕ → ℕ → List ℕ → Judgement → Type 0
Judges files position count file judgement = judge files (token position count file) ≡ judgement

abbrev pub faulty : ℕ → ℕ → What → Judgement
faulty file position what = Faulty (record { file = file; position = position; what = what })

-- ---- one file

abbrev pub TokensOfOne : Type 0
TokensOfOne =
    Judges (alone one_row) 153 0 first_name Fits × Judges (alone one_row) 153 1 first_name Fits × Judges (alone one_row) 153 2 first_name NoChange
    × Judges (alone one_row) 154 1 first_name NoTransaction × Judges (alone one_row) 153 1 second_name NoFile

abbrev pub TokensOfNone : Type 0
TokensOfNone = Judges (alone rolled_back) 371 0 first_name Fits × Judges (alone rolled_back) 371 1 first_name NoChange

-- with a fault at 524, no unit stands above 153
abbrev pub TokensAtFault : Type 0
TokensAtFault =
    Judges (alone (bad_second xid_event)) 153 1 first_name Fits × Judges (alone (bad_second xid_event)) 152 1 first_name NoTransaction
    × Judges (alone (bad_second xid_event)) 371 1 first_name (faulty 0 524 BadRows)

-- what stands behind the changes of a file that pass
abbrev pub RestsThrough : (RowChange → Bool) → List LogFile → Token → List Brief → Type 0
RestsThrough passes files token those = map brief (rest files passes token) ≡ those

abbrev pub Rests : List LogFile → Token → List Brief → Type 0
Rests = RestsThrough (λ change. true)

abbrev pub RestsOfTwo : Type 0
RestsOfTwo =
    Rests (alone two_updates) (token 153 0 first_name) (update_of 1 ∷ update_of 2 ∷ []) × Rests (alone two_updates) (token 153 1 first_name) (update_of 2 ∷ [])
    × Rests (alone two_updates) (token 153 2 first_name) []

-- two changes of t and then one of u, of one transaction: those that don't pass have numbers, too
abbrev pub RestsOfTable : List ℕ → Token → List Brief → Type 0
RestsOfTable table = RestsThrough (of_table table) (alone two_tables)

abbrev pub second_of_t : Brief
second_of_t = change_at 1 153 2 Insert None (Some (cells 2 (codes "b")))

abbrev pub first_of_u : Brief
first_of_u = record (change_at 1 153 3 Insert None (Some (cells 9 (codes "z")))) { table = codes "u" }

abbrev pub RestsOfTables : Type 0
RestsOfTables =
    RestsOfTable (codes "t") (token 153 0 first_name) (first_change ∷ second_of_t ∷ []) × RestsOfTable (codes "t") (token 153 1 first_name) (second_of_t ∷ [])
    × RestsOfTable (codes "t") (token 153 2 first_name) []
    × RestsOfTable (codes "u") (token 153 1 first_name) (first_of_u ∷ []) × RestsOfTable (codes "u") (token 153 2 first_name) (first_of_u ∷ [])
    × RestsOfTable (codes "u") (token 153 3 first_name) [] × RestsOfTable (codes "w") (token 153 0 first_name) []

-- ---- two files

-- a file's transaction of one row, from 153 to 371, and what stands behind it
abbrev pub second_file : List ℕ → LogFile
second_file behind = named second_name (front ++ one_more 2 (image 1 (codes "a")) xid_event ++ behind)

abbrev pub third_file : LogFile
third_file = named third_name (front ++ one_more 3 (image 4 (codes "d")) xid_event)

abbrev pub first_file : LogFile
first_file = named first_name (one_row ++ rotate_event second_name)

abbrev pub two_files : List LogFile
two_files = first_file ∷ second_file [] ∷ []

abbrev pub second_change : Brief
second_change = record (change_at 2 153 1 Insert None (Some (cells 1 (codes "a")))) { file = second_name }

abbrev pub third_change : Brief
third_change = record (change_at 3 153 1 Insert None (Some (cells 4 (codes "d")))) { file = third_name }

abbrev pub TwoFiles : Type 0
TwoFiles = Has two_files (first_change ∷ second_change ∷ []) None

abbrev pub RestsOfFiles : Type 0
RestsOfFiles = Rests two_files (token 153 1 first_name) (second_change ∷ []) × Rests two_files (token 153 0 second_name) (second_change ∷ [])
    × Rests two_files (token 153 1 second_name) [] × Judges two_files 153 1 second_name Fits

-- ---- faults of two files

-- the fault behind a token
abbrev pub Ends : List LogFile → ℕ → ℕ → List ℕ → Option LogFault → Type 0
Ends files position count file end = end_after files (token position count file) ≡ end

-- the row of the second file lacks a byte
abbrev pub bad_in_second : List LogFile
bad_in_second = first_file ∷ named second_name (front ++ one_more 2 (take 6 (image 3 (codes "c"))) xid_event) ∷ []

-- only a token of the second file meets its fault, which has the number of that file
abbrev pub FaultInSecond : Type 0
FaultInSecond =
    Judges bad_in_second 153 1 second_name (faulty 1 306 BadRows) × Judges bad_in_second 999 0 second_name (faulty 1 306 BadRows)
    × Judges bad_in_second 153 1 first_name Fits × Judges bad_in_second 153 2 first_name NoChange × Judges bad_in_second 999 0 first_name NoTransaction
    × Ends bad_in_second 153 1 first_name (fault_at 1 306 BadRows) × Ends bad_in_second 153 0 second_name (fault_at 1 306 BadRows)

-- the second file's transaction is whole, and the row of the next one lacks a byte
abbrev pub bad_behind_second : List LogFile
bad_behind_second = first_file ∷ second_file (one_more 3 (take 6 (image 3 (codes "c"))) xid_event) ∷ []

abbrev pub FaultBehindSecond : Type 0
FaultBehindSecond =
    Judges bad_behind_second 153 1 second_name Fits × Judges bad_behind_second 153 2 second_name NoChange
    × Judges bad_behind_second 152 1 second_name NoTransaction × Judges bad_behind_second 371 1 second_name (faulty 1 524 BadRows)
    × Rests bad_behind_second (token 153 1 first_name) (second_change ∷ []) × Ends bad_behind_second 153 1 second_name (fault_at 1 524 BadRows)

-- a file that says to go on with another one than the next
abbrev pub rotates_past : List LogFile
rotates_past = first_file ∷ third_file ∷ []

abbrev pub FaultOfRotation : Type 0
FaultOfRotation =
    Judges rotates_past 371 0 first_name (faulty 0 371 RotationMismatch) × Judges rotates_past 153 1 first_name Fits
    × Judges rotates_past 152 0 first_name NoTransaction × Judges rotates_past 153 1 second_name NoFile
    × Rests rotates_past (token 153 0 first_name) (first_change ∷ []) × Ends rotates_past 153 1 first_name (fault_at 0 371 RotationMismatch)
    × Rests rotates_past (token 153 0 third_name) (third_change ∷ []) × Judges rotates_past 153 1 third_name Fits × Ends rotates_past 153 1 third_name None

-- the second of three does so
abbrev pub second_rotates_past : List LogFile
second_rotates_past = first_file ∷ second_file (rotate_event fourth_name) ∷ third_file ∷ []

abbrev pub RotationOfSecond : Type 0
RotationOfSecond =
    Judges second_rotates_past 371 0 second_name (faulty 1 371 RotationMismatch) × Judges second_rotates_past 371 0 first_name NoTransaction
    × Ends second_rotates_past 153 1 first_name (fault_at 1 371 RotationMismatch) × Ends second_rotates_past 153 1 second_name (fault_at 1 371 RotationMismatch)

-- an earlier file without magic has no part in what a token of the second comes to
abbrev pub bad_before : List LogFile
bad_before = named first_name (hex "fd 62 69 6e") ∷ second_file [] ∷ []

abbrev pub FaultInEarlier : Type 0
FaultInEarlier =
    Judges bad_before 153 0 second_name Fits × Judges bad_before 153 1 second_name Fits × Judges bad_before 999 0 second_name NoTransaction
    × Judges bad_before 153 1 first_name (faulty 0 0 BadMagic)
    × Rests bad_before (token 153 0 second_name) (second_change ∷ []) × Ends bad_before 153 0 second_name None × Has bad_before [] (fault_at 0 0 BadMagic)

-- ---- files that are read apart

-- what files come to, each by itself
abbrev pub ComeApartTo : List LogFile → List Brief → Option LogFault → Type 0
ComeApartTo files those end = (map brief (changes_read_apart (λ change. true) 0 files).changes ≡ those) × ((changes_read_apart (λ change. true) 0 files).end ≡ end)

-- a fault has the number of its file in the list, and ends what comes: also one of a ROTATE, by the next one's name
abbrev pub FilesApart : Type 0
FilesApart =
    ComeApartTo two_files (first_change ∷ second_change ∷ []) None × ComeApartTo bad_in_second (first_change ∷ []) (fault_at 1 306 BadRows)
    × ComeApartTo rotates_past (first_change ∷ []) (fault_at 0 371 RotationMismatch)
    × ComeApartTo second_rotates_past (first_change ∷ second_change ∷ []) (fault_at 1 371 RotationMismatch) × ComeApartTo bad_before [] (fault_at 0 0 BadMagic)

-- ---- the end of a file

abbrev pub JudgesEnd : List LogFile → ℕ → ℕ → List ℕ → Judgement → Type 0
JudgesEnd files position count file judgement = judge_end files (token position count file) ≡ judgement

-- behind the last whole transaction, which need not be the file's last event; such a token counts no change
abbrev pub EndsOfFiles : Type 0
EndsOfFiles =
    JudgesEnd (alone one_row) 371 0 first_name Fits × JudgesEnd (alone one_row) 153 0 first_name NoTransaction × JudgesEnd (alone one_row) 340 0 first_name NoTransaction
    × JudgesEnd (alone one_row) 371 1 first_name NoTransaction × JudgesEnd (alone one_row) 371 0 second_name NoFile
    × JudgesEnd rotates_past 371 0 first_name (faulty 0 371 RotationMismatch) × JudgesEnd second_rotates_past 371 0 first_name Fits
    × JudgesEnd two_files 371 0 first_name Fits × JudgesEnd two_files 371 0 second_name Fits × JudgesEnd two_files 415 0 first_name NoTransaction
    × JudgesEnd (alone (one_row ++ take 100 (one_more 2 (image 2 (codes "b")) xid_event))) 371 0 first_name Fits

-- a file without a transaction ends behind any of its events
abbrev pub EndsWithoutUnits : Type 0
EndsWithoutUnits = JudgesEnd (alone front) 153 0 first_name Fits × JudgesEnd (alone front) 0 0 first_name Fits × JudgesEnd (alone front) 152 0 first_name NoTransaction

abbrev pub UpToFile : Type 0
UpToFile = (up_to_file first_name two_files ≡ first_file ∷ []) × (up_to_file second_name two_files ≡ two_files)
