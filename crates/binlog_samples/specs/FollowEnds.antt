-- How runs that follow end: by which fault, over which files, behind which lists.
use Rattle.std.specs.Prelude.{ℕ, List, [], ◌∷◌, ◌++◌, drop, map, true, Option, Some, None, Ok, Err, codes}
use Rattle.binlog_select.specs.declared.filter.Filter.{Filter}
use Rattle.binlog_json.specs.declared.style.Style.{Style}
use Rattle.binlog_frame.specs.declared.open_fault.OpenFault.TheVariants as opening
use Rattle.binlog_units.specs.Parsing.{LogFile}
use Rattle.binlog_units.specs.declared.fault.FeedFault.TheVariants as reading
use Rattle.binlog_units.specs.declared.fault.LogFault.{LogFault}
use Rattle.binlog_feed.specs.declared.start.Start.{Start}
use Rattle.binlog_feed.specs.declared.start.Start.TheVariants.{Beginning, After}
use Rattle.binlog_units.specs.declared.what.What.TheVariants.{BadMagic, BadRows}
use Rattle.binlog_profile.specs.declared.profile.Profile.TheVariants.{Strict, Server}
use Rattle.binlogfeed.specs.Follow.{AreSupplied, EitherFailed, EndsAs, EndsLists, EndsLook, FailsAs, FollowsLooks, NamesFiles, RefusesFirst, RefusesForReading, RefusesList, RefusesNext, RefusesShorter, WritesBlanks}
use Rattle.binlogfeed.specs.Looks.{EachContinues, EndsBehindStart, Look, TellsUnbegun}
use Rattle.binlogfeed.specs.declared.fault.RunFault.TheVariants as run
use Rattle.binlogfeed.specs.declared.fault.TokenRefusal.TheVariants.{NoTransaction}
use Rattle.binlogfeed.specs.declared.follow_fault.FollowFault.TheVariants.{Input, Unopened, NotBegun, Refused, Ended}
use Rattle.binlogfeed.specs.declared.lists.ListFault.TheVariants as lists
use Rattle.binlog_samples.specs.Statuses.{two_names}
use Rattle.binlog_samples.specs.Tokens.{first_name, second_name, token, first_file, second_file, bad_in_second, bad_behind_second, bad_before}
use Rattle.binlog_samples.specs.Following.{a_path, a_names, all, look_at, cut_look, one_file, both_files, last_files, earlier_looks, back_files}
use Rattle.binlog_feed.specs.declared.fault.GoOnFault.TheVariants as going

-- ---- the newest look

abbrev pub bad_row : LogFault
bad_row = record { file = 1; position = 306; what = BadRows }

-- A run that ends well, or behind a list that isn't looked at, has met no fault in the newest files.
abbrev pub EndsWithoutFault : Type 0
EndsWithoutFault =
    EndsAs None (Ok tt) × EndsAs None (Err (Refused going.FileGone)) × EndsAs None (Err (Input lists.Unreadable)) × EndsAs None (Err (Unopened (opening.CannotOpen 0)))
    × (EndsAs (Some bad_row) (Ok tt) → ⊥) × (EndsAs (Some bad_row) (Err (Refused going.FileGone)) → ⊥) × (EndsAs (Some bad_row) (Err (Input lists.Unreadable)) → ⊥)
    × (EndsAs (Some bad_row) (Err (Unopened (opening.CannotOpen 0))) → ⊥)

-- the fault that is told is that of the files, neither another one nor one that they don't have
abbrev pub EndsWithFault : Type 0
EndsWithFault =
    EndsAs (Some bad_row) (Err (Ended (run.Log bad_row))) × (EndsAs (Some bad_row) (Err (Ended (run.Log (record bad_row { position = 307 })))) → ⊥)
    × (EndsAs None (Err (Ended (run.Log bad_row))) → ⊥)

-- A look that began ends neither by the names of its files nor by a token, and a device or want of memory says nothing of the files.
abbrev pub EndsByDevice : Type 0
EndsByDevice =
    (end : Option LogFault) → (EndsAs end (Err (Ended (run.DuplicateFile 1))) → ⊥) × (EndsAs end (Err (Ended (run.Token NoTransaction))) → ⊥)
    × EndsAs end (Err (Ended run.Write)) × EndsAs end (Err (Ended (run.Read 0))) × EndsAs end (Err (Ended run.OutOfMemory))

-- a fault that stands in an earlier file, or in front of the start in its file, is in front of it, and one behind it isn't
abbrev pub FaultsAtStarts : Type 0
FaultsAtStarts =
    EndsBehindStart all (After (token 153 1 first_name)) (look_at bad_in_second)
    × (EndsBehindStart all (After (token 153 0 second_name)) (look_at bad_before) → ⊥)
    × (EndsBehindStart all (After (token 152 1 second_name)) (look_at bad_behind_second) → ⊥)

-- A first look ends as what stands behind its start does, whatever stands in front.
abbrev pub FirstLookEnds : Type 0
FirstLookEnds =
    EndsLook all (After (token 153 0 second_name)) (look_at bad_before) [] (Ok tt)
    × ((fault : LogFault) → EndsLook all (After (token 153 0 second_name)) (look_at bad_before) [] (Err (Ended (run.Log fault))) → ⊥)
    × (EndsLook all Beginning (look_at bad_before) [] (Ok tt) → ⊥)

-- ---- what faults name

-- An earlier fault names a file by the names before, all others by those of the list: here one before and two in the list, or the reverse.
abbrev pub FilesNamed : Type 0
FilesNamed =
    NamesFiles (first_name ∷ []) two_names (going.Earlier (reading.Read 0)) × (NamesFiles (first_name ∷ []) two_names (going.Earlier (reading.Read 1)) → ⊥)
    × (NamesFiles (first_name ∷ []) two_names (going.Earlier (reading.Log bad_row)) → ⊥) × NamesFiles two_names (first_name ∷ []) (going.Earlier (reading.Log bad_row))
    × NamesFiles (first_name ∷ []) two_names (going.Later (reading.Read 1)) × (NamesFiles (first_name ∷ []) two_names (going.Later (reading.Read 2)) → ⊥)
    × NamesFiles (first_name ∷ []) two_names (going.Later (reading.Log bad_row)) × (NamesFiles two_names (first_name ∷ []) (going.Later (reading.Log bad_row)) → ⊥)
    × NamesFiles (first_name ∷ []) two_names (going.DuplicateFile 1) × (NamesFiles (first_name ∷ []) two_names (going.DuplicateFile 2) → ⊥)
    × (NamesFiles two_names (first_name ∷ []) (going.DuplicateFile 1) → ⊥)

-- An earlier read fault has the first two counts rise, a later one the last two: here only one of these does. Others need no count to rise.
abbrev pub FailuresOfEither : Type 0
FailuresOfEither =
    EitherFailed 0 1 0 0 (going.Earlier (reading.Read 0)) × (EitherFailed 0 0 0 1 (going.Earlier (reading.Read 0)) → ⊥)
    × EitherFailed 0 0 0 1 (going.Later (reading.Read 0)) × (EitherFailed 0 1 0 0 (going.Later (reading.Read 0)) → ⊥)
    × EitherFailed 0 0 0 0 (going.Earlier (reading.Log bad_row)) × EitherFailed 0 0 0 0 (going.Later reading.OutOfMemory) × EitherFailed 0 0 0 0 going.FileGone

-- over one file, with a read that failed there
abbrev pub failed_look : Look
failed_look = record (look_at one_file) { failures = 1 }

-- over both, with one that failed there
abbrev pub failed_in_both : Look
failed_in_both = record (look_at both_files) { failures = 1 }

-- A refused list is the newest one: a later fault is one of its files and reads, of the file with the name of the last one of the look before
-- it, and an earlier one of those of that look.
abbrev pub FailuresOfRefusals : Type 0
FailuresOfRefusals =
    FailsAs (Err (Refused (going.Later (reading.Read 0)))) (failed_in_both ∷ look_at one_file ∷ [])
    × (FailsAs (Err (Refused (going.Later (reading.Read 1)))) (failed_in_both ∷ look_at one_file ∷ []) → ⊥)
    × (FailsAs (Err (Refused (going.Earlier (reading.Read 0)))) (failed_look ∷ look_at both_files ∷ []) → ⊥)
    × FailsAs (Err (Refused (going.Earlier (reading.Read 0)))) (look_at both_files ∷ failed_look ∷ [])
    × (FailsAs (Err (Refused (going.Later (reading.Read 0)))) (look_at both_files ∷ failed_look ∷ []) → ⊥)
    × (FailsAs (Err (Refused (going.Later (reading.Read 1)))) (failed_look ∷ look_at both_files ∷ []) → ⊥)

-- ---- the beginning

-- a run that didn't begin names a file of its first list, and the device only where a read of that list failed
abbrev pub FailuresOfBeginnings : Type 0
FailuresOfBeginnings =
    FailsAs (Err (NotBegun (run.Read 0))) (failed_look ∷ []) × (FailsAs (Err (NotBegun (run.Read 1))) (failed_look ∷ []) → ⊥)
    × (FailsAs (Err (NotBegun (run.Read 0))) (look_at one_file ∷ []) → ⊥) × (FailsAs (Err (NotBegun (run.DuplicateFile 1))) (look_at one_file ∷ []) → ⊥)
    × FailsAs (Err (NotBegun (run.DuplicateFile 1))) (look_at both_files ∷ [])

-- it names the second file that has a name, and by a failed read the token's file
abbrev pub NamesOfBeginnings : Type 0
NamesOfBeginnings =
    TellsUnbegun (first_name ∷ first_name ∷ []) (look_at both_files).contents Beginning (run.DuplicateFile 1)
    × (TellsUnbegun (first_name ∷ first_name ∷ []) (look_at both_files).contents Beginning (run.DuplicateFile 0) → ⊥)
    × (TellsUnbegun (look_at both_files).names (look_at both_files).contents Beginning (run.DuplicateFile 1) → ⊥)
    × TellsUnbegun (look_at both_files).names (look_at both_files).contents (After (token 153 0 first_name)) (run.Read 0)
    × (TellsUnbegun (look_at both_files).names (look_at both_files).contents (After (token 153 0 first_name)) (run.Read 1) → ⊥)

-- It has made one look: never none, and none behind which another stands. It has written the blanks, and nothing else.
abbrev pub LooksNotBegun : Type 0
LooksNotBegun =
    (style : Style) (chosen : Filter) (start : Start)
    → FollowsLooks style chosen start 1 (Some (97 ∷ [])) (Some (97 ∷ 10 ∷ [])) (Err (NotBegun run.OutOfMemory)) (look_at one_file ∷ [])
    × (FollowsLooks style chosen start 1 (Some (97 ∷ [])) (Some (97 ∷ [])) (Err (NotBegun run.OutOfMemory)) (look_at one_file ∷ []) → ⊥)
    × (FollowsLooks style chosen start 1 (Some (97 ∷ [])) (Some (97 ∷ 10 ∷ [])) (Err (NotBegun run.OutOfMemory)) [] → ⊥)
    × (FollowsLooks style chosen start 1 (Some (97 ∷ [])) (Some (97 ∷ 10 ∷ [])) (Err (NotBegun run.OutOfMemory)) earlier_looks → ⊥)

-- A token at which no transaction stands is refused, unless it is that of the end of its file. Want of memory refuses any start.
abbrev pub FirstRefused : Type 0
FirstRefused =
    RefusesFirst (look_at one_file) (After (token 370 0 first_name)) (run.Token NoTransaction)
    × (RefusesFirst (look_at one_file) (After (token 371 0 first_name)) (run.Token NoTransaction) → ⊥)
    × (RefusesFirst (look_at one_file) (After (token 153 0 first_name)) (run.Token NoTransaction) → ⊥)
    × RefusesFirst (look_at one_file) (After (token 153 0 first_name)) run.OutOfMemory

-- Two blanks. Where an empty line failed, it is the last one: it may be missing, but not the one before it.
abbrev pub BlanksWritten : Type 0
BlanksWritten =
    WritesBlanks (Some (97 ∷ [])) (Some (97 ∷ 10 ∷ 10 ∷ [])) 2 (Ok tt) × (WritesBlanks (Some (97 ∷ [])) (Some (97 ∷ 10 ∷ [])) 2 (Ok tt) → ⊥)
    × WritesBlanks (Some (97 ∷ [])) (Some (97 ∷ 10 ∷ [])) 2 (Err (Ended run.Write)) × WritesBlanks (Some (97 ∷ [])) (Some (97 ∷ 10 ∷ 10 ∷ [])) 2 (Err (Ended run.Write))
    × (WritesBlanks (Some (97 ∷ [])) (Some (97 ∷ [])) 2 (Err (Ended run.Write)) → ⊥) × (WritesBlanks (Some (97 ∷ [])) (Some (97 ∷ [])) 0 (Err (Ended run.Write)) → ⊥)

-- ---- refused lists

-- files under names, without any byte
abbrev pub look_by : List (List ℕ) → Look
look_by names = record { names = names; contents = record { profile = Strict; files = [] }; honest = true; failures = 0 }

-- A file is gone where none of the list has the name of the newest look's last one. Of two files of the list with one name the second is
-- told. A file is out of order where it stands behind that last one as the first that an earlier look had. That a change is still to come is
-- never told.
abbrev pub ListsRefused : Type 0
ListsRefused =
    RefusesList (look_by two_names) [] (look_by (first_name ∷ [])) going.FileGone × (RefusesList (look_by two_names) [] (look_by (second_name ∷ [])) going.FileGone → ⊥)
    × (RefusesList (look_by two_names) [] (look_by two_names) going.FileGone → ⊥)
    × RefusesList (look_by two_names) [] (look_by (first_name ∷ first_name ∷ [])) (going.DuplicateFile 1)
    × (RefusesList (look_by two_names) [] (look_by (first_name ∷ first_name ∷ [])) (going.DuplicateFile 0) → ⊥)
    × (RefusesList (look_by (first_name ∷ first_name ∷ [])) [] (look_by two_names) (going.DuplicateFile 1) → ⊥)
    × RefusesList (look_by (second_name ∷ [])) (look_by two_names ∷ []) (look_by (second_name ∷ first_name ∷ [])) (going.OutOfOrder 1)
    × (RefusesList (look_by (second_name ∷ [])) [] (look_by (second_name ∷ first_name ∷ [])) (going.OutOfOrder 1) → ⊥)
    × (RefusesList (look_by (second_name ∷ [])) (look_by two_names ∷ []) (look_by (first_name ∷ second_name ∷ [])) (going.OutOfOrder 0) → ⊥)
    × (RefusesList (look_by (second_name ∷ [])) (look_by two_names ∷ []) (look_by (second_name ∷ first_name ∷ first_name ∷ [])) (going.OutOfOrder 2) → ⊥)
    × (RefusesList (look_by two_names) [] (look_by two_names) going.NotAtEnd → ⊥)

-- Each look continues the one before it, also where newer ones stand in front of the two. None does in which a file comes back.
abbrev pub LooksContinue : Type 0
LooksContinue =
    EachContinues (look_at last_files) earlier_looks × (EachContinues (cut_look 370) (look_at one_file ∷ []) → ⊥)
    × (EachContinues (cut_look 370) (cut_look 370 ∷ look_at one_file ∷ []) → ⊥)
    × (EachContinues (look_at back_files) (look_at (second_file [] ∷ []) ∷ look_at both_files ∷ []) → ⊥)

-- a look at the first file with another first byte, and its fault
abbrev pub changed_look : Look
changed_look = look_at (record first_file { bytes = 0xfd ∷ drop 1 first_file.bytes } ∷ [])

abbrev pub bad_magic : LogFault
bad_magic = record { file = 0; position = 0; what = BadMagic }

-- A file is shorter where it ends before the end of the last transaction that was there. Its fault is told where it isn't shorter, and has
-- one at its beginning. The files of the look have no fault of their own. So it is behind a first look with a fault in front of its start.
abbrev pub RefusedAsShorter : Type 0
RefusedAsShorter =
    (chosen : Filter)
    → RefusesShorter chosen Beginning (look_at one_file) [] (cut_look 370) going.FileShorter
    × (RefusesShorter chosen Beginning (look_at one_file) [] (cut_look 371) going.FileShorter → ⊥)
    × (RefusesShorter chosen Beginning (look_at one_file) [] (look_at both_files) going.FileShorter → ⊥)
    × (RefusesShorter chosen Beginning (look_at one_file) [] changed_look going.FileShorter → ⊥)
    × RefusesShorter chosen Beginning (look_at one_file) [] changed_look (going.Later (reading.Log bad_magic))
    × (RefusesShorter chosen Beginning (look_at one_file) [] (look_at both_files) (going.Later (reading.Log bad_magic)) → ⊥)
    × (RefusesShorter chosen Beginning (look_at one_file) [] (look_at both_files) (going.Earlier (reading.Log bad_magic)) → ⊥)
    × (RefusesShorter chosen (After (token 153 0 second_name)) (look_at bad_before) [] (look_at bad_before) going.FileShorter → ⊥)

-- Over files that continue those of the look no file is gone or shorter, and no fault of theirs is told. Where they don't, nothing is said.
abbrev pub RefusedForReading : Type 0
RefusedForReading =
    (chosen : Filter)
    → RefusesForReading chosen Beginning (look_at one_file) [] (look_at both_files) (going.Later (reading.Read 0))
    × RefusesForReading chosen Beginning (look_at one_file) [] (look_at both_files) (going.Earlier reading.OutOfMemory)
    × (RefusesForReading chosen Beginning (look_at one_file) [] (look_at both_files) going.FileGone → ⊥)
    × (RefusesForReading chosen Beginning (look_at one_file) [] (look_at both_files) going.FileShorter → ⊥)
    × (RefusesForReading chosen Beginning (look_at one_file) [] (look_at both_files) (going.Later (reading.Log bad_magic)) → ⊥)
    × RefusesForReading chosen Beginning (look_at one_file) [] (cut_look 370) going.FileShorter

-- ---- lists

-- a path without a file's name
abbrev pub bare_path : List ℕ
bare_path = codes "/"

-- the first list has been looked at, and the second path of the second one is refused
abbrev pub NextIsRefused : Type 0
NextIsRefused = RefusesNext [] (codes "d/a" ++ 10 ∷ 10 ∷ codes "b" ++ 10 ∷ codes "/" ++ 10 ∷ 10 ∷ []) 0 (a_names ∷ []) (opening.BadName 1)

-- a path of a list that was looked at isn't: no list stands behind it
abbrev pub LookedAtIsNotRefused : Type 0
LookedAtIsNotRefused =
    RefusesNext [] (codes "/" ++ 10 ∷ 10 ∷ []) 0 [] (opening.BadName 0) × (RefusesNext [] (codes "/" ++ 10 ∷ 10 ∷ []) 0 (([] ∷ []) ∷ []) (opening.BadName 0) → ⊥)

-- A run that ends well has looked at all lists, and what stands behind them is none.
abbrev pub AllListsLookedAt : Type 0
AllListsLookedAt =
    EndsLists [] [] 0 [] (Ok tt) × EndsLists [] (10 ∷ []) 1 [] (Ok tt) × EndsLists (a_path ∷ []) [] 0 (a_names ∷ []) (Ok tt)
    × EndsLists [] (codes "d/a" ++ 10 ∷ 10 ∷ 10 ∷ codes "b" ++ 10 ∷ []) 0 (a_names ∷ a_names ∷ []) (Ok tt)

-- it has not ended so where a list more stands there: an empty one, or one of a path
abbrev pub ListLeft : Type 0
ListLeft =
    (EndsLists (a_path ∷ []) (10 ∷ []) 0 (a_names ∷ []) (Ok tt) → ⊥) × (EndsLists [] (98 ∷ 10 ∷ 10 ∷ []) 0 [] (Ok tt) → ⊥)

-- ---- what looks are supposed to hold

abbrev pub held : List LogFile → List (List ℕ)
held files = map LogFile.bytes files

-- the oldest look comes first
abbrev pub LooksSupplied : Type 0
LooksSupplied =
    AreSupplied Strict (held one_file ∷ held both_files ∷ held last_files ∷ []) (look_at last_files ∷ earlier_looks)
    × (AreSupplied Strict (held both_files ∷ held one_file ∷ held last_files ∷ []) (look_at last_files ∷ earlier_looks) → ⊥)
    × (AreSupplied Strict (held one_file ∷ held last_files ∷ []) earlier_looks → ⊥) × (AreSupplied Server (held one_file ∷ []) (look_at one_file ∷ []) → ⊥)
