-- Runs that follow: the lists on their input, the looks that these ask for, what looks give and write, and how such runs end.
use Rattle.std.specs.Prelude.{◌≡◌, ℕ, List, [], ◌∷◌, ◌++◌, drop, take, map, Bool, true, false, Some, None, Ok, Err, codes}
use Rattle.binlog_frame.specs.declared.open_fault.OpenFault.TheVariants as opening
use Rattle.binlog_select.specs.declared.filter.Filter.{Filter}
use Rattle.clap.specs.Words.{Text}
use Rattle.binlog_json.specs.declared.style.Style.{Style}
use Rattle.binlog_feed.specs.Changes.{RowChange}
use Rattle.binlog_feed.specs.ChangeMachine.{RemainingChanges}
use Rattle.binlog_feed.specs.Feeds.{feed}
use Rattle.binlog_units.specs.Parsing.{LogFile}
use Rattle.binlog_units.specs.declared.fault.FeedFault.TheVariants as reading
use Rattle.binlog_feed.specs.declared.start.Start.TheVariants.{Beginning, After}
use Rattle.binlogfeed.specs.Follow.{EachKeepsLast, FailsAs, ReadsLists, WroteEach, WritesText, looks_made, blank_text, follow_status_of, input_text, list_status_of, refusal_status_of, list_refusal_text}
use Rattle.binlogfeed.specs.Lists.{BeginsWithList, HasNoList, list_text}
use Rattle.binlogfeed.specs.Looks.{AllHonest, AreParts, BeginsFollowing, EndsBehindStart, HasLast, HasLastSince, Look, first_look, gone_by, joined_parts, looks_text}
use Rattle.binlogfeed.specs.Turns.{Turns, lists_text}
use Rattle.binlogfeed.specs.declared.fault.RunFault.TheVariants as run
use Rattle.binlogfeed.specs.declared.fault.TokenRefusal.TheVariants as refusals
use Rattle.binlogfeed.specs.declared.follow_fault.FollowFault.TheVariants.{Input, Unopened, NotBegun, Refused, Ended}
use Rattle.binlogfeed.specs.declared.lists.ListFault.TheVariants as lists
use Rattle.binlog_samples.specs.Changes.{brief, first_change}
use Rattle.binlog_samples.specs.Statuses.{two_names, second_is_bad}
use Rattle.binlog_samples.specs.Tokens.{first_name, second_name, third_name, token, first_file, second_file, third_file, second_change, third_change}
use Rattle.binlog_profile.specs.declared.profile.Profile.TheVariants.{Strict}
use Rattle.binlog_feed.specs.declared.fault.GoOnFault.TheVariants as going

-- ---- lists

abbrev pub a_path : List ℕ
a_path = codes "d/a"

abbrev pub b_path : List ℕ
b_path = codes "b"

-- a line for each path, and an empty one
abbrev pub ListTexts : Type 0
ListTexts =
    (list_text [] ≡ 10 ∷ []) × (list_text (a_path ∷ b_path ∷ []) ≡ codes "d/a" ++ 10 ∷ codes "b" ++ 10 ∷ 10 ∷ [])
    × (lists_text ((b_path ∷ []) ∷ [] ∷ (a_path ∷ []) ∷ []) ≡ codes "d/a" ++ 10 ∷ 10 ∷ 10 ∷ codes "b" ++ 10 ∷ 10 ∷ [])

-- what stands behind a list is of the next one
abbrev pub ListsBegin : Type 0
ListsBegin =
    BeginsWithList (codes "d/a" ++ 10 ∷ codes "b" ++ 10 ∷ 10 ∷ codes "c") (a_path ∷ b_path ∷ []) (codes "c") × BeginsWithList (10 ∷ 10 ∷ []) [] (10 ∷ [])

-- an empty line is no path, nor are two lines
abbrev pub NoLists : Type 0
NoLists =
    (BeginsWithList (10 ∷ 10 ∷ []) ([] ∷ []) [] → ⊥) × (BeginsWithList (97 ∷ 10 ∷ 98 ∷ 10 ∷ 10 ∷ []) ((97 ∷ 10 ∷ 98 ∷ []) ∷ []) [] → ⊥)

-- a list without its empty line is none, be its last line cut or not
abbrev pub CutLists : Type 0
CutLists = HasNoList [] × HasNoList (codes "d/a") × HasNoList (codes "d/a" ++ 10 ∷ codes "b") × HasNoList (codes "d/a" ++ 10 ∷ [])

-- ---- which lists are looked at

abbrev pub a_names : List (List ℕ)
a_names = codes "a" ∷ []

abbrev pub b_names : List (List ℕ)
b_names = codes "b" ∷ []

-- before a file is named an empty list asks for nothing; then for the files of the list before it
abbrev pub TurnsOfLists : Type 0
TurnsOfLists =
    Turns [] ([] ∷ [] ∷ []) 2 [] [] × Turns [] ([] ∷ (b_path ∷ []) ∷ [] ∷ (a_path ∷ []) ∷ [] ∷ []) 1 (b_path ∷ []) (b_names ∷ b_names ∷ a_names ∷ a_names ∷ [])

-- the files of the command line are looked at before any list
abbrev pub TurnsOfFiles : Type 0
TurnsOfFiles = Turns (a_path ∷ []) [] 0 (a_path ∷ []) (a_names ∷ []) × Turns (a_path ∷ []) ([] ∷ []) 0 (a_path ∷ []) (a_names ∷ a_names ∷ [])

-- Two lists that stand one behind the other are not one list of a path that has an empty line in it.
abbrev pub TwoListsAreNotOne : Type 0
TwoListsAreNotOne =
    (bytes left : List ℕ) (paths : List Text) (looks : List (List (List ℕ))) (lists : ReadsLists [] bytes left 0 paths looks)
    → lists.lists ≡ ((97 ∷ 10 ∷ 10 ∷ 98 ∷ []) ∷ []) ∷ [] → ⊥

-- ---- what looks give

abbrev pub look_at : List LogFile → Look
look_at files = record { names = map LogFile.name files; contents = record { profile = Strict; files = map LogFile.bytes files }; honest = true; failures = 0 }

-- a look at the first bytes of the first file
abbrev pub cut_look : ℕ → Look
cut_look count = look_at (record first_file { bytes = take count first_file.bytes } ∷ [])

abbrev pub all : RowChange → Bool
all change = true

abbrev pub one_file : List LogFile
one_file = first_file ∷ []

abbrev pub both_files : List LogFile
both_files = first_file ∷ second_file [] ∷ []

abbrev pub last_files : List LogFile
last_files = second_file [] ∷ third_file ∷ []

abbrev pub back_files : List LogFile
back_files = second_file [] ∷ first_file ∷ []

abbrev pub earlier_looks : List Look
earlier_looks = look_at both_files ∷ look_at one_file ∷ []

abbrev pub given : List LogFile → List RowChange
given files = feed files all

-- a look at a file, one at it and a second one, and one at the second and a third
abbrev pub PartsOfLooks : Type 0
PartsOfLooks =
    AreParts all Beginning (given one_file) (look_at last_files) earlier_looks (drop 1 (given last_files) ∷ drop 1 (given both_files) ∷ given one_file ∷ [])
    × (map brief (given one_file) ≡ first_change ∷ []) × (map brief (drop 1 (given both_files)) ≡ second_change ∷ []) × (map brief (drop 1 (given last_files)) ≡ third_change ∷ [])

abbrev pub nothing_to_come : RemainingChanges
nothing_to_come = record { changes = []; end = None }

-- a run may begin behind the last whole transaction of a file, which no change's token names
abbrev pub BeginsAtEnd : Type 0
BeginsAtEnd = BeginsFollowing one_file all (After (token 371 0 first_name)) nothing_to_come

-- the changes of the file that is gone are those of its look
abbrev pub GoneFiles : Type 0
GoneFiles =
    (map brief (gone_by all (look_at last_files) earlier_looks) ≡ first_change ∷ []) × (gone_by all (look_at both_files) (look_at one_file ∷ []) ≡ [])
    × (first_look (look_at last_files) earlier_looks ≡ look_at one_file)

-- the oldest part comes first
abbrev pub JoinedParts : Type 0
JoinedParts =
    map brief (joined_parts (drop 1 (given last_files) ∷ drop 1 (given both_files) ∷ given one_file ∷ [])) ≡ first_change ∷ second_change ∷ third_change ∷ []

-- each look has an empty line, and so has each empty list before any file
abbrev pub EmptyLooks : Type 0
EmptyLooks = ((style : Style) → looks_text style ([] ∷ [] ∷ []) ≡ 10 ∷ 10 ∷ []) × (blank_text 0 ≡ []) × (blank_text 2 ≡ 10 ∷ 10 ∷ [])

-- a look that isn't there any more has left its text: an empty line at least
abbrev pub LooksAreWritten : Type 0
LooksAreWritten =
    (style : Style) (chosen : Filter) → WroteEach style chosen Beginning 0 (look_at one_file ∷ []) (Some []) (Some []) → ⊥

-- ---- the last file of a look

-- it may be any file of the next list, and has to be one; none of the look's files stands behind it
abbrev pub LastFilesStay : Type 0
LastFilesStay =
    HasLast two_names (third_name ∷ second_name ∷ []) × (HasLast two_names (first_name ∷ []) → ⊥)
    × (HasLast two_names (second_name ∷ first_name ∷ []) → ⊥)
    × ((style : Style) (chosen : Filter) → EachKeepsLast style chosen Beginning 0 (Some []) (Some []) (Some (Ok tt)) (look_at (third_file ∷ []) ∷ look_at one_file ∷ []) → ⊥)

-- A file that is gone may come back in front of that one, and not behind it.
abbrev pub FilesComeBack : Type 0
FilesComeBack =
    HasLastSince (second_name ∷ []) (look_at both_files ∷ []) (first_name ∷ second_name ∷ [])
    × (HasLastSince (second_name ∷ []) (look_at both_files ∷ []) (second_name ∷ first_name ∷ []) → ⊥)
    × ((style : Style) (chosen : Filter) → EachKeepsLast style chosen Beginning 0 (Some []) (Some []) (Some (Ok tt)) (look_at back_files ∷ look_at (second_file [] ∷ []) ∷ look_at both_files ∷ []) → ⊥)

-- Looks at files that are honest, and a start behind which their faults stand: so the promises of looks aren't empty.
abbrev pub LooksAreHonest : Type 0
LooksAreHonest =
    AllHonest (look_at last_files ∷ earlier_looks) × (AllHonest (record (look_at one_file) { honest = false } ∷ []) → ⊥)
    × EndsBehindStart all (After (token 371 0 first_name)) (look_at one_file)

-- a list that was refused is no look that was made, and neither is a first one that didn't begin
abbrev pub MadeLooks : Type 0
MadeLooks =
    (looks_made (Err (Refused going.FileGone)) (look_at last_files ∷ earlier_looks) ≡ earlier_looks) × (looks_made (Ok tt) earlier_looks ≡ earlier_looks)
    × (looks_made (Err (Ended run.Write)) earlier_looks ≡ earlier_looks) × (looks_made (Err (NotBegun run.OutOfMemory)) (look_at one_file ∷ []) ≡ [])

-- ---- how runs end

abbrev pub TextsOfRefusals : Type 0
TextsOfRefusals =
    (list_refusal_text two_names (first_name ∷ []) going.FileGone ≡ codes "binlogfeed: file gone: binlog.000002")
    × (list_refusal_text two_names two_names going.FileShorter ≡ codes "binlogfeed: file shorter: binlog.000002")
    × (list_refusal_text (first_name ∷ []) two_names (going.DuplicateFile 1) ≡ codes "binlogfeed: duplicate file binlog.000002")
    × (list_refusal_text two_names (second_name ∷ first_name ∷ []) (going.OutOfOrder 1) ≡ codes "binlogfeed: file out of order: binlog.000001")
    × (list_refusal_text two_names (third_name ∷ []) (going.Earlier (reading.Read 0)) ≡ codes "binlogfeed: read fault: binlog.000001")
    × (list_refusal_text two_names (third_name ∷ []) (going.Later (reading.Read 0)) ≡ codes "binlogfeed: read fault: binlog.000003")
    × (list_refusal_text two_names two_names (going.Later (reading.WindowTooSmall 99)) ≡ codes "binlogfeed: out of memory")
    × (input_text lists.Unreadable ≡ codes "binlogfeed: cannot read the list of files") × (input_text lists.OutOfMemory ≡ codes "binlogfeed: out of memory")

abbrev pub StatusesOfRefusals : Type 0
StatusesOfRefusals =
    (refusal_status_of (going.DuplicateFile 1) ≡ 2) × (refusal_status_of (going.OutOfOrder 1) ≡ 2) × (refusal_status_of going.FileGone ≡ 3) × (refusal_status_of going.FileShorter ≡ 3)
    × (refusal_status_of (going.Earlier (reading.Read 0)) ≡ 4) × (refusal_status_of (going.Later (reading.Read 0)) ≡ 4)
    × (refusal_status_of (going.Later reading.OutOfMemory) ≡ 5) × (refusal_status_of (going.Earlier (reading.WindowTooSmall 99)) ≡ 5)
    × (list_status_of lists.Unreadable ≡ 4) × (list_status_of lists.OutOfMemory ≡ 5)

abbrev pub StatusesOfEnds : Type 0
StatusesOfEnds =
    (follow_status_of (Ok tt) ≡ 0) × (follow_status_of (Err (Input lists.Unreadable)) ≡ 4) × (follow_status_of (Err (Unopened (opening.CannotOpen 0))) ≡ 4)
    × (follow_status_of (Err (Unopened opening.OutOfMemory)) ≡ 5) × (follow_status_of (Err (NotBegun (run.DuplicateFile 1))) ≡ 2)
    × (follow_status_of (Err (Refused going.FileGone)) ≡ 3) × (follow_status_of (Err (Ended second_is_bad)) ≡ 1) × (follow_status_of (Err (Ended run.Write)) ≡ 4)

-- A fault of the files takes the newest look's empty line away, a device leaves a beginning of that look behind all that stands in front, and
-- a list that is refused adds nothing.
abbrev pub TextsOfEnds : Type 0
TextsOfEnds =
    WritesText (Some (97 ∷ [])) (Some (97 ∷ 98 ∷ 10 ∷ [])) [] (98 ∷ 10 ∷ []) (Ok tt)
    × WritesText (Some (97 ∷ [])) (Some (97 ∷ 98 ∷ 10 ∷ [])) (98 ∷ []) (10 ∷ []) (Err (Refused going.FileGone))
    × WritesText (Some (97 ∷ [])) (Some (97 ∷ 98 ∷ [])) [] (98 ∷ 10 ∷ []) (Err (Ended second_is_bad))
    × WritesText (Some (97 ∷ [])) (Some (97 ∷ 98 ∷ 10 ∷ 99 ∷ [])) (98 ∷ 10 ∷ []) (99 ∷ 100 ∷ 10 ∷ []) (Err (Ended run.Write))
    × (WritesText (Some (97 ∷ [])) (Some (97 ∷ 98 ∷ [])) (98 ∷ 10 ∷ []) (99 ∷ 10 ∷ []) (Err (Ended run.Write)) → ⊥)

-- The device is named only where a read failed, and by a file of the list, and without a look only the output. A look that began isn't
-- refused.
abbrev pub FailuresOfEnds : Type 0
FailuresOfEnds =
    (FailsAs (Err (Ended (run.Read 1))) (record (look_at one_file) { failures = 1 } ∷ []) → ⊥)
    × (FailsAs (Err (Ended (run.Read 0))) (look_at one_file ∷ []) → ⊥) × FailsAs (Err (Ended (run.Read 0))) (record (look_at one_file) { failures = 1 } ∷ [])
    × (FailsAs (Err (Ended (run.Read 0))) [] → ⊥) × FailsAs (Err (Ended run.Write)) []
    × (FailsAs (Err (Ended (run.DuplicateFile 1))) (look_at both_files ∷ []) → ⊥) × (FailsAs (Err (Ended (run.Token refusals.NoFile))) (look_at one_file ∷ []) → ⊥)
