-- The program's lines on standard error, and its statuses.
use Rattle.std.specs.Prelude.{◌≡◌, ℕ, List, [], ◌∷◌, ◌++◌, None, Ok, Err, String, string_bytes, codes}
use Rattle.std.specs.declared.alloc.Global.{Global}
use Rattle.binlog_frame.specs.declared.open_fault.OpenFault.TheVariants as opening
use Rattle.binlog_units.specs.declared.fault.OpenFeedFault.TheVariants as open_feed
use Rattle.binlog_units.specs.declared.unit.UnitEnding.TheVariants.{Xid, Commit, Rollback, Statement}
use Rattle.binlog_units.specs.declared.what.What.TheVariants.{BadMagic, NoFormat, BadFormat, ChecksumUnknown, BadLength, EventAfterEnd, KindOutOfProfile, BadBody, Xa, RollbackTo, OutOfPlace, RotationMismatch, BadMap, TypeOutOfProfile, NoColumnNames, BadRows, UnmappedTable, SourceChanged}
use Rattle.binlogfeed.specs.Faults.{what_text, fault_text, fault_of_opening}
use Rattle.binlogfeed.specs.Lines.{ending_text}
use Rattle.binlogfeed.specs.Statuses.{run_status_of, open_status_of}
use Rattle.binlogfeed.specs.Words.{words_status_of, words_text}
use Rattle.binlogfeed.specs.declared.fault.RunFault.{RunFault}
use Rattle.binlogfeed.specs.declared.fault.RunFault.TheVariants as run
use Rattle.binlogfeed.specs.declared.fault.TokenRefusal.TheVariants.{NoFile, NoTransaction, NoChange}
use Rattle.binlogfeed.specs.declared.words_fault.WordsFault.TheVariants as words

-- ---- texts

-- those with a number have it in round brackets
abbrev pub Whats : Type 0
Whats =
    (what_text BadMagic ≡ codes "BadMagic") × (what_text NoFormat ≡ codes "NoFormat") × (what_text BadFormat ≡ codes "BadFormat")
    × (what_text ChecksumUnknown ≡ codes "ChecksumUnknown") × (what_text BadLength ≡ codes "BadLength") × (what_text EventAfterEnd ≡ codes "EventAfterEnd")
    × (what_text (KindOutOfProfile 40) ≡ codes "KindOutOfProfile(40)") × (what_text BadBody ≡ codes "BadBody") × (what_text Xa ≡ codes "Xa")

abbrev pub FurtherWhats : Type 0
FurtherWhats =
    (what_text RollbackTo ≡ codes "RollbackTo") × (what_text (OutOfPlace 16) ≡ codes "OutOfPlace(16)") × (what_text RotationMismatch ≡ codes "RotationMismatch")
    × (what_text BadMap ≡ codes "BadMap") × (what_text (TypeOutOfProfile 255) ≡ codes "TypeOutOfProfile(255)") × (what_text NoColumnNames ≡ codes "NoColumnNames")
    × (what_text BadRows ≡ codes "BadRows") × (what_text UnmappedTable ≡ codes "UnmappedTable") × (what_text SourceChanged ≡ codes "SourceChanged")

abbrev pub two_names : List (List ℕ)
two_names = codes "binlog.000001" ∷ codes "binlog.000002" ∷ []

abbrev pub second_is_bad : RunFault
second_is_bad = run.Log (record { file = 1; position = 524; what = BadRows })

-- a file goes by its name
abbrev pub RunTexts : Type 0
RunTexts =
    (fault_text two_names second_is_bad ≡ codes "binlogfeed: log fault at binlog.000002:524: BadRows")
    × (fault_text two_names (run.Log (record { file = 0; position = 0; what = BadMagic })) ≡ codes "binlogfeed: log fault at binlog.000001:0: BadMagic")
    × (fault_text two_names (run.DuplicateFile 1) ≡ codes "binlogfeed: duplicate file binlog.000002")
    × (fault_text two_names (run.Read 1) ≡ codes "binlogfeed: read fault: binlog.000002")
    × (fault_text two_names run.Write ≡ codes "binlogfeed: write fault") × (fault_text two_names run.OutOfMemory ≡ codes "binlogfeed: out of memory")
    × (fault_text two_names (run.Token NoFile) ≡ codes "binlogfeed: token refused: TokenNoFile")
    × (fault_text two_names (run.Token NoTransaction) ≡ codes "binlogfeed: token refused: TokenNoTransaction")
    × (fault_text two_names (run.Token NoChange) ≡ codes "binlogfeed: token refused: TokenNoChange")

-- what keeps a feed from opening ends the run under the same name
abbrev pub OpenFaults : Type 0
OpenFaults =
    (fault_of_opening (open_feed.DuplicateFile 1) ≡ run.DuplicateFile 1) × (fault_of_opening open_feed.TokenNoFile ≡ run.Token NoFile)
    × (fault_of_opening open_feed.TokenNoTransaction ≡ run.Token NoTransaction) × (fault_of_opening open_feed.TokenNoChange ≡ run.Token NoChange)
    × (fault_of_opening (open_feed.Read 1) ≡ run.Read 1) × (fault_of_opening open_feed.OutOfMemory ≡ run.OutOfMemory)

-- of words that aren't those of a command line, of a word that names no kind of change, and of a set whose element has no reading
abbrev pub WordsTexts : Type 0
WordsTexts =
    (words_text (words.CommandLine None) ≡ codes "binlogfeed: command line refused") × (words_text (words.Set 1) ≡ codes "binlogfeed: bad --auto-position: element 1")
    × (words_text words.Token ≡ codes "binlogfeed: token refused: BadToken") × (words_text words.OutOfMemory ≡ codes "binlogfeed: out of memory")
    × (words_text words.Key ≡ codes "binlogfeed: bad --key") × (words_text words.ProfileName ≡ codes "binlogfeed: bad --profile")
    × ((word : String Global) → words_text (words.EventName word) ≡ codes "binlogfeed: bad --only-events: " ++ string_bytes word)

abbrev pub Endings : Type 0
Endings =
    (ending_text Xid ≡ codes "xid") × (ending_text Commit ≡ codes "commit") × (ending_text Rollback ≡ codes "rollback") × (ending_text Statement ≡ codes "statement")

-- ---- statuses

-- the end of the logs, a log fault, equal names, a token, a device, memory
abbrev pub RunStatuses : Type 0
RunStatuses =
    (run_status_of (Ok 0) ≡ 0) × (run_status_of (Ok 7) ≡ 0) × (run_status_of (Err second_is_bad) ≡ 1) × (run_status_of (Err (run.DuplicateFile 1)) ≡ 2)
    × (run_status_of (Err (run.Token NoFile)) ≡ 3) × (run_status_of (Err (run.Token NoTransaction)) ≡ 3) × (run_status_of (Err (run.Token NoChange)) ≡ 3)
    × (run_status_of (Err (run.Read 0)) ≡ 4) × (run_status_of (Err run.Write) ≡ 4) × (run_status_of (Err run.OutOfMemory) ≡ 5)

abbrev pub WordsStatuses : Type 0
WordsStatuses =
    (words_status_of (words.CommandLine None) ≡ 2) × (words_status_of (words.Set 0) ≡ 2) × ((word : String Global) → words_status_of (words.EventName word) ≡ 2)
    × (words_status_of words.Key ≡ 2) × (words_status_of words.ProfileName ≡ 2) × (words_status_of words.Token ≡ 3) × (words_status_of words.OutOfMemory ≡ 5)

abbrev pub OpenStatuses : Type 0
OpenStatuses =
    (open_status_of (opening.BadName 1) ≡ 4) × (open_status_of (opening.CannotOpen 1) ≡ 4) × (open_status_of opening.OutOfMemory ≡ 5)
