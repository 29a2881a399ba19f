-- The lines and the statuses of runs that ended early.
use Rattle.std.specs.Prelude.{ℕ, ◌<◌, List, [], ◌∷◌, ◌++◌, length, slice_get, unwrap_or, codes, decimal}
use Rattle.binlog_units.specs.declared.what.What.{What}
use Rattle.binlog_units.specs.declared.what.What.TheVariants.{BadMagic, NoFormat, BadFormat, ChecksumUnknown, BadLength, EventAfterEnd, KindOutOfProfile, BadBody, Xa, RollbackTo, OutOfPlace, RotationMismatch, BadMap, TypeOutOfProfile, NoColumnNames, BadRows, UnmappedTable, SourceChanged}
use Rattle.binlog_units.specs.declared.fault.OpenFeedFault.{OpenFeedFault}
use Rattle.binlog_units.specs.declared.fault.OpenFeedFault.TheVariants as open_faults
use Rattle.line_output.specs.declared.fault.AddFault.{AddFault}
use Rattle.line_output.specs.declared.fault.AddFault.TheVariants as add_faults
use Rattle.binlogfeed.specs.declared.fault.RunFault.{RunFault}
use Rattle.binlogfeed.specs.declared.fault.RunFault.TheVariants.{DuplicateFile, Token, Log, Read, Write, OutOfMemory}
use Rattle.binlogfeed.specs.declared.fault.TokenRefusal.{TokenRefusal}
use Rattle.binlogfeed.specs.declared.fault.TokenRefusal.TheVariants.{NoFile, NoTransaction, NoChange}

-- a name, and its number in round brackets
abbrev pub numbered : List ℕ → ℕ → List ℕ
numbered name number = name ++ (40 ∷ (decimal number ++ 41 ∷ []))

abbrev pub what_text : What → List ℕ
what_text BadMagic = codes "BadMagic"
what_text NoFormat = codes "NoFormat"
what_text BadFormat = codes "BadFormat"
what_text ChecksumUnknown = codes "ChecksumUnknown"
what_text BadLength = codes "BadLength"
what_text EventAfterEnd = codes "EventAfterEnd"
what_text (KindOutOfProfile kind) = numbered (codes "KindOutOfProfile") kind
what_text BadBody = codes "BadBody"
what_text Xa = codes "Xa"
what_text RollbackTo = codes "RollbackTo"
what_text (OutOfPlace kind) = numbered (codes "OutOfPlace") kind
what_text RotationMismatch = codes "RotationMismatch"
what_text BadMap = codes "BadMap"
what_text (TypeOutOfProfile column_type) = numbered (codes "TypeOutOfProfile") column_type
what_text NoColumnNames = codes "NoColumnNames"
what_text BadRows = codes "BadRows"
what_text UnmappedTable = codes "UnmappedTable"
what_text SourceChanged = codes "SourceChanged"

-- the name of a file, by its number
abbrev pub name_of : List (List ℕ) → ℕ → List ℕ
name_of names file = unwrap_or (slice_get names file) []

-- the name by which a token is refused
abbrev pub refusal_text : TokenRefusal → List ℕ
refusal_text NoFile = codes "TokenNoFile"
refusal_text NoTransaction = codes "TokenNoTransaction"
refusal_text NoChange = codes "TokenNoChange"

-- the line of a fault over files with these names, without its line feed
abbrev pub fault_text : List (List ℕ) → RunFault → List ℕ
fault_text names (DuplicateFile file) = codes "binlogfeed: duplicate file " ++ name_of names file
fault_text names (Token refusal) = codes "binlogfeed: token refused: " ++ refusal_text refusal
fault_text names (Log fault) =
    codes "binlogfeed: log fault at " ++ (name_of names fault.file ++ (58 ∷ (decimal fault.position ++ (58 ∷ 32 ∷ what_text fault.what))))
fault_text names (Read file) = codes "binlogfeed: read fault: " ++ name_of names file
fault_text names Write = codes "binlogfeed: write fault"
fault_text names OutOfMemory = codes "binlogfeed: out of memory"

-- The fault of a run whose files or whose token are refused. A window that is too small is one for which memory was wanting.
abbrev pub fault_of_opening : OpenFeedFault → RunFault
fault_of_opening (open_faults.DuplicateFile file) = DuplicateFile file
fault_of_opening open_faults.TokenNoFile = Token NoFile
fault_of_opening open_faults.TokenNoTransaction = Token NoTransaction
fault_of_opening open_faults.TokenNoChange = Token NoChange
fault_of_opening (open_faults.Log fault) = Log fault
fault_of_opening (open_faults.Read file) = Read file
fault_of_opening (open_faults.WindowTooSmall needed) = OutOfMemory
fault_of_opening open_faults.OutOfMemory = OutOfMemory

-- what is wrong with the logs is 1, with the words 2, with the token 3; a device that fails is 4
abbrev pub status_of : RunFault → ℕ
status_of (Log fault) = 1
status_of (DuplicateFile file) = 2
status_of (Token refusal) = 3
status_of (Read file) = 4
status_of Write = 4
status_of OutOfMemory = 5

-- a file that the fault names is one of the list
abbrev pub IsNamed : List (List ℕ) → RunFault → Type 0
IsNamed names (DuplicateFile file) = file < length names
IsNamed names (Token refusal) = Unit {0}
IsNamed names (Log fault) = fault.file < length names
IsNamed names (Read file) = file < length names
IsNamed names Write = Unit {0}
IsNamed names OutOfMemory = Unit {0}

-- over a feed that began, or went on, a run refuses neither names nor a token
abbrev pub IsNoRefusal : RunFault → Type 0
IsNoRefusal (DuplicateFile file) = ⊥
IsNoRefusal (Token refusal) = ⊥
IsNoRefusal other = Unit {0}

-- why a run ends where a line wasn't added
abbrev pub fault_of_adding : AddFault → RunFault
fault_of_adding add_faults.Write = Write
fault_of_adding add_faults.OutOfMemory = OutOfMemory
