-- The status with which the program ends.
use Rattle.std.specs.Prelude.{◌≡◌, ◌⊎◌, ℕ, Bool, List, Option, Result, Ok, Err, IsTrue, IfErr, string_bytes}
use Rattle.binlog_frame.specs.declared.open_fault.OpenFault.{OpenFault}
use Rattle.binlog_frame.specs.declared.open_fault.OpenFault.TheVariants as open_faults
use Rattle.binlog_frame.specs.Files.{RefusesOne}
use Rattle.binlog_feed.specs.Starts.{judge_start}
use Rattle.binlog_units.specs.Parsing.{files_of}
use Rattle.binlog_feed.specs.Tokens.{Judgement}
use Rattle.binlog_feed.specs.Tokens.Judgement.{Fits}
use Rattle.binlogfeed.specs.Faults.{status_of, IsNamed}
use Rattle.binlogfeed.specs.Runs.{Output, AnswersIfBegun, ReadsFailed, units_output, begun_output, history_output}
use Rattle.binlogfeed.specs.declared.fault.RunFault.{RunFault}
use Rattle.binlogfeed.specs.declared.words.Task.{Task}
use Rattle.binlogfeed.specs.declared.words.Task.TheVariants.{Transactions, Read, History}
use Rattle.binlog_frame.specs.Logs.{Contents}

-- a run that comes to the end of the files is 0
abbrev pub run_status_of : Result ℕ RunFault → ℕ
run_status_of (Ok count) = 0
run_status_of (Err fault) = status_of fault

-- what a task has to write of files with these names and contents
abbrev pub output_of : Task → List (List ℕ) → Contents → Output
output_of Transactions names contents = units_output names contents
output_of (Read filter start style) names contents = begun_output style names contents filter start
output_of (History schema table key style) names contents = history_output style names contents schema.now table.now (string_bytes key)

-- how the start of a task is judged over them
abbrev pub judgement_of : Task → List (List ℕ) → Contents → Judgement
judgement_of Transactions names contents = Fits
judgement_of (Read filter start style) names contents = judge_start (files_of names contents) start
judgement_of (History schema table key style) names contents = Fits

-- The status of a run that has this to write, from a start that is judged so, is that of what it answers, where the source was honest.
-- Over any source it names a file only of the list, and the device only where a read has failed.
abbrev pub EndsRun : List (List ℕ) → ℕ → ℕ → Bool → Judgement → Output → Option (List ℕ) → Option (List ℕ) → ℕ → Type 0
EndsRun names old_failures new_failures honest judgement output old new status =
    (result : Result ℕ RunFault) × (IsTrue honest → AnswersIfBegun names judgement output old new result)
    × IfErr result (IsNamed names) × IfErr result (ReadsFailed old_failures new_failures) × (status ≡ run_status_of result)

abbrev pub open_status_of : OpenFault → ℕ
open_status_of (open_faults.BadName path) = 4
open_status_of (open_faults.CannotOpen path) = 4
open_status_of open_faults.OutOfMemory = 5

-- a path is refused
abbrev pub EndsUnopened : List (List ℕ) → ℕ → Type 0
EndsUnopened paths status = (fault : OpenFault) × RefusesOne paths fault × (status ≡ open_status_of fault)

-- the statuses that there are
abbrev pub IsStatus : ℕ → Type 0
IsStatus status = (status ≡ 0) ⊎ ((status ≡ 1) ⊎ ((status ≡ 2) ⊎ ((status ≡ 3) ⊎ ((status ≡ 4) ⊎ (status ≡ 5)))))
