-- How the program ends, by its words.
use Rattle.std.specs.Prelude.{◌≡◌, ℕ, List, Option, None, Result, Ok, Err, IfSome}
use Rattle.clap.specs.Words.{Text}
use Rattle.binlog_frame.specs.declared.files.FileLogs.{FileLogs}
use Rattle.binlog_frame.specs.FileLogs.{names_of, held_of, is_honest, failures_of}
use Rattle.binlog_frame.specs.Files.{AreLastParts}
use Rattle.binlogfeed.specs.Follow.{Ending, Follows, follow_status_of, supplied}
use Rattle.binlogfeed.specs.Looks.{Look}
use Rattle.binlogfeed.specs.Statuses.{EndsRun, EndsUnopened, IsStatus, judgement_of, output_of}
use Rattle.binlogfeed.specs.Words.{AnswersWords, texts, words_status_of}
use Rattle.binlogfeed.specs.declared.program.Used.{Used}
use Rattle.binlogfeed.specs.declared.program.Used.TheVariants.{Files, Looks}
use Rattle.binlogfeed.specs.declared.words.Order.{Order}
use Rattle.binlogfeed.specs.declared.words.Order.TheVariants.{Follow, Once}
use Rattle.binlogfeed.specs.declared.words.Task.{Task}
use Rattle.binlogfeed.specs.declared.words_fault.WordsFault.{WordsFault}
use Rattle.binlog_frame.specs.Logs.{Contents}

-- What a task comes to over files that are supposed to hold these contents: the logs come back where all files could be opened,
-- and where they gave their true bytes, what was written and the status are those of the task over the contents. Where a path is
-- refused nothing is written.
pub record EndsOnce {R F : Type 0} (task : Task) (paths : List Text) (contents : Contents) (logs : Option (FileLogs R F)) (old new : Option (List ℕ))
    (status : ℕ) : Type 0 where
  pub names : IfSome logs (λ logs. AreLastParts paths (names_of logs))
  pub held : IfSome logs (λ logs. held_of logs ≡ contents)
  pub ends : IfSome logs (λ logs. EndsRun (names_of logs) 0 (failures_of logs) (is_honest logs)
      (judgement_of task (names_of logs) contents) (output_of task (names_of logs) contents) old new status)
  pub refused : logs ≡ None → EndsUnopened paths status × (new ≡ old)
  pub is_status : IsStatus status

abbrev pub EndsTask : {R F : Type 0} → Task → List Text → Contents → Used R F → Option (List ℕ) → Option (List ℕ) → ℕ → Type 0
EndsTask task paths contents (Files logs) old new status = EndsOnce task paths contents logs old new status
EndsTask task paths contents (Looks looks) old new status = ⊥

-- A run that follows ends by its looks.
abbrev pub EndsFollowing : {R F : Type 0} → (List Look → Ending → Type 0) → Used R F → ℕ → Type 0
EndsFollowing follows (Files logs) status = ⊥
EndsFollowing follows (Looks looks) status = (ending : Ending) × follows looks.list ending × (status ≡ follow_status_of ending)

-- what an order comes to; the supply has what the files of each look are supposed to hold, or of the only one
abbrev pub EndsOrder : {R F : Type 0} → Order → List (List (List ℕ)) → Option (List ℕ) → Used R F → Option (List ℕ) → Option (List ℕ) → ℕ → Type 0
EndsOrder (Once task profile files) supply input used old new status = EndsTask task (texts files.items) (supplied profile supply 0) used old new status
EndsOrder (Follow filter start style profile files) supply input used old new status =
    EndsFollowing (Follows profile style filter start (texts files.items) supply input old new) used status

-- what the answer to the words comes to: where they are refused no file is opened, and nothing is written
abbrev pub EndsAnswer : {R F : Type 0} → Result Order WordsFault → List (List (List ℕ)) → Option (List ℕ) → Used R F
    → Option (List ℕ) → Option (List ℕ) → ℕ → Type 0
EndsAnswer (Ok order) supply input used old new status = EndsOrder order supply input used old new status
EndsAnswer (Err fault) supply input used old new status = (used ≡ Files None) × (new ≡ old) × (status ≡ words_status_of fault)

abbrev pub EndsWords : {R F : Type 0} → List Text → List (List (List ℕ)) → Option (List ℕ) → Used R F
    → Option (List ℕ) → Option (List ℕ) → ℕ → Type 0
EndsWords words supply input used old new status =
    (result : Result Order WordsFault) × AnswersWords words result × EndsAnswer result supply input used old new status
