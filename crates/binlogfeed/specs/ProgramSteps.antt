-- How the program ends, by its input and its output.
use Rattle.std.specs.Prelude.{ℕ, List}
use Rattle.std.specs.Borrow.{Bor}
use Rattle.std.specs.declared.io.Read as reader
use Rattle.std.specs.declared.io.Write as writer
use Rattle.clap.specs.Words.{Text}
use Rattle.binlogfeed.specs.Endings.{EndsTask, EndsWords}
use Rattle.binlogfeed.specs.Words.{texts}
use Rattle.binlogfeed.specs.declared.program.Used.{Used}
use Rattle.binlogfeed.specs.declared.words.Task.{Task}
use Rattle.binlog_profile.specs.declared.profile.Profile.{Profile}

module _ {V : Type 0} (W : writer.Ghosts V) where
  -- what a task comes to over the files of paths
  abbrev pub DoesTask : {R F : Type 0} → Task → Profile → List (Bor Text) → List (List ℕ) → V → V → Used R F × ℕ → Type 0
  DoesTask task profile paths contents old new result = EndsTask task (texts paths) (record { profile = profile; files = contents }) result.0 (W.contents old) (W.contents new) result.1

  module _ {I : Type 0} (B : reader.Ghosts I) where
    -- what the words come to
    abbrev pub AnswersGiven : {R F : Type 0} → List (Bor Text) → List (List (List ℕ)) → I → V → V → Used R F × ℕ → Type 0
    AnswersGiven words supply input old new result =
        EndsWords (texts words) supply (B.remaining input) result.0 (W.contents old) (W.contents new) result.1
