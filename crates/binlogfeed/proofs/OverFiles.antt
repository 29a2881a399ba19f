-- A task over files that were opened, and paths that can't be.
use Rattle.std.proofs.Common.{◌≡◌, ℕ, List, Bool, Option, Result, Ok, Err, refl, sym, subst, subst₂, inl, inr}
use Rattle.binlog_frame.specs.declared.open_fault.OpenFault.{OpenFault}
use Rattle.binlog_frame.specs.declared.open_fault.OpenFault.TheVariants as open_faults
use Rattle.binlog_feed.specs.declared.fault.GoOnFault.{GoOnFault}
use Rattle.clap.specs.Words.{Text}
use Rattle.binlogfeed.specs.Coming.{fault_of_reading}
use Rattle.binlogfeed.specs.Endings.{EndsAnswer, EndsFollowing, EndsOrder, EndsTask}
use Rattle.binlogfeed.specs.Follow.{Ending, follow_status_of, list_status_of, refusal_status_of}
use Rattle.binlogfeed.specs.Looks.{Look}
use Rattle.binlogfeed.specs.Words.{words_status_of}
use Rattle.binlogfeed.specs.declared.words.Order.{Order}
use Rattle.binlogfeed.specs.declared.words.Order.TheVariants.{Follow}
use Rattle.binlogfeed.specs.declared.follow_fault.FollowFault.TheVariants.{Input, Unopened, NotBegun, Refused, Ended}
use Rattle.binlogfeed.specs.declared.lists.ListFault.{ListFault}
use Rattle.binlogfeed.specs.declared.lists.ListFault.TheVariants as lists
use Rattle.binlogfeed.specs.declared.program.Used.{Used}
use Rattle.binlogfeed.specs.declared.program.Used.TheVariants.{Files, Looks}
use Rattle.binlogfeed.specs.declared.words_fault.WordsFault.{WordsFault}
use Rattle.binlogfeed.specs.declared.words_fault.WordsFault.TheVariants.{Help}
use Rattle.binlogfeed.specs.declared.words_fault.WordsFault.TheVariants as words_faults
use Rattle.binlogfeed.specs.Statuses.{EndsRun, IsStatus, judgement_of, open_status_of, output_of, run_status_of}
use Rattle.binlogfeed.specs.declared.fault.RunFault.{RunFault}
use Rattle.binlogfeed.specs.declared.fault.RunFault.TheVariants.{DuplicateFile, Token, Log, OutOfMemory}
use Rattle.binlogfeed.specs.declared.words.Task.{Task}
use Rattle.binlog_frame.specs.Logs.{Contents}
use Rattle.binlog_feed.specs.declared.fault.GoOnFault.TheVariants as going

-- the files kept their names, hold what they are supposed to, and had no failure before
pub ends_over : (task : Task) (old_names names : List (List ℕ)) (old_contents contents : Contents) (old_failures failures : ℕ) (honest : Bool)
    (old new : Option (List ℕ)) (status : ℕ) → names ≡ old_names → old_contents ≡ contents → old_failures ≡ 0
    → EndsRun old_names old_failures failures honest (judgement_of task old_names old_contents) (output_of task old_names old_contents) old new status
    → EndsRun names 0 failures honest (judgement_of task names contents) (output_of task names contents) old new status
ends_over task old_names names old_contents contents old_failures failures honest old new status same held fresh h =
    subst₂ (λ (names : List (List ℕ)) (contents : Contents). EndsRun names 0 failures honest (judgement_of task names contents) (output_of task names contents) old new status) (sym same) held (rw fresh at h)

pub run_is_status : (answer : Result ℕ RunFault) → IsStatus (run_status_of answer)
run_is_status (Ok count) = inl refl
run_is_status (Err (Log fault)) = inr (inl refl)
run_is_status (Err (DuplicateFile file)) = inr (inr (inl refl))
run_is_status (Err (Token refusal)) = inr (inr (inr (inl refl)))
run_is_status (Err OutOfMemory) = inr (inr (inr (inr (inr refl))))
run_is_status (Err other) = inr (inr (inr (inr (inl refl))))

pub unopened_is_status : (fault : OpenFault) → IsStatus (open_status_of fault)
unopened_is_status open_faults.OutOfMemory = inr (inr (inr (inr (inr refl))))
unopened_is_status other = inr (inr (inr (inr (inl refl))))

-- whatever the words come to
pub words_are_status : (fault : WordsFault) → IsStatus (words_status_of fault)
words_are_status (Help error) = inl refl
words_are_status words_faults.Token = inr (inr (inr (inl refl)))
words_are_status words_faults.OutOfMemory = inr (inr (inr (inr (inr refl))))
words_are_status other = inr (inr (inl refl))

pub list_is_status : (fault : ListFault) → IsStatus (list_status_of fault)
list_is_status lists.Unreadable = inr (inr (inr (inr (inl refl))))
list_is_status lists.OutOfMemory = inr (inr (inr (inr (inr refl))))

pub refusal_is_status : (fault : GoOnFault) → IsStatus (refusal_status_of fault)
refusal_is_status going.NotAtEnd = inr (inl refl)
refusal_is_status (going.DuplicateFile file) = inr (inr (inl refl))
refusal_is_status (going.OutOfOrder file) = inr (inr (inl refl))
refusal_is_status (going.Earlier fault) = run_is_status (Err (fault_of_reading fault))
refusal_is_status (going.Later fault) = run_is_status (Err (fault_of_reading fault))
refusal_is_status other = inr (inr (inr (inl refl)))

pub follow_is_status : (ending : Ending) → IsStatus (follow_status_of ending)
follow_is_status (Ok done) = inl refl
follow_is_status (Err (Input fault)) = list_is_status fault
follow_is_status (Err (Unopened fault)) = unopened_is_status fault
follow_is_status (Err (NotBegun fault)) = run_is_status (Err fault)
follow_is_status (Err (Refused fault)) = refusal_is_status fault
follow_is_status (Err (Ended fault)) = run_is_status (Err fault)

task_is_status : {R F : Type 0} (task : Task) (paths : List Text) (contents : Contents) (used : Used R F) (old new : Option (List ℕ)) (status : ℕ) → EndsTask task paths contents used old new status → IsStatus status
task_is_status task paths contents (Files logs) old new status h = h.is_status
task_is_status task paths contents (Looks looks) old new status h = absurd h

following_is_status : {R F : Type 0} (follows : List Look → Ending → Type 0) (used : Used R F) (status : ℕ) → EndsFollowing follows used status → IsStatus status
following_is_status follows (Files logs) status h = absurd h
following_is_status follows (Looks looks) status (ending, made, e) = subst IsStatus (sym e) (follow_is_status ending)

order_is_status : {R F : Type 0} (order : Order) (supply : List (List (List ℕ))) (input : Option (List ℕ)) (used : Used R F) (old new : Option (List ℕ)) (status : ℕ) → EndsOrder order supply input used old new status → IsStatus status
order_is_status (Follow filter start style profile files) supply input used old new status h = following_is_status _ used status h
order_is_status other supply input used old new status h = task_is_status _ _ _ used old new status h

pub ended_is_status : {R F : Type 0} (answer : Result Order WordsFault) (supply : List (List (List ℕ))) (input : Option (List ℕ)) (used : Used R F) (old new : Option (List ℕ)) (status : ℕ)
    → EndsAnswer answer supply input used old new status → IsStatus status
ended_is_status (Ok order) supply input used old new status h = order_is_status order supply input used old new status h
ended_is_status (Err fault) supply input used old new status (none, same, e) = subst IsStatus (sym e) (words_are_status fault)
