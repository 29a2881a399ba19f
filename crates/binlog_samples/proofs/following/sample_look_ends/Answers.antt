use Rattle.std.proofs.Common.{◌≡◌, ◌∙◌, [], ◌∷◌, Some, None, Ok, Err, refl, sym, ap, inl, inr, arith}
use Rattle.std.proofs.lemmas.Option.{same_Some}
use Rattle.binlog_frame.specs.Logs.{HasRisen}
use Rattle.binlog_feed.specs.Tokens.{judge}
use Rattle.binlog_feed.specs.ChangeMachine.{RemainingChanges}
use Rattle.binlog_feed.specs.Tokens.Judgement.{Fits as fits, NoTransaction as no_transaction}
use Rattle.binlog_units.specs.declared.fault.OpenFeedFault.{OpenFeedFault}
use Rattle.binlog_units.specs.declared.fault.OpenFeedFault.TheVariants as opening
use Rattle.binlog_feed.specs.declared.start.Start.TheVariants.{Beginning, After}
use Rattle.binlog_units.specs.declared.fault.LogFault.{LogFault}
use Rattle.binlog_select.specs.declared.token.Token.{Token}
use Rattle.binlogfeed.specs.Faults.{fault_of_opening}
use Rattle.binlogfeed.specs.Follow.{EndsLook, RefusesFirst}
use Rattle.binlogfeed.specs.Looks.{IsNoEnd, RefusesFollowing}
use Rattle.binlogfeed.specs.declared.fault.RunFault.TheVariants as run
use Rattle.binlogfeed.specs.declared.follow_fault.FollowFault.TheVariants.{Ended}
use Rattle.binlogfeed.specs.declared.fault.TokenRefusal.TheVariants.{NoTransaction}
use Rattle.binlog_samples.specs.Tokens.{bad_before, first_name, second_name, token}
use Rattle.binlog_samples.specs.Following.{all, look_at, one_file}
use Rattle.binlog_samples.specs.FollowEnds.{bad_magic}
use Rattle.binlog_samples.proofs.GrownFiles.{first_named}
use Rattle.binlog_samples.proofs.NextLooks.{first_is_not_second}
use Rattle.binlog_samples.proofs.OnBytes.{on_bytes}
use Rattle.binlog_samples.proofs.following.sample_look_ends.Goals as goal

-- only one fault of an opening is told so
told_so : (place : Token) (fault : OpenFeedFault) → RefusesFollowing (look_at one_file).names (look_at one_file).contents (After place) fault
    → run.Token NoTransaction ≡ fault_of_opening fault
    → (judge one_file place ≡ no_transaction) × IsNoEnd one_file (After place) opening.TokenNoTransaction
told_so place (opening.DuplicateFile file) refuses e = absurd (cc)
told_so place opening.TokenNoFile refuses e = absurd (cc)
told_so place opening.TokenNoTransaction refuses e = (refuses.0.1, refuses.1)
told_so place opening.TokenNoChange refuses e = absurd (cc)
told_so place (opening.Log fault) refuses e = absurd (cc)
told_so place (opening.Read file) refuses e = absurd (cc)
told_so place (opening.WindowTooSmall needed) refuses e = absurd (cc)
told_so place opening.OutOfMemory refuses e = absurd (cc)

is_refused : (place : Token) → RefusesFirst (look_at one_file) (After place) (run.Token NoTransaction)
    → (judge one_file place ≡ no_transaction) × IsNoEnd one_file (After place) opening.TokenNoTransaction
is_refused place (inl e) = absurd (cc)
is_refused place (inr (fault, refuses, e)) = told_so place fault refuses e

pub returns-clause-first_refused : goal.returns-clause-first_refused
unfolding on_bytes
returns-clause-first_refused c = (
  inr (opening.TokenNoTransaction, ((λ i j lt below. absurd (omega (arith, lt, below)), refl), λ fits. cc), refl),
  (λ refuses. (is_refused (token 371 0 first_name) refuses).1 refl),
  (λ refuses. let judged = (is_refused (token 153 0 first_name) refuses).0 in cc),
  inl refl,
)

-- an earlier file's fault is not met behind the start
not_met : (fault : LogFault) → EndsLook all (After (token 153 0 second_name)) (look_at bad_before) [] (Err (Ended (run.Log fault))) → ⊥
unfolding on_bytes
not_met fault (remaining, inl begins, ends) = let none : remaining.end ≡ None = ap (λ (r : RemainingChanges). r.end) begins.1 in cc
not_met fault (remaining, inr stands, ends) = let judged : fits ≡ no_transaction = stands.0 in cc

-- from the beginning on it is
is_met : EndsLook all Beginning (look_at bad_before) [] (Ok tt) → ⊥
unfolding on_bytes
is_met (remaining, inl begins, ends) = let some : remaining.end ≡ Some bad_magic = ap (λ (r : RemainingChanges). r.end) begins.1 in cc
is_met (remaining, inr stands, ends) = absurd stands

pub returns-clause-first_look_ends : goal.returns-clause-first_look_ends
unfolding on_bytes
returns-clause-first_look_ends c = ((_, inl (refl, refl), refl), not_met, is_met)

still_none : HasRisen 0 0 → ⊥
still_none (inl more) = omega (arith, more)
still_none (inr most) = omega (arith, most)

pub returns-clause-failures_of_refusals : goal.returns-clause-failures_of_refusals
returns-clause-failures_of_refusals c = (
  (omega arith, inl (omega arith), record { name = first_name; named = refl; found = first_named first_name (second_name ∷ []) }),
  (λ fails. first_is_not_second (sym (same_Some second_name first_name (fails.2.found.1 ∙ sym fails.2.named)))),
  (λ fails. still_none fails.1),
  (omega arith, inl (omega arith), refl),
  (λ fails. still_none fails.1),
  (λ fails. let below = fails.0 in omega (arith, below)),
)
