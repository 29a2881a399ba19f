use Rattle.std.proofs.Common.{◌≡◌, ◌+◌, List, Bool, None, length, length-append, refl, sym, ap, ◌∙◌, inl, inr, arith}
use Rattle.binlog_select.specs.declared.token.Token.{Token}
use Rattle.binlog_feed.specs.AtEnd.{judge_end}
use Rattle.binlog_feed.specs.Changes.{RowChange}
use Rattle.binlog_feed.specs.ChangeMachine.{RemainingChanges}
use Rattle.binlog_feed.specs.Feeds.{end_of_changes, feed}
use Rattle.binlog_units.specs.Parsing.{LogFile}
use Rattle.binlog_feed.specs.Tokens.{judge}
use Rattle.binlog_feed.specs.Tokens.Judgement.{NoFile, Fits, NoChange, NoTransaction}
use Rattle.binlog_feed.specs.declared.start.Start.TheVariants.{Beginning, After}
use Rattle.binlog_units.specs.declared.what.What.TheVariants.{RotationMismatch}
use Rattle.binlogfeed.specs.Looks.{BeginsFollowing}
use Rattle.binlog_samples.specs.Files.{fault_at}
use Rattle.binlog_samples.specs.Tokens.{first_name, second_name, token}
use Rattle.binlog_samples.specs.Following.{all, both_files, given, nothing_to_come, one_file}
use Rattle.binlog_samples.specs.Parts.{to_come}
use Rattle.binlog_samples.proofs.OnBytes.{on_bytes}
use Rattle.binlog_samples.proofs.parts.sample_begins.Goals as goal

pub returns-clause-begins : goal.returns-clause-begins
unfolding on_bytes
returns-clause-begins c = (inl (refl, refl), inl (refl, refl), inr (refl, refl, λ whole. record { joins = refl; end = refl; last = refl }))

-- from the beginning all is to come
all_to_come : (files : List LogFile) (passes : RowChange → Bool) (remaining : RemainingChanges) → BeginsFollowing files passes Beginning remaining
    → (remaining.changes ≡ feed files passes) × (remaining.end ≡ end_of_changes files)
all_to_come files passes remaining (inl (fits, is)) = (ap (λ (r : RemainingChanges). r.changes) is, ap (λ (r : RemainingChanges). r.end) is)
all_to_come files passes remaining (inr never) = absurd never

-- behind the change of the first file, that of the second one
behind_change : (remaining : RemainingChanges) → BeginsFollowing both_files all (After (token 153 1 first_name)) remaining → length remaining.changes ≡ 1
unfolding on_bytes
behind_change remaining (inl (fits, is)) = ap (λ (r : RemainingChanges). length r.changes) is
behind_change remaining (inr stands) = let never : Fits ≡ NoTransaction = stands.0 in absurd (cc)

-- at the end of the first file, the same
behind_file : (remaining : RemainingChanges) → BeginsFollowing both_files all (After (token 371 0 first_name)) remaining → (length remaining.changes ≡ 1) × (remaining.end ≡ None)
unfolding on_bytes
behind_file remaining (inl (fits, is)) = let never : NoTransaction ≡ Fits = fits in absurd (cc)
behind_file remaining (inr (none, there, behind)) =
    let completes = behind refl in
    let n : 1 + length remaining.changes ≡ 2 = sym (length-append (given one_file) remaining.changes) ∙ ap length completes.joins in
    (omega (arith, n), completes.end)

pub returns-clause-begins_elsewhere : goal.returns-clause-begins_elsewhere
unfolding on_bytes
returns-clause-begins_elsewhere c = (
  (λ begins. let n : 1 ≡ 2 = ap (λ (changes : List RowChange). length changes) (all_to_come both_files all _ begins).0 in omega (arith, n)),
  (λ begins. let n : 0 ≡ 1 = behind_change nothing_to_come begins in omega (arith, n)),
  (λ begins. let n : 2 ≡ 1 = behind_change (to_come (given both_files)) begins in omega (arith, n)),
)

pub returns-clause-begins_elsewhere_at_end : goal.returns-clause-begins_elsewhere_at_end
unfolding on_bytes
returns-clause-begins_elsewhere_at_end c = (
  (λ begins. let n : 0 ≡ 1 = (behind_file nothing_to_come begins).0 in omega (arith, n)),
  (λ begins. let n : 2 ≡ 1 = (behind_file (to_come (given both_files)) begins).0 in omega (arith, n)),
)

pub returns-clause-begins_without_fault : goal.returns-clause-begins_without_fault
unfolding on_bytes
returns-clause-begins_without_fault c = (
  (λ begins. let none : fault_at 0 371 RotationMismatch ≡ None = (all_to_come both_files all _ begins).1 in cc),
  (λ begins. let none : fault_at 0 371 RotationMismatch ≡ None = (behind_file _ begins).1 in cc),
)

-- where no start fits, and no file ends, nothing begins
begins_nowhere : (files : List LogFile) (passes : RowChange → Bool) (place : Token) (remaining : RemainingChanges) → (judge files place ≡ Fits → ⊥) → (judge_end files place ≡ Fits → ⊥)
    → BeginsFollowing files passes (After place) remaining → ⊥
begins_nowhere files passes place remaining start end (inl (fits, is)) = start fits
begins_nowhere files passes place remaining start end (inr stands) = end stands.1

pub returns-clause-begins_nowhere : goal.returns-clause-begins_nowhere
unfolding on_bytes
returns-clause-begins_nowhere c = (
  begins_nowhere one_file all (token 370 0 first_name) nothing_to_come (λ e. let never : NoTransaction ≡ Fits = e in cc) (λ e. let never : NoTransaction ≡ Fits = e in cc),
  begins_nowhere one_file all (token 371 1 first_name) nothing_to_come (λ e. let never : NoTransaction ≡ Fits = e in cc) (λ e. let never : NoTransaction ≡ Fits = e in cc),
  begins_nowhere one_file all (token 153 2 first_name) nothing_to_come (λ e. let never : NoChange ≡ Fits = e in cc) (λ e. let never : NoTransaction ≡ Fits = e in cc),
  begins_nowhere one_file all (token 371 0 second_name) nothing_to_come (λ e. let never : NoFile ≡ Fits = e in cc) (λ e. let never : NoFile ≡ Fits = e in cc),
)
