-- Looks at files that stand one behind the other.
use Rattle.std.proofs.Common.{◌≡◌, ◌<◌, ◌≤◌, ◌+◌, ◌∙◌, Bool, ℕ, zero, suc, List, [], ◌∷◌, ◌++◌, length, length-append, refl, ap, subst, arith}
use Rattle.std.specs.Prelude.{◌≢◌}
use Rattle.std.proofs.lemmas.Option.{same_Some}
use Rattle.binlog_frame.specs.Logs.{content}
use Rattle.binlog_feed.specs.Changes.{RowChange}
use Rattle.binlog_feed.specs.ChangeMachine.{RemainingChanges}
use Rattle.binlog_units.specs.Names.{AllDiffer}
use Rattle.binlogfeed.specs.Looks.{ComesBehindLast}
use Rattle.binlog_samples.specs.Following.{cut_look, look_at, one_file}
use Rattle.binlog_samples.specs.Tokens.{first_name, second_name, third_name}
use Rattle.binlog_samples.proofs.GrownFiles.{numbers_differ}
use Rattle.binlog_samples.proofs.OnBytes.{on_bytes}

pub first_is_not_second : first_name ≢ second_name
first_is_not_second = numbers_differ first_name second_name (λ e. omega (arith, e))

pub third_is_not_second : third_name ≢ second_name
third_is_not_second = numbers_differ third_name second_name (λ e. omega (arith, e))

pub one_differs : (name : List ℕ) → AllDiffer (name ∷ []) 1
one_differs name i j lt below e = omega (arith, lt, below)

pub two_differ : AllDiffer (first_name ∷ second_name ∷ []) 2
two_differ zero zero lt below e = omega (arith, lt)
two_differ zero (suc zero) lt below e = first_is_not_second (same_Some first_name second_name e)
two_differ zero (suc (suc j)) lt below e = omega (arith, below)
two_differ (suc i) j lt below e = omega (arith, lt, below)

-- the texts of two looks: each has a line feed
pub two_texts : (front text part next lines : List ℕ) → text ≡ part ++ 10 ∷ [] → next ≡ lines ++ 10 ∷ [] → length front + 2 ≤ length ((front ++ text) ++ next)
two_texts front text part next lines is also =
    let all = length-append (front ++ text) next in
    let both = length-append front text in
    let one = ap length is ∙ length-append part (10 ∷ []) in
    let other = ap length also ∙ length-append lines (10 ∷ []) in
    omega (arith, all, both, one, other)

-- the first file is cut before the end of its transaction
pub cut_short : (passes : RowChange → Bool) (coming : RemainingChanges) → ComesBehindLast passes (look_at one_file) (cut_look 370) coming → ⊥
unfolding on_bytes
cut_short passes coming h =
    let there : h.place.file < 1 = h.behind.found.0 in
    let first : h.place.file ≡ 0 = omega (arith, there) in
    let reaches : 371 ≤ length (content (cut_look 370).contents 0) = subst (λ (n : ℕ). 371 ≤ length (content (cut_look 370).contents n)) first h.behind.reaches in
    let bytes : length (content (cut_look 370).contents 0) ≡ 370 = refl in
    omega (arith, reaches, bytes)
