use Rattle.std.proofs.Common.{◌≡◌, ◌∙◌, ◌<◌, ℕ, zero, suc, List, [], ◌∷◌, Some, refl, sym, ap, arith}
use Rattle.std.specs.Prelude.{◌≢◌, slice_get}
use Rattle.std.proofs.lemmas.Option.{same_Some}
use Rattle.binlog_feed.specs.Searching.{IsFirstNamed, IsNoneNamed}
use Rattle.binlog_samples.specs.GoingOn.{followed_names}
use Rattle.binlog_samples.specs.Tokens.{first_name, second_name, third_name}
use Rattle.binlog_samples.proofs.GrownFiles.{numbers_differ}
use Rattle.binlog_samples.proofs.going_on.sample_refused_feeds.Goals as goal

pub returns-clause-not_at_end : goal.returns-clause-not_at_end
returns-clause-not_at_end c feed = ((λ e. cc), (λ e. cc), (λ still. still refl))

first_is_not_second : first_name ≢ second_name
first_is_not_second = numbers_differ first_name second_name (λ e. omega (arith, e))

third_is_not_second : third_name ≢ second_name
third_is_not_second = numbers_differ third_name second_name (λ e. omega (arith, e))

third_is_not_first : third_name ≡ first_name → ⊥
third_is_not_first = numbers_differ third_name first_name (λ e. omega (arith, e))

neither : (i : ℕ) → i < 2 → slice_get (first_name ∷ third_name ∷ []) i ≢ Some second_name
neither zero lt e = first_is_not_second (same_Some first_name second_name e)
neither (suc zero) lt e = third_is_not_second (same_Some third_name second_name e)
neither (suc (suc i)) lt e = omega (arith, lt)

third_is_new : (earlier : ℕ) (name : List ℕ) → Some third_name ≡ Some name → slice_get followed_names earlier ≡ Some name → ⊥
third_is_new zero name here there = third_is_not_first (same_Some third_name first_name (here ∙ sym there))
third_is_new (suc zero) name here there = third_is_not_second (same_Some third_name second_name (here ∙ sym there))
third_is_new (suc (suc earlier)) name here there = cc

-- the third file stands between
between : (number : ℕ) (name : List ℕ) → 0 < number → number < 2 → slice_get (second_name ∷ third_name ∷ first_name ∷ []) number ≡ Some name → IsNoneNamed followed_names name 2
between zero name behind before here = absurd (omega (arith, behind))
between (suc zero) name behind before here = λ i within there. third_is_new i name here there
between (suc (suc number)) name behind before here = absurd (omega (arith, before))

-- the first file stands there twice
not_first : (file : ℕ) (name : List ℕ) → slice_get followed_names 1 ≡ Some name → IsFirstNamed (second_name ∷ first_name ∷ first_name ∷ []) name file
    → ((number : ℕ) (other : List ℕ) → file < number → number < 2 → slice_get (second_name ∷ first_name ∷ first_name ∷ []) number ≡ Some other → IsNoneNamed followed_names other 2) → ⊥
not_first zero name named found first = first 1 first_name (omega arith) (omega arith) refl 0 (omega arith) refl
not_first (suc file) name named found first = found.2 0 (omega arith) named

pub returns-clause-go_on_refused : goal.returns-clause-go_on_refused
returns-clause-go_on_refused c feed = (
  record { name = second_name; named = refl; absent = neither },
  (λ gone. gone.absent 1 (omega arith) gone.named),
  (omega arith, (0, omega arith, refl), λ i j lt below e. omega (arith, lt, below)),
  (λ duplicate. let below = duplicate.1.1 in omega (arith, below)),
  (λ duplicate.
      let below = duplicate.1.1 in
      let zero_is : duplicate.1.0 ≡ 0 = omega (arith, below) in
      first_is_not_second (same_Some first_name second_name (ap (slice_get (first_name ∷ second_name ∷ [])) (sym zero_is) ∙ duplicate.1.2))),
  (
    0,
    record { name = second_name; named = refl; found = (omega arith, refl, λ i below e. omega (arith, below)) },
    record { behind = omega arith; name = first_name; here = refl; earlier = 0; there = refl; first = between },
  ),
  (λ again. third_is_new again.2.earlier again.2.name again.2.here again.2.there),
  (λ again. not_first again.0 again.1.name again.1.named again.1.found again.2.first),
  (λ again. let below = again.2.behind in omega (arith, below)),
)
