use Rattle.std.proofs.Common.{◌≡◌, ◌≤◌, ◌∙◌, ℕ, zero, suc, List, [], ◌∷◌, ◌++◌, append-nil, Some, None, refl, sym, ap, subst, inl, inr, arith}
use Rattle.std.specs.List.{All}
use Rattle.std.specs.Prelude.{get_or, slice_get}
use Rattle.std.proofs.lemmas.List.Elements.{All-nil}
use Rattle.std.proofs.lemmas.Option.{same_Some}
use Rattle.binlog_frame.specs.Logs.{NotPast}
use Rattle.binlog_feed.specs.Growing.{AreNewBehind}
use Rattle.binlog_feed.specs.Searching.{IsFirstNamed}
use Rattle.binlog_units.specs.Places.{begin_file}
use Rattle.binlog_units.specs.declared.fault.LogFault.{LogFault}
use Rattle.binlog_samples.specs.GoingOn.{second_end}
use Rattle.binlog_samples.specs.Statuses.{two_names}
use Rattle.binlog_samples.specs.Tokens.{first_name, second_name, third_name}
use Rattle.binlog_samples.proofs.GrownFiles.{first_named, not_alone, second_named}
use Rattle.binlog_samples.proofs.NextLooks.{first_is_not_second, third_is_not_second}
use Rattle.binlog_samples.proofs.runs.sample_runs_on.Goals as goal

pub returns-clause-goes_on_over_none : goal.returns-clause-goes_on_over_none
returns-clause-goes_on_over_none c style chosen feed later earlier = (
  record {
    told = refl;
    window = omega arith;
    place = begin_file 0;
    inside = omega arith;
    there = λ some. absurd (omega (arith, some));
    new_names = λ number name below here i within. absurd (omega (arith, within));
    asks = record { more = []; noted = refl; behind = All-nil (NotPast (0, 0)) };
    marks = inl refl;
    no_refusal = tt;
    text = λ honest. (refl, refl, refl);
    gone = λ honest. record { gone = record { text = []; count = 0; end = None }; split = refl; same_end = refl; answers = (refl, refl, refl) };
    read_in = λ honest. tt;
    up_to = λ honest. tt;
    from_mark = λ first honest some. absurd (omega (arith, some));
    from_beginning = λ first honest sound some. absurd (omega (arith, some));
  },
  (λ went. went.text refl),
  (λ went. went.no_refusal),
)

-- the first file stands behind the last one again
out_of_order : (file : ℕ) (name : List ℕ) → slice_get two_names 1 ≡ Some name → IsFirstNamed (second_name ∷ first_name ∷ []) name file → AreNewBehind two_names (second_name ∷ first_name ∷ []) file → ⊥
out_of_order zero name named found new = new 1 first_name (omega arith) refl 0 (omega arith) refl
out_of_order (suc zero) name named found new = first_is_not_second (same_Some first_name second_name (found.1 ∙ sym named))
out_of_order (suc (suc n)) name named found new = let lt = found.0 in omega (arith, lt)

-- a read at another place is none from there on
read_before : (file : ℕ) (more : List (ℕ × ℕ)) → (0, 4) ∷ [] ≡ more ++ [] → All (NotPast (file, 0)) more → file ≡ 0
read_before file more noted behind =
    let all = subst (All (NotPast (file, 0))) (sym (noted ∙ append-nil more)) behind in
    first (all 0 (0, 0) (omega arith))
  where
    first : NotPast (file, 0) (0, 4) → file ≡ 0
    first (inl lt) = absurd (omega (arith, lt))
    first (inr same) = same.0

pub returns-clause-does_not_go_on : goal.returns-clause-does_not_go_on
returns-clause-does_not_go_on c style chosen feed later logs earlier text result = (
  (λ went. let told : None ≡ Some None = went.told in cc),
  (λ went. let told : Some (Some second_end) ≡ Some None = went.told in cc),
  (λ went. let window : 9 ≤ 8 = went.window in omega (arith, window)),
  (λ went.
      let there = went.there (omega arith) in
      not_alone first_name there.name went.place.file (λ e. first_is_not_second (e ∙ sym (same_Some second_name there.name there.named))) there.found),
  (λ went. let there = went.there (omega arith) in out_of_order went.place.file there.name there.named there.found went.new_names),
  (λ went.
      let there = went.there (omega arith) in
      let file = read_before went.place.file went.asks.more went.asks.noted went.asks.behind in
      let named : Some first_name ≡ Some there.name = subst (λ (n : ℕ). slice_get two_names n ≡ Some there.name) file there.found.1 in
      first_is_not_second (same_Some first_name second_name (named ∙ sym there.named))),
)

pub returns-clause-ends_told : goal.returns-clause-ends_told
returns-clause-ends_told c = (
  refl,
  (λ e. let told : None ≡ Some None = e in cc),
  (λ e. let told : Some (Some second_end) ≡ Some None = e in cc),
  refl,
  (λ e. let told : Some None ≡ Some (Some second_end) = e in cc),
  (λ e. let told : None ≡ Some (Some second_end) = e in cc),
  (λ e. let at : 390 ≡ 371 = ap (λ (fault : LogFault). fault.position) (same_Some second_end (record second_end { position = 371 }) (same_Some (Some second_end) (Some (record second_end { position = 371 })) e)) in omega (arith, at)),
  tt,
)

pub returns-clause-reads_placed : goal.returns-clause-reads_placed
returns-clause-reads_placed c = (refl, (λ e. omega (arith, e)), (λ e. omega (arith, e)), (λ none. none), tt, tt)

pub returns-clause-changes_up_to : goal.returns-clause-changes_up_to
returns-clause-changes_up_to c change = (
  (0, refl, omega arith),
  (0, refl, omega arith),
  (1, refl, omega arith),
  (λ at.
      let most = at.2 in
      let none : at.0 ≡ 0 = omega (arith, most) in
      first_is_not_second (subst (λ (n : ℕ). get_or two_names n [] ≡ second_name) none at.1)),
)

pub returns-clause-last_named : goal.returns-clause-last_named
returns-clause-last_named c = (
  record { name = first_name; named = refl; found = first_named first_name (second_name ∷ []) },
  (λ last. first_is_not_second (sym (same_Some second_name first_name (last.found.1 ∙ sym last.named)))),
  record { name = second_name; named = refl; found = second_named third_name second_name [] third_is_not_second },
  (λ last. third_is_not_second (same_Some third_name second_name (last.found.1 ∙ sym last.named))),
  record { name = first_name; named = refl; found = first_named first_name (second_name ∷ []) },
  (λ last. first_is_not_second (same_Some first_name second_name (last.found.1 ∙ sym last.named))),
  tt,
  refl,
  (λ e. omega (arith, e)),
  refl,
  (λ e. omega (arith, e)),
)
