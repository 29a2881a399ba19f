use Rattle.std.proofs.Common.{rules, Bool, ◌≡◌, ◌<◌, ℕ, zero, suc, List, [], ◌∷◌, ◌++◌, length, length-append, map, take, None, Some, refl, sym, ap, ◌∙◌, subst, inl, inr, arith}
use Rattle.std.proofs.lemmas.Option.{slice_get_within}
use Rattle.std.specs.Prelude.{drop, slice_get, unwrap_or}
use Rattle.binlog_frame.specs.Cutting.{Event, Reading}
use Rattle.binlog_frame.specs.Frames.{place_of, to_come}
use Rattle.binlog_frame.specs.Logs.{content}
use Rattle.binlog_frame.specs.Reading.{event_at, reading_of}
use Rattle.binlog_frame.specs.Splitting.{SplitsFile, then_all}
use Rattle.binlog_feed.specs.ChangeMachine.{RemainingChanges}
use Rattle.binlog_feed.specs.Contents.{content_fault}
use Rattle.binlog_feed.specs.FeedView.{filtered, passes_by}
use Rattle.binlog_feed.specs.Growing.{AreNewBehind, IsBehindAt, IsLastByName, last_file}
use Rattle.binlog_units.specs.Parsing.{terms_of}
use Rattle.binlog_units.specs.Places.{begin_file}
use Rattle.binlog_units.specs.declared.place.Place.{Place}
use Rattle.binlog_units.specs.declared.unit_state.UnitState.TheVariants.{Nothing}
use Rattle.binlogfeed.specs.Looks.{HasLast, HasLastSince}
use Rattle.binlogfeed.specs.Lines.{change_lines}
use Rattle.binlog_samples.specs.Changes.{brief}
use Rattle.binlog_samples.specs.Statuses.{two_names}
use Rattle.binlog_samples.specs.Tokens.{first_file, first_name, second_change, second_file, second_name, third_file, third_name}
use Rattle.binlog_samples.specs.Following.{all, both_files, given, last_files, look_at, one_file}
use Rattle.binlog_samples.proofs.NextLooks.{cut_short}
use Rattle.binlog_samples.proofs.OnBytes.{on_bytes}
use Rattle.binlog_samples.proofs.following.sample_looks.Goals as goal
use Rattle.binlog_feed.specs.ChangeReader.{nothing_brought, remaining_changes_at, changes_of_files, then_file_changes}

pub returns-clause-parts_of_looks : goal.returns-clause-parts_of_looks
unfolding on_bytes
returns-clause-parts_of_looks c = (
  (
    drop 1 (given last_files),
    drop 1 (given both_files) ∷ given one_file ∷ [],
    refl,
    refl,
    (drop 1 (given both_files), given one_file ∷ [], refl, refl, ((_, inl (refl, refl), refl), refl)),
  ),
  refl,
  refl,
  refl,
)

pub returns-clause-begins_at_end : goal.returns-clause-begins_at_end
unfolding on_bytes
returns-clause-begins_at_end c = inr (refl, refl, λ whole. record { joins = refl; end = refl; last = refl })

-- a text with an empty line behind it is none
some_text : (front text more lines : List ℕ) → text ≡ lines ++ 10 ∷ [] → [] ≡ (front ++ text) ++ more → ⊥
some_text front text more lines is none =
    let all = ap length none ∙ length-append (front ++ text) more in
    let both = length-append front text in
    let behind = ap length is ∙ length-append lines (10 ∷ []) in
    omega (arith, all, both, behind)

pub returns-clause-looks_are_written : goal.returns-clause-looks_are_written
returns-clause-looks_are_written c style chosen wrote =
    let (front, text, more, is_text, ends, written) = wrote.0 (refl, tt) tt tt in
    some_text ([] ++ front) text more (change_lines style is_text.part) is_text.text_is written

-- no later file has the name
none_has : (names later : List (List ℕ)) (first last : List ℕ) → slice_get names (last_file names) ≡ Some last → later ≡ first ∷ [] → (first ≡ last → ⊥) → HasLast names later → ⊥
none_has names later first last named is differ h =
    let there = subst (λ (l : List (List ℕ)). (h.0 < length l) × (slice_get l h.0 ≡ Some h.1.name)) is (h.1.found.0, h.1.found.1) in
    let begins : h.0 ≡ 0 = omega (arith, there.0) in
    let same : Some first ≡ Some h.1.name = subst (λ (n : ℕ). slice_get (first ∷ []) n ≡ Some h.1.name) begins there.1 in
    let both : Some first ≡ Some last = same ∙ sym h.1.named ∙ named in
    let equal : first ≡ last = cc in
    differ equal

-- the first file stands behind the last one again
out_of_order : (file : ℕ) → IsLastByName two_names (second_name ∷ first_name ∷ []) file → AreNewBehind two_names (second_name ∷ first_name ∷ []) file → ⊥
out_of_order zero last new = new 1 first_name (omega arith) refl 0 (omega arith) refl
out_of_order (suc zero) last new =
    let same : Some first_name ≡ Some second_name = last.found.1 ∙ sym last.named in
    search rules
out_of_order (suc (suc n)) last new = absurd (omega (arith, last.found.0))

pub returns-clause-last_files_stay : goal.returns-clause-last_files_stay
returns-clause-last_files_stay c = (
  (1, record { name = second_name; named = refl; found = search rules }, λ number name below e i within. absurd (omega (arith, below, slice_get_within (third_name ∷ second_name ∷ []) number name e))),
  none_has two_names (first_name ∷ []) first_name second_name refl refl (λ e. search rules),
  (λ h. out_of_order h.0 h.1 h.2),
  λ style chosen kept. let h = kept.0.there (search rules) in none_has (first_name ∷ []) (third_name ∷ []) third_name first_name refl refl (λ e. search rules) (h.0, h.1, h.2),
)

-- behind the second file none stands
last_of_two : (number : ℕ) (name : List ℕ) → 1 < number → slice_get two_names number ≡ Some name → ⊥
last_of_two number name below e = omega (arith, below, slice_get_within two_names number name e)

back_again : HasLastSince (second_name ∷ []) (look_at both_files ∷ []) (second_name ∷ first_name ∷ []) → ⊥
back_again h = out_of_order h.0 (record { name = h.1.name; named = h.1.named; found = h.1.found }) h.3.0

pub returns-clause-files_come_back : goal.returns-clause-files_come_back
returns-clause-files_come_back c = (
  (
    1,
    record { name = second_name; named = refl; found = search rules },
    λ number name below e. absurd (last_of_two number name below e),
    (λ number name below e. absurd (last_of_two number name below e), tt),
  ),
  back_again,
  λ style chosen kept. back_again (kept.0.there (search rules)),
)

pub returns-clause-last_files_reach : goal.returns-clause-last_files_reach
unfolding on_bytes content_fault
returns-clause-last_files_reach c = (
  record {
    place = begin_file 0;
    behind = record { name = first_name; some = search rules; named = refl; found = search rules; whole = refl; behind = inl (refl, refl); reaches = search rules; has_event = λ some none. omega (arith, some) };
    comes = refl;
  },
  cut_short all,
  λ style chosen kept. let on = kept.0.goes_on (refl, (refl, tt)) tt tt (search rules) in cut_short (passes_by chosen) on.coming on.behind,
)

-- the file that another one stands in front of
at_one : (file : ℕ) → file < 3 → slice_get (third_name ∷ first_name ∷ second_name ∷ []) file ≡ Some first_name → file ≡ 1
at_one zero h e = let differ : third_name ≡ first_name → ⊥ = λ d. search rules in let same : third_name ≡ first_name = cc in absurd (differ same)
at_one (suc zero) h e = refl
at_one (suc (suc zero)) h e = let differ : second_name ≡ first_name → ⊥ = λ d. search rules in let same : second_name ≡ first_name = cc in absurd (differ same)
at_one (suc (suc (suc more))) h e = absurd (omega arith)

-- what stands behind events that were read
behind_all : (events : List Event) (one other : Reading) → then_all events one ≡ then_all events other → one ≡ other
behind_all [] one other e = e
behind_all (event ∷ events) one other e =
    let list : event ∷ (then_all events one).events ≡ event ∷ (then_all events other).events = ap (λ (r : Reading). r.events) e in
    let tail : (then_all events one).events ≡ (then_all events other).events = cc in
    behind_all events one other (λ i. record { events = tail i; place = (e i).place; ending = (e i).ending })

-- The seventh event of the file ends at 371.
comes_behind : (coming : RemainingChanges) (place : Place) → place ≡ record { file = 1; frames = place.frames; state = Nothing } → place_of place.frames ≡ 371 → SplitsFile first_file.bytes place.frames
    → coming ≡ filtered all (remaining_changes_at (look_at (third_file ∷ both_files)).names (look_at (third_file ∷ both_files)).contents place nothing_brought)
    → (map brief coming.changes ≡ second_change ∷ []) × (coming.end ≡ None)
unfolding on_bytes content_fault
comes_behind coming place is at splits comes =
    let reading = reading_of first_file.bytes in
    let seventh = unwrap_or (slice_get reading.events 6) (event_at 0 0 []) in
    let rest : Reading = record { events = drop 7 reading.events; place = reading.place; ending = reading.ending } in
    let come = behind_all (take 6 reading.events ++ seventh ∷ []) rest (to_come first_file.bytes place.frames) (splits (take 6 reading.events) (drop 7 reading.events) seventh refl (sym at)) in
    let from = subst (λ (p : Place). coming ≡ filtered all (remaining_changes_at (look_at (third_file ∷ both_files)).names (look_at (third_file ∷ both_files)).contents p nothing_brought)) is comes in
    let all_come = subst (λ (r : Reading). coming ≡ filtered all (then_file_changes 1 first_name (terms_of first_file (Some second_name)) Nothing nothing_brought r (changes_of_files 2 (second_file [] ∷ [])))) (sym come) from in
    (ap (λ (r : RemainingChanges). map brief r.changes) all_come, ap (λ (r : RemainingChanges). r.end) all_come)

pub returns-clause-comes_once : goal.returns-clause-comes_once
unfolding on_bytes
returns-clause-comes_once c coming h =
    let next = look_at (third_file ∷ both_files) in
    let named : Some first_name ≡ Some h.behind.name = h.behind.named in
    let name : h.behind.name ≡ first_name = cc in
    let one = at_one h.place.file h.behind.found.0 (subst (λ (n : List ℕ). slice_get next.names h.place.file ≡ Some n) name h.behind.found.1) in
    let behind : IsBehindAt first_file.bytes 1 371 h.place = subst (λ (file : ℕ). IsBehindAt (content next.contents file) file 371 h.place) one h.behind.behind in
    elim behind [ inl none ↦ absurd (omega (arith, none.0)) | inr there ↦ comes_behind coming h.place there.1 there.2 there.3 h.comes ]

pub returns-clause-looks_are_honest : goal.returns-clause-looks_are_honest
unfolding on_bytes
returns-clause-looks_are_honest c = ((refl, (refl, (refl, tt))), (λ h. let is : Bool.false ≡ Bool.true = h.0 in cc), (refl, λ none. refl))
