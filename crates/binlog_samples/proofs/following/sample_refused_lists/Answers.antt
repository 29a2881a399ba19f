use Rattle.std.proofs.Common.{rules, ◌≡◌, ◌<◌, ◌≤◌, ℕ, zero, suc, List, [], ◌∷◌, ◌++◌, length, length-append, take, Some, refl, sym, ap, ◌∙◌, subst, inl, inr, arith}
use Rattle.std.specs.Prelude.{◌≢◌, slice_get}
use Rattle.binlog_frame.specs.Closing.{closed}
use Rattle.binlog_frame.specs.Logs.{Contents, content}
use Rattle.binlog_frame.specs.Splitting.{EndsInFront}
use Rattle.binlog_feed.specs.Continues.{Continues}
use Rattle.binlog_feed.specs.Growing.{IsUnfound}
use Rattle.binlog_feed.specs.declared.fault.GoOnFault.TheVariants.{FileShorter}
use Rattle.binlog_units.specs.Parsing.{LogFile}
use Rattle.binlog_units.specs.Places.{begin_file}
use Rattle.binlogfeed.specs.Looks.{files_at}
use Rattle.binlog_samples.specs.Statuses.{two_names}
use Rattle.binlog_samples.specs.Tokens.{bad_before, first_name, second_name, first_file, second_file, third_file}
use Rattle.binlog_samples.specs.Files.{rotate_event}
use Rattle.binlog_samples.specs.Following.{back_files, both_files, cut_look, last_files, look_at, one_file}
use Rattle.binlog_samples.specs.FollowEnds.{changed_look}
use Rattle.binlogfeed.proofs.NamesGone.{never_back, same_last}
use Rattle.binlog_samples.proofs.GrownFiles.{not_short as not_shorter}
use Rattle.binlog_samples.proofs.OnBytes.{on_bytes}
use Rattle.binlog_samples.proofs.Paths.{first_of}
use Rattle.binlog_samples.proofs.following.sample_refused_lists.Goals as goal

-- the two names differ
names_differ : slice_get two_names 0 ≢ slice_get two_names 1
names_differ e = search rules

both_differ : (i j : ℕ) → i < j → j < 2 → slice_get two_names i ≢ slice_get two_names j
both_differ zero zero lt below e = omega (arith, lt)
both_differ zero (suc zero) lt below e = names_differ e
both_differ zero (suc (suc j)) lt below e = omega (arith, below)
both_differ (suc i) zero lt below e = omega (arith, lt)
both_differ (suc i) (suc zero) lt below e = omega (arith, lt)
both_differ (suc i) (suc (suc j)) lt below e = omega (arith, below)

-- a list of the second file has not the first one's name
none_is_first : (number : ℕ) (name : List ℕ) → slice_get (second_name ∷ []) number ≡ Some name → Some first_name ≡ Some name → ⊥
none_is_first zero name there here = names_differ (here ∙ sym there)
none_is_first (suc number) name there here = cc

-- so it is in the other order
back_differ : (i j : ℕ) → i < j → j < 2 → slice_get (second_name ∷ first_name ∷ []) i ≢ slice_get (second_name ∷ first_name ∷ []) j
back_differ zero zero lt below e = omega (arith, lt)
back_differ zero (suc zero) lt below e = names_differ (sym e)
back_differ zero (suc (suc j)) lt below e = omega (arith, below)
back_differ (suc i) j lt below e = omega (arith, lt, below)

pub returns-clause-lists_refused : goal.returns-clause-lists_refused
returns-clause-lists_refused c = (
  record { name = second_name; named = refl; absent = first_of (λ i. slice_get (first_name ∷ []) i ≢ Some second_name) names_differ },
  (λ gone. gone.absent 0 (omega arith) gone.named),
  (λ gone. gone.absent 1 (omega arith) gone.named),
  (omega arith, (0, omega arith, refl), λ i j lt below e. omega (arith, lt, below)),
  (λ duplicate. let below = duplicate.1.1 in omega (arith, below)),
  (λ duplicate. first_of (λ i. slice_get two_names i ≢ slice_get two_names 1) names_differ duplicate.1.0 duplicate.1.1 duplicate.1.2),
  inr (record {
    file = 0;
    last = record { name = second_name; named = refl; found = (omega arith, refl, λ i below e. omega (arith, below)) };
    behind = omega arith;
    name = first_name;
    here = refl;
    there = inl (0, refl);
    first = λ number other below above here had. absurd (omega (arith, below, above));
  }),
  (λ told.
      elim told [
        | inl again ↦ none_is_first again.2.earlier again.2.name again.2.there again.2.here
        | inr back ↦ back.there
      ]),
  (λ told. elim told [ inl again ↦ (let below = again.2.behind in omega (arith, below)) | inr back ↦ (let below = back.behind in omega (arith, below)) ]),
  (λ told.
      elim told [
        | inl again ↦ none_is_first again.2.earlier again.2.name again.2.there again.2.here
        | inr back ↦
            (let same = same_last (second_name ∷ []) (second_name ∷ first_name ∷ first_name ∷ []) second_name 0 back.file refl (omega arith, refl, λ i below e. omega (arith, below)) back.last in
            let has = back.first 1 first_name (omega (arith, same)) (omega arith) refl (inl (0, refl)) in none_is_first has.0 first_name has.1 refl)
      ]),
  (λ never. never),
)

-- ---- looks that continue, and one that doesn't

both_continue : Continues both_files one_file
unfolding on_bytes
both_continue =
    record {
      gone = [];
      kept = [];
      last = first_file;
      kept_now = [];
      last_now = first_file;
      behind = rotate_event second_name;
      further = second_file [] ∷ [];
      earlier_is = refl;
      later_is = refl;
      same_kept = refl;
      same_name = refl;
      same_profile = refl;
      same_bytes = refl;
      new_names = (refl, tt);
    }

last_continue : Continues last_files both_files
unfolding on_bytes
last_continue =
    record {
      gone = first_file ∷ [];
      kept = [];
      last = second_file [];
      kept_now = [];
      last_now = second_file [];
      behind = [];
      further = third_file ∷ [];
      earlier_is = refl;
      later_is = refl;
      same_kept = refl;
      same_name = refl;
      same_profile = refl;
      same_bytes = refl;
      new_names = (refl, tt);
    }

-- of one file the last one is that
last_of_one : (file last : LogFile) (gone kept : List LogFile) → file ∷ [] ≡ gone ++ (kept ++ last ∷ []) → last ≡ file
last_of_one file last [] [] e = cc
last_of_one file last [] (first ∷ kept) e = let n = ap length e in absurd (omega (arith, n, length-append kept (last ∷ [])))
last_of_one file last (first ∷ gone) kept e =
    let n = ap length e in absurd (omega (arith, n, length-append gone (kept ++ last ∷ []), length-append kept (last ∷ [])))

first_of_one : (file now : LogFile) (kept further : List LogFile) → file ∷ [] ≡ kept ++ now ∷ further → now ≡ file
first_of_one file now [] further e = cc
first_of_one file now (first ∷ kept) further e = let n = ap length e in absurd (omega (arith, n, length-append kept (now ∷ further)))

cut_file : LogFile
cut_file = record first_file { bytes = take 370 first_file.bytes }

-- the transaction of the first file ends at 371
cut_stops : Continues (files_at (cut_look 370)) one_file → ⊥
unfolding on_bytes cut_file
cut_stops c =
    let last : c.last ≡ first_file = last_of_one first_file c.last c.gone c.kept c.earlier_is in
    let now : c.last_now ≡ cut_file = first_of_one cut_file c.last_now c.kept_now c.further c.later_is in
    let bytes : closed c.last_now.bytes ≡ take 371 (closed c.last.bytes) ++ c.behind = c.same_bytes in
    let some = subst (λ (file : LogFile). closed c.last_now.bytes ≡ take 371 (closed file.bytes) ++ c.behind) last bytes in
    let both = subst (λ (file : LogFile). closed file.bytes ≡ take 371 (closed first_file.bytes) ++ c.behind) now some in
    let n : 370 ≡ length (take 371 (closed first_file.bytes) ++ c.behind) = ap length both in
    let front : length (take 371 (closed first_file.bytes)) ≡ 371 = refl in
    omega (arith, n, front, length-append (take 371 (closed first_file.bytes)) c.behind)

pub returns-clause-looks_continue : goal.returns-clause-looks_continue
unfolding last_continue
returns-clause-looks_continue c = (
  (last_continue, (both_continue, tt, tt), ((refl, tt), tt)),
  (λ each. cut_stops each.0),
  (λ each. cut_stops each.1.0),
  λ each. never_back (look_at (second_file [] ∷ [])) (look_at back_files) (look_at both_files ∷ []) 1 each.0 each.2 back_differ
      (record { file = 0; last = record { name = second_name; named = refl; found = (omega arith, refl, λ i below e. omega (arith, below)) }; behind = omega arith; name = first_name; here = refl; there = inl (0, refl); first = λ number other below above here had. absurd (omega (arith, below, above)) }),
)

-- ---- files that are shorter

is_zero : (n : ℕ) → (0 < n → ⊥) → n ≡ 0
is_zero zero none = refl
is_zero (suc n) none = absurd (none (omega arith))

-- a list whose first file has the name, as many bytes, and something in place of its first event
not_short : (names : List (List ℕ)) (contents : Contents) → slice_get names 0 ≡ Some first_name → 371 ≤ length (content contents 0) → (EndsInFront (content contents 0) → ⊥)
    → IsUnfound (look_at one_file).names (look_at one_file).contents names contents (begin_file 0) FileShorter → ⊥
unfolding on_bytes
not_short names contents first long some short =
    let there : short.0 ≡ 0 = is_zero short.0 (λ (lt : 0 < short.0). short.1.found.2 0 lt (first ∙ short.1.named)) in
    elim short.2 [
      | inl less ↦
          let below : length (content contents 0) < 371 = subst (λ (n : ℕ). length (content contents n) < 371) there less in
          omega (arith, below, long)
      | inr (risen, ends) ↦ some (subst (λ (n : ℕ). EndsInFront (content contents n)) there ends)
    ]

-- nor is a second file, whatever stands in front of it
second_is_long : IsUnfound (look_at bad_before).names (look_at bad_before).contents (look_at bad_before).names (look_at bad_before).contents (begin_file 1) FileShorter → ⊥
unfolding on_bytes
second_is_long short =
    let long : 371 ≤ 371 = omega arith in
    not_shorter (look_at bad_before).names (look_at bad_before).contents (look_at bad_before).names (look_at bad_before).contents (begin_file 1) second_name 1 refl (search rules) long (λ ends. let none = ends.0 in cc) short

pub returns-clause-refused_as_shorter : goal.returns-clause-refused_as_shorter
unfolding on_bytes
returns-clause-refused_as_shorter c chosen = (
  (λ honest continues behind some. (0, record { name = first_name; named = refl; found = search rules }, inl (omega arith))),
  (λ refuses. not_short (cut_look 371).names (cut_look 371).contents refl (omega arith) (λ ends. let none = ends.0 in cc) (refuses (refl, (refl, tt)) tt tt (omega arith))),
  (λ refuses. not_short (look_at both_files).names (look_at both_files).contents refl (omega arith) (λ ends. let none = ends.0 in cc) (refuses (refl, (refl, tt)) tt tt (omega arith))),
  (λ refuses. not_short changed_look.names changed_look.contents refl (omega arith) (λ ends. ends.1) (refuses (refl, (refl, tt)) tt tt (omega arith))),
  (λ honest continues behind some. (record { name = first_name; named = refl; found = search rules }, omega arith, (omega arith, (refl, refl)))),
  (λ refuses. let none = (refuses (refl, (refl, tt)) tt tt (omega arith)).2.1.0 in cc),
  (λ refuses. let told = refuses (refl, (refl, tt)) tt tt (omega arith) in cc),
  (λ refuses. second_is_long (refuses (refl, (refl, tt)) tt tt (omega arith))),
)

pub returns-clause-refused_for_reading : goal.returns-clause-refused_for_reading
returns-clause-refused_for_reading c chosen = (
  (λ honest continues behind differ. tt),
  (λ honest continues behind differ. tt),
  (λ refuses. refuses (refl, (refl, tt)) (both_continue, tt, tt) tt both_differ),
  (λ refuses. refuses (refl, (refl, tt)) (both_continue, tt, tt) tt both_differ),
  (λ refuses. refuses (refl, (refl, tt)) (both_continue, tt, tt) tt both_differ),
  (λ honest continues behind differ. absurd (cut_stops continues.0)),
)
