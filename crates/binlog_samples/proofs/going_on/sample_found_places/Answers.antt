use Rattle.std.proofs.Common.{◌≡◌, ◌≤◌, ◌<◌, ◌∙◌, ℕ, List, [], ◌∷◌, ◌++◌, drop, length, Some, None, refl, sym, ap, subst, inl, inr, arith}
use Rattle.std.specs.Prelude.{◌≢◌}
use Rattle.std.proofs.lemmas.Option.{same_Some}
use Rattle.binlog_frame.specs.Cutting.{Event, Reading, after}
use Rattle.binlog_frame.specs.Frames.{place_of}
use Rattle.binlog_frame.specs.Logs.{content}
use Rattle.binlog_frame.specs.Reading.{event_at, reading_from, reading_of, then_reads}
use Rattle.binlog_frame.specs.Splitting.{SplitsFile, then_all}
use Rattle.binlog_frame.proofs.Splitting.{splits_rest}
use Rattle.binlog_feed.specs.Growing.{IsBehindAt, end_from_mark}
use Rattle.binlog_units.specs.Parsing.{LogFile}
use Rattle.binlog_units.specs.Places.{begin_file}
use Rattle.binlog_units.specs.declared.place.Place.{Place}
use Rattle.binlog_samples.specs.Files.{alone, front}
use Rattle.binlog_samples.specs.Tokens.{first_name, second_name, third_name, first_file}
use Rattle.binlog_samples.specs.GoingOn.{Found, behind, cut_to, held_by, names_in, one_followed, second_end, two_followed, with_other_byte}
use Rattle.binlog_samples.proofs.GrownFiles.{first_named, second_named, not_alone, numbers_differ}
use Rattle.binlog_samples.proofs.OnBytes.{on_bytes}
use Rattle.binlog_samples.proofs.going_on.sample_found_places.Goals as goal

first_is_not_second : first_name ≢ second_name
first_is_not_second = numbers_differ first_name second_name (λ e. omega (arith, e))

third_is_not_first : third_name ≢ first_name
third_is_not_first = numbers_differ third_name first_name (λ e. omega (arith, e))

-- ---- what stands behind the transaction

-- A file's reading falls in two behind any event but the first one.
splits : (bytes : List ℕ) (first : Event) (checksum place at : ℕ) → reading_of bytes ≡ then_reads first (reading_from checksum place (drop place bytes)) → (after first ≡ at → ⊥)
    → (before later : List Event) (event : Event) → (reading_of bytes).events ≡ before ++ event ∷ later → after event ≡ at
    → reading_of bytes ≡ then_all (before ++ event ∷ []) (reading_from checksum at (drop at bytes))
splits bytes first checksum place at reads other [] later event e f =
    let lists : first ∷ (reading_from checksum place (drop place bytes)).events ≡ event ∷ later = sym (ap (λ (r : Reading). r.events) reads) ∙ e in
    let same : first ≡ event = cc in
    absurd (other (ap after same ∙ f))
splits bytes first checksum place at reads other (one ∷ before) later event e f =
    let lists : first ∷ (reading_from checksum place (drop place bytes)).events ≡ one ∷ (before ++ event ∷ later) = sym (ap (λ (r : Reading). r.events) reads) ∙ e in
    let same : first ≡ one = cc in
    let rest : (reading_from checksum place (drop place bytes)).events ≡ before ++ event ∷ later = cc in
    reads ∙ ap (λ (x : Event). then_reads x (reading_from checksum place (drop place bytes))) same
    ∙ ap (then_reads one) (splits_rest bytes checksum place before later event rest ∙ ap (λ (k : ℕ). then_all (before ++ event ∷ []) (reading_from checksum k (drop k bytes))) f)

-- the format description ends at 126
splits_first : SplitsFile first_file.bytes (behind 371).frames
unfolding on_bytes
splits_first = splits first_file.bytes (event_at 0 4 (drop 4 first_file.bytes)) 0 126 371 refl (λ e. omega (arith, e))

-- nothing was read of a file
never_before : (bytes : List ℕ) → 0 < 0 → (reading_of bytes).events ≢ []
never_before bytes some none = omega (arith, some)

pub returns-clause-place_found : goal.returns-clause-place_found
unfolding on_bytes
returns-clause-place_found c = (
  record {
    name = first_name;
    some = omega arith;
    named = refl;
    found = first_named first_name (second_name ∷ []);
    whole = refl;
    behind = inr (omega arith, refl, refl, splits_first);
    reaches = omega arith;
    has_event = λ some none. cc;
  },
  record { name = first_name; some = omega arith; named = refl; found = first_named first_name (second_name ∷ []); whole = refl; behind = inl (refl, refl); reaches = omega arith; has_event = never_before first_file.bytes },
  record { name = first_name; some = omega arith; named = refl; found = second_named third_name first_name [] third_is_not_first; whole = refl; behind = inl (refl, refl); reaches = omega arith; has_event = never_before first_file.bytes },
)

stands_at : (bytes : List ℕ) (file at : ℕ) (place : Place) → IsBehindAt bytes file at place → place_of place.frames ≡ at
stands_at bytes file at place (inl (none, is)) = ap (λ (p : Place). place_of p.frames) is ∙ sym none
stands_at bytes file at place (inr there) = there.2

-- the place is that of the end of the last whole unit
found_at : (files later : List LogFile) (place : Place) → Found files later place → place_of place.frames ≡ end_from_mark (names_in files) (held_by files) (begin_file 0)
found_at files later place found =
    stands_at (content (held_by later) place.file) place.file (end_from_mark (names_in files) (held_by files) (begin_file 0)) place found.behind

pub returns-clause-other_places : goal.returns-clause-other_places
unfolding on_bytes
returns-clause-other_places c = (
  (λ found. let at : 0 ≡ 371 = found_at one_followed two_followed (begin_file 0) found in omega (arith, at)),
  (λ found. let at : 370 ≡ 371 = found_at one_followed two_followed (behind 370) found in omega (arith, at)),
  (λ found. let at : 344 ≡ 371 = found_at one_followed two_followed (behind 344) found in omega (arith, at)),
  (λ found. let at : 153 ≡ 0 = found_at (alone front) two_followed (behind 153) found in omega (arith, at)),
  (λ found. first_is_not_second (sym (same_Some second_name first_name (found.found.1 ∙ sym found.named)))),
  (λ found. third_is_not_first (same_Some third_name first_name (found.found.1 ∙ sym found.named))),
  (λ place found.
      let lt : place.file < 1 = found.found.0 in
      let there : place.file ≡ 0 = omega (arith, lt) in
      let reaches : 371 ≤ length (content (held_by (cut_to 370 first_file ∷ [])) 0) = subst (λ (n : ℕ). 371 ≤ length (content (held_by (cut_to 370 first_file ∷ [])) n)) there found.reaches in
      let bytes : length (content (held_by (cut_to 370 first_file ∷ [])) 0) ≡ 370 = refl in
      omega (arith, reaches, bytes)),
  (λ place found.
      let lt : place.file < 1 = found.found.0 in
      let there : place.file ≡ 0 = omega (arith, lt) in
      let has = subst (λ (n : ℕ). 0 < 371 → (reading_of (content (held_by (with_other_byte first_file ∷ [])) n)).events ≢ []) there found.has_event in
      has (omega arith) refl),
  (λ place found. not_alone third_name found.name place.file (λ e. third_is_not_first (e ∙ sym (same_Some first_name found.name found.named))) found.found),
  (λ place found. let end : Some second_end ≡ None = found.whole in cc),
)
