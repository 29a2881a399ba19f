use Rattle.std.proofs.Common.{rules, ◌≡◌, ◌≤◌, ◌∙◌, ℕ, List, [], ◌∷◌, ◌++◌, length, None, Some, refl, sym, ap, subst, inl, inr, arith}
use Rattle.std.specs.List.{filter}
use Rattle.std.specs.Prelude.{slice_get}
use Rattle.binlog_frame.specs.Logs.{content}
use Rattle.binlog_feed.specs.Changes.{RowChange}
use Rattle.binlog_feed.specs.ChangeMachine.{RemainingChanges}
use Rattle.binlog_feed.specs.Contents.{content_fault}
use Rattle.binlog_feed.specs.Feeds.{changes, feed}
use Rattle.binlog_feed.specs.FeedView.{passes_by}
use Rattle.binlog_feed.specs.Growing.{StandsBehind}
use Rattle.binlog_units.specs.Places.{begin_file}
use Rattle.binlog_units.specs.declared.place.Place.{Place}
use Rattle.binlog_feed.specs.declared.start.Start.TheVariants.{Beginning}
use Rattle.binlog_json.specs.declared.style.Style.{Style}
use Rattle.binlogfeed.specs.Looks.{ComesFromLast, IsFirstPiece, IsNextPiece, Look, files_at, look_text}
use Rattle.binlog_samples.specs.Following.{all, both_files, cut_look, look_at, one_file}
use Rattle.binlog_samples.specs.LastFiles.{passing_none}
use Rattle.binlog_samples.specs.Tokens.{first_name, third_file, third_name}
use Rattle.binlog_samples.proofs.OnBytes.{on_bytes}
use Rattle.binlog_samples.proofs.following.sample_turned_looks.Goals as goal
use Rattle.binlog_feed.specs.ChangeReader.{nothing_brought, remaining_changes_at}

none_passes : (list : List RowChange) → filter (passes_by passing_none) list ≡ []
none_passes [] = refl
none_passes (change ∷ list) = none_passes list

-- so a look has its empty line alone
bare_text : (style : Style) (list those : List RowChange) → those ≡ filter (passes_by passing_none) list → look_text style those ≡ 10 ∷ []
bare_text style list those e = ap (look_text style) (e ∙ none_passes list)

bare_first : (style : Style) (look : Look) (text : List ℕ) → IsFirstPiece style (passes_by passing_none) Beginning look text → text ≡ 10 ∷ []
bare_first style look text (remaining, inl begins, is, ends) = is ∙ bare_text style (changes (files_at look)) remaining.changes (ap (λ (r : RemainingChanges). r.changes) begins.1)
bare_first style look text (remaining, inr begins, is, ends) = absurd begins

bare_next : (style : Style) (before next : Look) (text : List ℕ) → IsNextPiece style (passes_by passing_none) before next text → text ≡ 10 ∷ []
bare_next style before next text (coming, from, is, ends) = is ∙ bare_text style (remaining_changes_at next.names next.contents from.place nothing_brought).changes coming.changes (ap (λ (r : RemainingChanges). r.changes) from.comes)

pub returns-clause-filter_stays : goal.returns-clause-filter_stays
returns-clause-filter_stays c style text kept =
    let on = kept.0.from_last refl in
    let oldest = look_at one_file in
    let before = look_at (third_file ∷ one_file) in
    let newest = look_at (third_file ∷ both_files) in
    let first = bare_first style oldest on.pieces.0 (on.pieces.3 refl) in
    let second = bare_next style oldest before on.pieces.1 (on.pieces.4 refl) in
    let third = bare_text style (remaining_changes_at newest.names newest.contents on.from_last.place nothing_brought).changes on.coming.changes (ap (λ (r : RemainingChanges). r.changes) on.from_last.comes) in
    let front : on.front ≡ 10 ∷ 10 ∷ [] = on.pieces.2 ∙ ap (λ (t : List ℕ). t ++ on.pieces.1) first ∙ ap (λ (t : List ℕ). (10 ∷ []) ++ t) second in
    on.writes.0 ∙ ap (λ (t : List ℕ). t ++ look_text style on.coming.changes) front ∙ ap (λ (t : List ℕ). (10 ∷ 10 ∷ []) ++ t) third

pub returns-clause-text_stands_behind : goal.returns-clause-text_stands_behind
unfolding on_bytes content_fault
returns-clause-text_stands_behind c style chosen = record {
  front = 10 ∷ [];
  pieces = λ honest. (_, inl (refl, refl), refl, refl);
  coming = record { changes = feed one_file (passes_by chosen); end = None };
  from_last = record {
    place = begin_file 0;
    last = λ some. record { name = first_name; named = refl; found = search rules };
    mark = begin_file 0;
    behind = λ honest next some.
        record { name = first_name; some = search rules; named = refl; found = search rules; whole = refl; behind = inl (refl, refl); reaches = search rules; has_event = λ some none. omega (arith, some) };
    comes = refl;
  };
  writes = (refl, refl);
}

-- no file has the name
other_file : (coming : RemainingChanges) → ComesFromLast all (look_at one_file) (look_at (third_file ∷ [])) coming → ⊥
other_file coming h =
    let last = h.last (search rules) in
    let first : h.place.file ≡ 0 = omega (arith, last.found.0) in
    let there : Some third_name ≡ Some last.name = subst (λ (n : ℕ). slice_get (third_name ∷ []) n ≡ Some last.name) first last.found.1 in
    let same : Some third_name ≡ Some first_name = there ∙ sym last.named in
    search rules

-- the file is cut before the end of its transaction
cut_file : (coming : RemainingChanges) (h : ComesFromLast all (look_at one_file) (cut_look 370) coming) → h.mark ≡ begin_file 0 → ⊥
unfolding on_bytes
cut_file coming h e =
    let stands = h.behind refl refl (search rules) in
    let behind = subst (λ (mark : Place). StandsBehind (look_at one_file).names (look_at one_file).contents (cut_look 370).names (cut_look 370).contents mark h.place) e stands in
    let first : h.place.file ≡ 0 = omega (arith, behind.found.0) in
    let reaches : 371 ≤ length (content (cut_look 370).contents 0) = subst (λ (n : ℕ). 371 ≤ length (content (cut_look 370).contents n)) first behind.reaches in
    let bytes : length (content (cut_look 370).contents 0) ≡ 370 = refl in
    omega (arith, reaches, bytes)

pub returns-clause-places_of_lasts : goal.returns-clause-places_of_lasts
returns-clause-places_of_lasts c = (other_file, cut_file)
