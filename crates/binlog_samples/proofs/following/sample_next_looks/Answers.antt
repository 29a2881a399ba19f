use Rattle.std.proofs.Common.{rules, ◌≡◌, ◌+◌, ◌∙◌, [], ◌∷◌, ◌++◌, length, length-append, Some, None, refl, ap, inl, arith}
use Rattle.binlog_feed.specs.Feeds.{feed}
use Rattle.binlog_feed.specs.FeedView.{passes_by}
use Rattle.binlog_units.specs.Places.{begin_file}
use Rattle.binlog_feed.specs.Contents.{content_fault}
use Rattle.binlogfeed.specs.Lines.{change_lines}
use Rattle.binlogfeed.specs.Looks.{look_text}
use Rattle.binlog_samples.specs.FollowEnds.{bad_row}
use Rattle.binlog_samples.specs.Following.{one_file}
use Rattle.binlog_samples.specs.Tokens.{first_name}
use Rattle.binlog_samples.proofs.NextLooks.{cut_short, one_differs, two_differ, two_texts}
use Rattle.binlog_samples.proofs.OnBytes.{on_bytes}
use Rattle.binlog_samples.proofs.following.sample_next_looks.Goals as goal

pub returns-clause-looks_differ : goal.returns-clause-looks_differ
returns-clause-looks_differ c = (
  tt,
  (two_differ, (one_differs first_name, tt)),
  (λ differ. differ.0 0 2 (omega arith) (omega arith) refl),
  (λ differ. differ.1.0 0 2 (omega arith) (omega arith) refl),
)

pub returns-clause-next_is_written : goal.returns-clause-next_is_written
returns-clause-next_is_written c = (([], refl, refl), (99 ∷ [], refl, refl))

pub returns-clause-next_is_not_written : goal.returns-clause-next_is_not_written
returns-clause-next_is_not_written c = (
  (λ next. let all = ap length next.1 in omega (arith, all)),
  (λ next. let all = ap length next.1 in omega (arith, all)),
  (λ next. let all = ap length next.1 in omega (arith, all)),
  (λ next. let none : Some bad_row ≡ None = next.2 in cc),
)

pub returns-clause-both_are_written : goal.returns-clause-both_are_written
unfolding on_bytes content_fault
returns-clause-both_are_written c style chosen = record {
  front = [];
  text = 10 ∷ [];
  is_text = record { first = []; part = []; earlier = []; each = ((_, inl (refl, refl), refl), refl); once = λ front e. e; front_is = refl; text_is = refl };
  coming = record { changes = feed one_file (passes_by chosen); end = None };
  behind = record {
    place = begin_file 0;
    behind = record { name = first_name; some = search rules; named = refl; found = search rules; whole = refl; behind = inl (refl, refl); reaches = search rules; has_event = λ some none. omega (arith, some) };
    comes = refl;
  };
  writes = (refl, refl);
}

pub returns-clause-both_are_not_written : goal.returns-clause-both_are_not_written
returns-clause-both_are_not_written c style chosen ended = (
  (λ on.
      let next = look_text style on.coming.changes in
      let lines = change_lines style on.coming.changes in
      let two = two_texts on.front on.text (change_lines style on.is_text.part) next lines on.is_text.text_is refl in
      let all = ap length on.writes.1 ∙ length-append ((on.front ++ on.text) ++ next) on.writes.0 in
      omega (arith, two, all)),
  (λ on.
      let next = look_text style on.coming.changes in
      let lines = change_lines style on.coming.changes in
      let two = two_texts (10 ∷ on.front) on.text (change_lines style on.is_text.part) next lines on.is_text.text_is refl in
      let all : 2 ≡ length (((10 ∷ on.front) ++ on.text) ++ next) = ap length on.writes.0 in
      omega (arith, two, all)),
  (λ on. cut_short (passes_by chosen) on.coming on.behind),
)
