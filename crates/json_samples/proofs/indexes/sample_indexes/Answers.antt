use Rattle.std.proofs.Common.{◌≡◌, ◌∙◌, List, [], ◌∷◌, ◌++◌, take, ap, refl, subst}
use Rattle.std.specs.Prelude.{codes}
use Rattle.binlog_frame.specs.Closing.{closed}
use Rattle.binlog_feed.specs.Changes.{RowChange}
use Rattle.binlog_feed.specs.Continues.{last_units}
use Rattle.binlog_feed.specs.Feeds.{feed}
use Rattle.binlog_units.specs.Laws.{last_end}
use Rattle.binlog_json.specs.Index.{no_places, filled, LendChanges}
use Rattle.json_samples.specs.Histories.{front, files}
use Rattle.json_samples.specs.Indexes.{every, transaction, grown, two_files, place, under, first_key, second_key}
use Rattle.json_samples.proofs.OnTypes.{on_types}
use Rattle.json_samples.proofs.OnValues.{on_values}
use Rattle.json_samples.proofs.OnLines.{on_lines}
use Rattle.json_samples.proofs.indexes.sample_indexes.Goals as goal

pub returns-clause-all_pass : goal.returns-clause-all_pass
returns-clause-all_pass c = (λ change. refl, λ passes all. all _)

pub returns-clause-holds_places : goal.returns-clause-holds_places
unfolding on_types on_values on_lines
returns-clause-holds_places c = (
  λ places holds.
      (holds (codes "s") (codes "t") first_key, holds (codes "s") (codes "t") second_key, holds (codes "s") (codes "t") _, holds (codes "s") (codes "u") first_key, holds (codes "u") (codes "t") first_key),
  λ holds. let e = holds (codes "s") (codes "t") first_key in cc,
)

pub returns-clause-lends_one : goal.returns-clause-lends_one
returns-clause-lends_one c one list lends = (lends.fit.0, lends.lent)

pub returns-clause-held_places : goal.returns-clause-held_places
unfolding on_types on_values on_lines
returns-clause-held_places c law passes all = law files passes all (codes "s") (codes "t") first_key

pub returns-clause-lent_change : goal.returns-clause-lent_change
unfolding on_types on_values on_lines
returns-clause-lent_change c law first second e =
    let lends = law files every (refl, tt) (codes "s") (codes "t") first_key in
    subst (λ (list : List RowChange). LendChanges files (place 126 1 ∷ []) list) (ap (λ (list : List RowChange). take 1 list) e) lends

-- an index of the grown file that is filled anew
grown_first : under first_key (filled no_places (feed grown every)) ≡ place 126 1 ∷ place 377 1 ∷ []
unfolding on_types on_values on_lines
grown_first = refl

grown_second : under second_key (filled no_places (feed grown every)) ≡ place 126 2 ∷ place 377 2 ∷ []
unfolding on_types on_values on_lines
grown_second = refl

-- the grown file's bytes are those of before and then those of a transaction
same_bytes : closed (front ++ transaction ++ transaction) ≡ take (last_end 0 (last_units files)) (closed (front ++ transaction)) ++ transaction
unfolding on_types on_values on_lines
same_bytes = refl

same_bytes_behind : closed (front ++ transaction ++ transaction) ≡ take (last_end 0 (last_units two_files)) (closed (front ++ transaction)) ++ transaction
unfolding on_types on_values on_lines
same_bytes_behind = refl

pub returns-clause-grown_index : goal.returns-clause-grown_index
returns-clause-grown_index c law before after member e =
    law grown files every before after member (refl, tt) (refl, tt)
    (record {
      gone = [];
      kept = [];
      last = _;
      kept_now = [];
      last_now = _;
      behind = transaction;
      further = [];
      earlier_is = refl;
      later_is = refl;
      same_kept = refl;
      same_name = refl;
      same_profile = refl;
      same_bytes = same_bytes;
      new_names = tt;
    })
    refl e (codes "s") (codes "t") first_key ∙ grown_first

pub returns-clause-kept_index : goal.returns-clause-kept_index
returns-clause-kept_index c law before after member e there =
    law grown two_files every before after member (refl, (refl, tt)) (refl, tt)
    (record {
      gone = _ ∷ [];
      kept = [];
      last = _;
      kept_now = [];
      last_now = _;
      behind = transaction;
      further = [];
      earlier_is = refl;
      later_is = refl;
      same_kept = refl;
      same_name = refl;
      same_profile = refl;
      same_bytes = same_bytes_behind;
      new_names = tt;
    })
    e there (codes "s") (codes "t") second_key ∙ grown_second
