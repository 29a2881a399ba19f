use Rattle.std.proofs.Common.{List, [], ◌∷◌, subst, refl}
use Rattle.binlog_feed.specs.Changes.{RowChange}
use Rattle.binlog_feed.specs.Continues.{Distinct}
use Rattle.binlog_feed.specs.Listings.{EachPair}
use Rattle.binlog_feed.specs.Tokens.{token_of}
use Rattle.feed_laws.specs.Order.{ComesAfter}
use Rattle.binlog_samples.specs.Continuations.{cut_file, grown_file, other_end}
use Rattle.binlog_samples.specs.FileLaws.{every}
use Rattle.binlog_samples.specs.Tokens.{two_files}
use Rattle.binlog_samples.proofs.OnBytes.{on_bytes}
use Rattle.binlog_samples.proofs.laws.sample_laws.Goals as goal

both_differ : Distinct two_files
both_differ = (refl, (refl, tt))

pub returns-clause-stands_there : goal.returns-clause-stands_there
returns-clause-stands_there c law before after member e = let one = law two_files every before after member both_differ e in (one.stands, one.fits)

pub returns-clause-found_of_two : goal.returns-clause-found_of_two
returns-clause-found_of_two c law token = law two_files token both_differ

pub returns-clause-rises_in_two : goal.returns-clause-rises_in_two
returns-clause-rises_in_two c law first second e =
    (subst (λ (list : List RowChange). EachPair (λ one other. ComesAfter two_files (token_of one) (token_of other)) list) e (law two_files every both_differ)).0.0.place

pub returns-clause-resumes_grown : goal.returns-clause-resumes_grown
unfolding on_bytes
returns-clause-resumes_grown c law before after member e there =
    let resumes =
    law grown_file cut_file every before after member (refl, tt) (refl, tt)
    (record {
      gone = [];
      kept = [];
      last = _;
      kept_now = [];
      last_now = _;
      behind = other_end;
      further = [];
      earlier_is = refl;
      later_is = refl;
      same_kept = refl;
      same_name = refl;
      same_profile = refl;
      same_bytes = refl;
      new_names = tt;
    })
    e there in
    (resumes.fits, resumes.joins)

pub returns-clause-one_apart : goal.returns-clause-one_apart
returns-clause-one_apart c = (λ law file passes. law 3 (file ∷ []) passes, λ law file. law (file ∷ []))

pub returns-clause-two_apart : goal.returns-clause-two_apart
returns-clause-two_apart c = (λ law file other passes. law 3 (file ∷ other ∷ []) passes, λ law file other. law (file ∷ other ∷ []))
