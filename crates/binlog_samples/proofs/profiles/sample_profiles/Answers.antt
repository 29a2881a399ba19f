use Rattle.std.proofs.Common.{refl, ap, sym, ◌∙◌, List, ◌++◌, Bool, true, Result, Ok, Err}
use Rattle.std.proofs.lemmas.List.{append-nil}
use Rattle.binlog_profile.specs.declared.profile.Profile.TheVariants.{Strict}
use Rattle.binlog_table.specs.Map.{Map, is_strict}
use Rattle.binlog_table.specs.declared.fault.MapFault.{MapFault}
use Rattle.binlog_feed.specs.Changes.{RowChange}
use Rattle.binlog_feed.specs.Feeds.{changes}
use Rattle.feed_laws.specs.ProfileLaws.{read_by}
use Rattle.binlog_samples.specs.Changes.{first_map, one_row}
use Rattle.binlog_samples.specs.Files.{alone}
use Rattle.binlog_samples.specs.Profiles.{body_of, event_with, named_and_unnamed}
use Rattle.binlog_samples.proofs.OnBytes.{on_bytes}
use Rattle.binlog_samples.proofs.profiles.sample_profiles.Goals as goal

pub returns-clause-governs_named : goal.returns-clause-governs_named
unfolding on_bytes
returns-clause-governs_named c = (λ law. law 100 (event_with (body_of first_map)) refl, refl)

pub returns-clause-reads_named : goal.returns-clause-reads_named
unfolding on_bytes
returns-clause-reads_named c law map e = law (body_of first_map) map e (ap own (sym e))
  where
    own : Result Map MapFault → Bool
    own (Ok map) = is_strict map.sections
    own (Err fault) = true

pub returns-clause-agrees_on_both : goal.returns-clause-agrees_on_both
unfolding on_bytes
returns-clause-agrees_on_both c law =
    let both = law (alone named_and_unnamed) ((λ e. e, (λ e. e, (λ e. e, (λ e. e, (λ e. e, (λ e. e, (λ e. e, (λ e. e, (λ e. e, (λ e. e, (λ e. e, tt))))))))))), tt) in
    let one = law (alone one_row) ((λ e. e, (λ e. e, (λ e. e, (λ e. e, (λ e. e, (λ e. e, tt)))))), tt) in
    let ended = one.2 refl in
    ((both.0, both.1), one.1 ∙ ap (λ (l : List RowChange). changes (read_by Strict (alone one_row)) ++ l) ended.0 ∙ append-nil _, ended.1)
