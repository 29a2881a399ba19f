use Rattle.std.proofs.Common.{[], refl, sym, ap, ◌∙◌, arith, inl, inr, length, true≢false}
use Rattle.std.specs.Prelude.{codes, slice_index}
use Rattle.binlog_frame.specs.Logs.{is_file_name}
use Rattle.binlog_samples.proofs.Paths.{no_slash, ends_so, is_whole, first_of}
use Rattle.binlog_samples.proofs.sources.sample_paths.Goals as goal

pub returns-clause-last_parts : goal.returns-clause-last_parts
returns-clause-last_parts c = (
  (no_slash (codes "a") refl, inl refl),
  (no_slash (codes "a.1") refl, inr (codes "logs", refl)),
  (no_slash (codes "y") refl, inr (codes "/x", refl)),
  (no_slash [] refl, inr (codes "logs", refl)),
)

pub returns-clause-no_last_parts : goal.returns-clause-no_last_parts
returns-clause-no_last_parts c = (
  (λ part. part.0 1 (omega arith) refl),
  (λ part. let first = ap (λ name. slice_index name 0) (ends_so (codes "b/a") (codes "b") part) in omega (arith, first)),
  (λ part. let n = ap length (is_whole (codes "ba") (codes "a") refl part) in omega (arith, n)),
  (λ part. let n = ap length (is_whole (codes "a") [] refl part) in omega (arith, n)),
)

pub returns-clause-paths_refused : goal.returns-clause-paths_refused
returns-clause-paths_refused c = (
  (refl, codes "a", (no_slash (codes "a") refl, inl refl), refl),
  (refl, [], (no_slash [] refl, inl refl), refl),
  (refl, [], (no_slash [] refl, inr (codes "a", refl)), refl),
  (omega arith, (refl, [], (no_slash [] refl, inl refl), refl), first_of _ (codes "a", (no_slash (codes "a") refl, inl refl), refl)),
)

pub returns-clause-paths_not_refused : goal.returns-clause-paths_not_refused
returns-clause-paths_not_refused c = (
  (λ refused. true≢false (ap is_file_name (is_whole (codes "a") refused.1 refl refused.2) ∙ refused.3)),
  (λ refused. true≢false (sym refused.3 ∙ sym (ap is_file_name (is_whole [] refused.1 refl refused.2)))),
  (λ refused. let number = refused.0 in omega (arith, number)),
  (λ refused. let number = refused.0 in omega (arith, number)),
  (λ refused. let first = refused.2 0 (omega arith) in true≢false (sym first.2 ∙ sym (ap is_file_name (is_whole [] first.0 refl first.1)))),
)
