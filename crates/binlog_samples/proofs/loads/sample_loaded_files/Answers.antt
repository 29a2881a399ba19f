use Rattle.std.proofs.Common.{refl, sym}
use Rattle.std.proofs.lemmas.Bool.{true≢false}
use Rattle.binlog_samples.proofs.OnBytes.{on_bytes}
use Rattle.binlog_samples.proofs.loads.sample_loaded_files.Goals as goal

pub returns-clause-parted_by_loads : goal.returns-clause-parted_by_loads
unfolding on_bytes
returns-clause-parted_by_loads c = ((refl, refl), (refl, refl), λ alike. true≢false (sym (alike.0.1.1.0 refl)))

pub returns-clause-alike : goal.returns-clause-alike
unfolding on_bytes
returns-clause-alike c = (λ alike. true≢false (sym (alike refl)), λ e. e, λ e. e, refl, refl, refl)
