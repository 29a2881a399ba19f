use Rattle.std.proofs.Common.{◌≡◌, refl, arith, take}
use Rattle.binlog_frame.specs.declared.phase.Phase.TheVariants.{Start, Later}
use Rattle.binlog_frame.proofs.Following.{first_stands_next}
use Rattle.binlog_samples.specs.Files.{first_log}
use Rattle.binlog_samples.specs.Frames.{standing}
use Rattle.binlog_samples.proofs.OnBytes.{on_bytes}
use Rattle.binlog_samples.proofs.Windows.{needed_length, needed_whole}
use Rattle.binlog_samples.proofs.frames.sample_frames.Goals as goal

pub returns-clause-windows : goal.returns-clause-windows
unfolding on_bytes
returns-clause-windows c = (
  (refl, _, first_stands_next first_log (standing 0 Start) _ _ refl, refl),
  (tt, _, first_stands_next first_log (standing 126 (Later 0)) _ _ refl, refl),
)

pub returns-clause-no_windows : goal.returns-clause-no_windows
unfolding on_bytes
returns-clause-no_windows c = (
  (λ needs. let e : 122 ≡ 121 = needed_length first_log (standing 0 Start) 121 needs in omega (arith, e)),
  (λ needs. let e : 27 ≡ 122 = needed_length first_log (standing 126 (Later 0)) 122 needs in omega (arith, e)),
  (λ needs. let e = needs.0 in grind (arith, e)),
  (λ needs. let e = needed_whole (take 125 first_log) (standing 0 Start) 122 needs in grind (arith, e)),
  (λ needs. let e = needed_whole (take 145 first_log) (standing 126 (Later 4)) 19 needs in grind (arith, e)),
)
