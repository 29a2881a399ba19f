use Rattle.std.proofs.Common.{refl}
use Rattle.binlog_samples.specs.Loads.{loaded_body, loaded_text}
use Rattle.binlog_samples.proofs.OnBytes.{on_bytes}
use Rattle.binlog_samples.proofs.loads.sample_loads.Goals as goal

pub returns-clause-load_is_read : goal.returns-clause-load_is_read
unfolding on_bytes
returns-clause-load_is_read c law = (law.load_text loaded_body loaded_text).0 refl
