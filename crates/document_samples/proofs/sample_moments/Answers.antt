use Rattle.std.proofs.Common.{inr, refl, arith}
use Rattle.std.specs.Float.{binary64}
use Rattle.document_samples.specs.Moments.{last_day, last_second}
use Rattle.document_samples.proofs.OnDocuments.{on_documents}
use Rattle.document_samples.proofs.sample_moments.Goals as goal

pub returns-clause-moment_by_law : goal.returns-clause-moment_by_law
unfolding on_documents
returns-clause-moment_by_law c law =
    law 12 last_day last_second (inr refl) (record { month = omega arith; day = omega arith }) (record { hour = omega arith; minute = omega arith; second = omega arith; micros = omega arith })

pub returns-clause-text_by_law : goal.returns-clause-text_by_law
unfolding on_documents
returns-clause-text_by_law c law = law binary64 0x3fb999999999999a (omega arith) (omega arith)
