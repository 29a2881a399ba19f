use Rattle.std.proofs.Common.{◌<◌, ◌^◌, arith}
use Rattle.std.proofs.lemmas.List.Elements.{All-from_recursion}
use Rattle.document_samples.specs.Bytes.{hex}
use Rattle.document_samples.proofs.sample_json.Goals as goal

pub returns-clause-by_law : goal.returns-clause-by_law
returns-clause-by_law c law document is = law (hex "05 ff ff") document (All-from_recursion (λ b. b < 2 ^ 8) (hex "05 ff ff") (omega arith, (omega arith, (omega arith, tt)))) is
