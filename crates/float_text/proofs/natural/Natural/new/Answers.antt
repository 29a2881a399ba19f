use Rattle.std.proofs.Common.{arith}
use Rattle.float_text.proofs.LimbSums.{first_limb, zero_behind}
use Rattle.float_text.proofs.natural.Natural.new.Goals as goal

pub invariant_of-result : goal.invariant_of-result
invariant_of-result c = (omega arith, omega arith, zero_behind c.args.number)

pub returns : goal.returns
returns c = first_limb _
