use Rattle.std.proofs.Common.{arith}
use Rattle.binlog_table.proofs.SetBits.{bit-zeros}
use Rattle.binlog_table.proofs.image.may_have_bits.Goals as goal

pub returns : goal.returns
returns c = λ e. bit-zeros c.args.bitmap.now (λ k below. c.loop-byte.invariant k (omega arith))
