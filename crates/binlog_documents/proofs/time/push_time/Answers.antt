use Rattle.std.proofs.Common.{◌+◌, ◌-◌, arith}
use Rattle.std.proofs.lemmas.Grind.{common_steps}
use Rattle.binlog_documents.proofs.Times.{time-below}
use Rattle.binlog_documents.proofs.time.push_time.Goals as goal

pub returns : goal.returns
returns c =
    let below = time-below c.args.packed (18446744073709551615 - c.args.packed + 1) (omega arith) (omega arith) in
    grind (arith, common_steps)
