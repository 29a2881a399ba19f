use Rattle.std.proofs.Common.{arith}
use Rattle.std.proofs.lemmas.Grind.{common_steps}
use Rattle.binlog_documents.proofs.Times.{appends-none, appends-some, is_time, no_time-by_length, no_time-by_sign}
use Rattle.binlog_documents.proofs.time.append_time.Goals as goal

pub returns-then-bytes-ne8 : goal.returns-then-bytes-ne8
returns-then-bytes-ne8 c = appends-none _ _ (no_time-by_length c.args.kind c.args.bytes.now (omega arith))

pub returns : goal.returns
returns c =
    appends-some _ _ _ _ (is_time c.args.kind c.read_u64-packed.result c.args.bytes.now (omega arith) c.read_u64-packed.ensures cc)
    (grind (arith, common_steps))

pub returns-then-not-is_shown : goal.returns-then-not-is_shown
returns-then-not-is_shown c =
    appends-none _ _ (no_time-by_sign c.args.kind c.read_u64-packed.result c.args.bytes.now (omega arith) c.read_u64-packed.ensures cc)
