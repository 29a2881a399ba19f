use Rattle.std.proofs.Common.{lit<, arith}
use Rattle.std.proofs.lemmas.Grind.{common_steps}
use Rattle.binlog_json.proofs.Pairs.{clock_is, clock_utf8}
use Rattle.binlog_json.proofs.texts.push_clock.Goals as goal

pub push_array-requires : goal.push_array-requires
push_array-requires c =
    rw (c.pair-hour.ensures.tens, c.pair-hour.ensures.ones, c.pair-minute.ensures.tens, c.pair-minute.ensures.ones, c.pair-second.ensures.tens, c.pair-second.ensures.ones)
    (lit< tt, clock_utf8 c.args.hour c.args.minute c.args.second (omega arith) (omega arith) (omega arith))

pub returns : goal.returns
returns c =
    let whole = clock_is c.args.hour c.args.minute c.args.second (omega arith) (omega arith) (omega arith) in
    grind (arith, common_steps)
