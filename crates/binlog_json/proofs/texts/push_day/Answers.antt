use Rattle.std.proofs.Common.{lit<, arith}
use Rattle.std.proofs.lemmas.Grind.{common_steps}
use Rattle.binlog_json.proofs.Pairs.{day_is, day_utf8}
use Rattle.binlog_json.proofs.texts.push_day.Goals as goal

pub push_array-requires : goal.push_array-requires
push_array-requires c =
    rw (c.pair-century.ensures.tens, c.pair-century.ensures.ones, c.pair-later.ensures.tens, c.pair-later.ensures.ones, c.pair-month.ensures.tens, c.pair-month.ensures.ones, c.pair-day.ensures.tens, c.pair-day.ensures.ones)
    (lit< tt, day_utf8 c.args.year c.args.month c.args.day (omega arith) (omega arith) (omega arith))

pub returns : goal.returns
returns c =
    let whole = day_is c.args.year c.args.month c.args.day (omega arith) (omega arith) (omega arith) in
    grind (arith, common_steps)
