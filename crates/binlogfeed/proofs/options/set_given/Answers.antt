use Rattle.std.proofs.Common.{ap, Err, option_map}
use Rattle.binlogfeed.proofs.options.set_given.Goals as goal

pub returns-in-Err-BadSet-clause-err : goal.returns-in-Err-BadSet-clause-err
returns-in-Err-BadSet-clause-err c =
    (c.in-Some.text.now, ap (option_map (λ text. text.now)) c.in-Some.is, c.in-Err-BadSet.ensures.refused c.in-Err-BadSet.at (ap Err c.in-Err-BadSet.field-0-is))
