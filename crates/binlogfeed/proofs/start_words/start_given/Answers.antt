use Rattle.std.proofs.Common.{ap, Err, option_map}
use Rattle.binlogfeed.proofs.start_words.start_given.Goals as goal

pub returns-in-Err-BadToken-clause-err : goal.returns-in-Err-BadToken-clause-err
returns-in-Err-BadToken-clause-err c =
    (c.in-Some.text.now, ap (option_map (λ text. text.now)) c.in-Some.is, c.in-Err-BadToken.ensures.refused (ap Err c.in-Err-BadToken.field-0-is))
