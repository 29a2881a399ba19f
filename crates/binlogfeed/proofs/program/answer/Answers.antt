use Rattle.binlogfeed.proofs.OverFiles.{ended_is_status, words_are_status}
use Rattle.binlogfeed.proofs.program.answer.Goals as goal

pub returns-in-Err : goal.returns-in-Err
returns-in-Err g c = rw c.refuse.ensures (words_are_status c.in-Err.fault)

pub returns : goal.returns
returns g c =
    let ended = c.answer_words-used.ensures in
    ended_is_status ended.0 _ _ _ _ _ _ ended.2
