use Rattle.binlogfeed.proofs.Ends.{all_are_beginning, ends, ends_all, ends_by_write, whole_is_beginning}
use Rattle.binlogfeed.proofs.Growth.{grows_part}
use Rattle.line_output.proofs.Sending.{appends_kept}
use Rattle.binlogfeed.proofs.ending.finish.Goals as goal

pub returns-in-Err-clause-answers : goal.returns-in-Err-clause-answers
returns-in-Err-clause-answers g c = λ output start left.
    ends_by_write output start (g.W.Write.contents c.args.out.now) (g.W.Write.contents c.write_text.new.out) c.args.waiting.now c.args.answer
    (c.has_failed_write.ensures.no c.if-has_failed_write.false) left c.in-Err.ensures.err

pub returns-in-Err-flush-clause-answers : goal.returns-in-Err-flush-clause-answers
returns-in-Err-flush-clause-answers g c = λ output start left.
    let old = g.W.Write.contents c.args.out.now in
    let mid = g.W.Write.contents c.write_text.new.out in
    let new = g.W.Write.contents c.flush.new.self in
    ends_by_write output start old new c.args.waiting.now c.args.answer (c.has_failed_write.ensures.no c.if-has_failed_write.false) left
    (whole_is_beginning old new c.args.waiting.now (appends_kept old mid new c.args.waiting.now c.in-Ok.ensures.ok c.in-Err-flush.ensures.bytes))

pub returns-in-Ok-flush-clause-answers : goal.returns-in-Ok-flush-clause-answers
returns-in-Ok-flush-clause-answers g c = λ output start left.
    let old = g.W.Write.contents c.args.out.now in
    let mid = g.W.Write.contents c.write_text.new.out in
    let new = g.W.Write.contents c.flush.new.self in
    ends output start old new c.args.waiting.now c.args.answer (c.has_failed_write.ensures.no c.if-has_failed_write.false) left
    (appends_kept old mid new c.args.waiting.now c.in-Ok.ensures.ok c.in-Ok-flush.ensures.bytes)

-- where no line was kept back
pub returns-in-Err-clause-all : goal.returns-in-Err-clause-all
returns-in-Err-clause-all g c = λ style output start left.
    let old = g.W.Write.contents c.args.out.now in
    ends_by_write output start old (g.W.Write.contents c.write_text.new.out) c.args.waiting.now c.args.answer (c.has_failed_write.ensures.no c.if-has_failed_write.false)
    (all_are_beginning style output start old c.args.waiting.now c.args.answer left) c.in-Err.ensures.err

pub returns-in-Err-flush-clause-all : goal.returns-in-Err-flush-clause-all
returns-in-Err-flush-clause-all g c = λ style output start left.
    let old = g.W.Write.contents c.args.out.now in
    let mid = g.W.Write.contents c.write_text.new.out in
    let new = g.W.Write.contents c.flush.new.self in
    ends_by_write output start old new c.args.waiting.now c.args.answer (c.has_failed_write.ensures.no c.if-has_failed_write.false)
    (all_are_beginning style output start old c.args.waiting.now c.args.answer left)
    (whole_is_beginning old new c.args.waiting.now (appends_kept old mid new c.args.waiting.now c.in-Ok.ensures.ok c.in-Err-flush.ensures.bytes))

pub returns-in-Ok-flush-clause-all : goal.returns-in-Ok-flush-clause-all
returns-in-Ok-flush-clause-all g c = λ style output start left.
    let old = g.W.Write.contents c.args.out.now in
    let mid = g.W.Write.contents c.write_text.new.out in
    let new = g.W.Write.contents c.flush.new.self in
    ends_all style output start old new c.args.waiting.now c.args.answer (c.has_failed_write.ensures.no c.if-has_failed_write.false) left
    (appends_kept old mid new c.args.waiting.now c.in-Ok.ensures.ok c.in-Ok-flush.ensures.bytes)

-- what was written stays
pub returns-in-Err-clause-grows : goal.returns-in-Err-clause-grows
returns-in-Err-clause-grows g c = grows_part (g.W.Write.contents c.args.out.now) (g.W.Write.contents c.write_text.new.out) c.args.waiting.now c.in-Err.ensures.err

pub returns-in-Err-flush-clause-grows : goal.returns-in-Err-flush-clause-grows
returns-in-Err-flush-clause-grows g c =
    (c.args.waiting.now, appends_kept (g.W.Write.contents c.args.out.now) (g.W.Write.contents c.write_text.new.out) (g.W.Write.contents c.flush.new.self) c.args.waiting.now c.in-Ok.ensures.ok c.in-Err-flush.ensures.bytes)

pub returns-in-Ok-flush-clause-grows : goal.returns-in-Ok-flush-clause-grows
returns-in-Ok-flush-clause-grows g c =
    (c.args.waiting.now, appends_kept (g.W.Write.contents c.args.out.now) (g.W.Write.contents c.write_text.new.out) (g.W.Write.contents c.flush.new.self) c.args.waiting.now c.in-Ok.ensures.ok c.in-Ok-flush.ensures.bytes)
