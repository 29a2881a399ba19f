use Rattle.binlogfeed.proofs.follow_fault.refusal_line.Goals as goal

pub returns-in-OutOfOrder : goal.returns-in-OutOfOrder
returns-in-OutOfOrder g c = rw c.in-OutOfOrder.is (rw c.file_name-name.ensures at c.write.ensures.bytes)

pub returns-in-FileGone : goal.returns-in-FileGone
returns-in-FileGone g c = rw c.in-FileGone.is (rw c.last_name-name.ensures at c.write-in-FileGone.ensures.bytes)

pub returns-in-FileShorter : goal.returns-in-FileShorter
returns-in-FileShorter g c = rw c.in-FileShorter.is (rw c.last_name-name-in-FileShorter.ensures at c.write-in-FileShorter.ensures.bytes)
