use Rattle.std.proofs.Common.{inr, rules}
use Rattle.binlogfeed.proofs.program.run_task.Goals as goal

pub returns-in-Transactions-clause-answers : goal.returns-in-Transactions-clause-answers
returns-in-Transactions-clause-answers g c = λ honest. inr (rw c.in-Transactions.is (c.run_transactions.ensures.answers honest))

pub returns-in-Read-clause-answers : goal.returns-in-Read-clause-answers
returns-in-Read-clause-answers g c = λ honest. inr (rw c.in-Read.is (c.run_as.ensures.answers honest))

pub returns-in-History-clause-answers : goal.returns-in-History-clause-answers
returns-in-History-clause-answers g c = λ honest. inr (search rules)
