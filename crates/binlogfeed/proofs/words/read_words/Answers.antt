use Rattle.clap.specs.Words.{app_of}
use Rattle.binlogfeed.specs.Words.{texts}
use Rattle.binlogfeed.proofs.Parsing.{parse_refused, parse_taken, parse_without_memory, faults_found, no_fault_found, only_memory, found_by}
use Rattle.binlogfeed.proofs.words.read_words.Goals as goal

pub returns-in-Err-try_get_matches_from-clause-answers : goal.returns-in-Err-try_get_matches_from-clause-answers
returns-in-Err-try_get_matches_from-clause-answers c =
    parse_refused _ _ c.in-Err-try_get_matches_from.error c.refused.result
    (faults_found (app_of c.in-Ok.command) (texts c.args.words.now) c.in-Err-try_get_matches_from.error c.in-Ok.ensures c.in-Err-try_get_matches_from.ensures.kinds) c.refused.ensures

pub returns-in-Err-try_get_matches_from-clause-taken : goal.returns-in-Err-try_get_matches_from-clause-taken
returns-in-Err-try_get_matches_from-clause-taken c = λ taken.
    parse_without_memory _ c.in-Err-try_get_matches_from.error c.refused.result
    (only_memory (app_of c.in-Ok.command) (texts c.args.words.now) c.in-Err-try_get_matches_from.error c.in-Ok.ensures c.in-Err-try_get_matches_from.ensures.passes taken) c.refused.ensures

pub returns-clause-answers : goal.returns-clause-answers
returns-clause-answers c =
    parse_taken _ _ c.order_of.result
    (no_fault_found (app_of c.in-Ok.command) (texts c.args.words.now) c.in-Ok.ensures c.in-Ok-try_get_matches_from.ensures.kinds)
    (found_by (app_of c.in-Ok.command) (texts c.args.words.now) c.in-Ok-try_get_matches_from.matches c.order_of.result c.in-Ok.ensures c.in-Ok-try_get_matches_from.ensures.matches c.order_of.ensures)

pub returns-clause-taken : goal.returns-clause-taken
returns-clause-taken c = λ taken.
    found_by (app_of c.in-Ok.command) (texts c.args.words.now) c.in-Ok-try_get_matches_from.matches c.order_of.result c.in-Ok.ensures c.in-Ok-try_get_matches_from.ensures.matches c.order_of.ensures
