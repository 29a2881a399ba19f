use Rattle.std.proofs.Common.{Some, codes, subst, refl, sym, ◌∙◌}
use Rattle.clap.specs.Words.{Text, found_of, rows_of}
use Rattle.binlog_json.specs.declared.style.Style.{Style}
use Rattle.binlogfeed.specs.KeyWords.{IsKeyFault, value_given}
use Rattle.binlogfeed.specs.declared.words_fault.WordsFault.TheVariants.{OutOfMemory}
use Rattle.binlogfeed.proofs.Found.{failed, key_refused}
use Rattle.binlogfeed.proofs.words.history.Goals as goal

pub returns-in_err-key : goal.returns-in_err-key
returns-in_err-key c =
    let rows = rows_of (found_of c.args.matches.now) in
    let fault = c.in_err-key.field-0.0 in
    failed (Some (codes "history", rows)) fault c.from_residual.result (key_refused rows fault (subst (λ (style : Style). IsKeyFault style (value_given (codes "key") rows) fault) c.style_given-style.ensures
    (subst (λ (text : Text). IsKeyFault c.style_given-style.result text fault) c.value_of.ensures c.in_err-key.ensures.err))) c.from_residual.ensures.1

pub returns-in_err-files : goal.returns-in_err-files
returns-in_err-files c =
    failed (Some (codes "history", rows_of (found_of c.args.matches.now))) OutOfMemory c.from_residual-in_err-files.result tt c.from_residual-in_err-files.ensures.1

pub returns-in_default : goal.returns-in_default
returns-in_default c = (codes "history", rows_of (found_of c.args.matches.now), refl, sym c.profile_given.ensures ∙ c.in_default.is)
