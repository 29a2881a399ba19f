use Rattle.std.proofs.Common.{◌+◌, ◌∷◌, ◌∙◌, sym, ap, take, arith}
use Rattle.std.proofs.lemmas.List.{take_rest}
use Rattle.binlog_select.specs.Parts.{parts}
use Rattle.binlog_select.proofs.PartsLemmas.{parts-first, parts-lacking}
use Rattle.binlog_select.proofs.split.split_once.Goals as goal

pub returns-then-byte-separator-clause-parts : goal.returns-then-byte-separator-clause-parts
returns-then-byte-separator-clause-parts c =
    let text = c.args.text.now in
    let at = c.loop-at.at in
    parts-first c.args.separator text at c.loop-at-test.true c.if-byte-separator.true c.loop-at.invariant
    ∙ ap (λ rest. take at text ∷ parts c.args.separator rest) (sym (take_rest text (at + 1)))

pub returns-clause-parts : goal.returns-clause-parts
returns-clause-parts c = parts-lacking c.args.separator c.args.text.now (λ k below. c.loop-at.invariant k (omega arith))
