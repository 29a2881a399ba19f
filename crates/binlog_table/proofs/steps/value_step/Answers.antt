use Rattle.std.proofs.Common.{◌≡◌, ◌≤◌, ◌+◌, ◌-◌, ◌<◌, ℕ, Bool, true, false, is_some, length, length-drop, take, drop, Some, option_map, sym, subst, ap, ◌∙◌, arith}
use Rattle.byteorder.specs.Endian.{little_number}
use Rattle.binlog_table.specs.declared.steps.Pass.{Pass}
use Rattle.binlog_table.specs.declared.steps.Pass.TheVariants.{Plain, Counted, Judged}
use Rattle.binlog_table.specs.Image.{value_at}
use Rattle.binlog_table.specs.Steps.{IsPassOf}
use Rattle.binlog_table.specs.Value.{value_of}
use Rattle.binlog_table.proofs.StepsOver.{too_short, passes_plain, passes_counted, cut_behind_count, passes_judged, out_of_range}
use Rattle.binlog_table.proofs.steps.value_step.Goals as goal

pub returns-then-step-body-clause-value : goal.returns-then-step-body-clause-value
returns-then-step-body-clause-value c =
    let left = length-drop c.args.at c.args.body.now in
    too_short c.args.column.now c.args.step.len c.args.step.pass (drop c.args.at c.args.body.now) c.requires.step (omega (arith, left, c.if-step-body.true))

pub returns-then-len-body-clause-value : goal.returns-then-len-body-clause-value
returns-then-len-body-clause-value c =
    let bytes = drop c.args.at c.args.body.now in
    let len = c.args.step.len in
    let left = length-drop c.args.at c.args.body.now in
    let place : c.args.at + len - len ≡ c.args.at = omega arith in
    let count : c.little_before-len.result ≡ little_number len bytes = c.little_before-len.ensures ∙ ap (λ (k : ℕ). little_number len (drop k c.args.body.now)) place in
    let step = subst (λ (pass : Pass). IsPassOf c.args.column.now len pass) c.in-Counted.is c.requires.step in
    cut_behind_count c.args.column.now len bytes step (omega (arith, left, c.if-step-body.false)) (omega (arith, left, count, c.if-len-body.true, c.if-step-body.false))

pub returns-in-Plain-clause-value : goal.returns-in-Plain-clause-value
returns-in-Plain-clause-value c =
    let left = length-drop c.args.at c.args.body.now in
    let step = subst (λ (pass : Pass). IsPassOf c.args.column.now c.args.step.len pass) c.in-Plain.is c.requires.step in
    passes_plain c.args.column.now c.args.step.len (drop c.args.at c.args.body.now) step (omega (arith, left, c.if-step-body.false))

pub returns-else-len-body-clause-value : goal.returns-else-len-body-clause-value
returns-else-len-body-clause-value c =
    let bytes = drop c.args.at c.args.body.now in
    let len = c.args.step.len in
    let left = length-drop c.args.at c.args.body.now in
    let place : c.args.at + len - len ≡ c.args.at = omega arith in
    let count : c.little_before-len.result ≡ little_number len bytes = c.little_before-len.ensures ∙ ap (λ (k : ℕ). little_number len (drop k c.args.body.now)) place in
    let step = subst (λ (pass : Pass). IsPassOf c.args.column.now len pass) c.in-Counted.is c.requires.step in
    let end : len + c.little_before-len.result ≡ len + little_number len bytes = omega (arith, count) in
    ap Some end ∙ passes_counted c.args.column.now len bytes step (omega (arith, left, c.if-step-body.false)) (omega (arith, left, count, c.if-len-body.false, c.if-step-body.false))

pub returns-then-has_value-clause-value : goal.returns-then-has_value-clause-value
returns-then-has_value-clause-value c =
    let bytes = drop c.args.at c.args.body.now in
    let len = c.args.step.len in
    let left = length-drop c.args.at c.args.body.now in
    let width : c.args.at + len - c.args.at ≡ len = omega arith in
    let step = subst (λ (pass : Pass). IsPassOf c.args.column.now len pass) c.in-Judged.is c.requires.step in
    let means : is_some (value_of c.args.column.now (take len bytes)) ≡ true =
    ap (λ (n : ℕ). is_some (value_of c.args.column.now (take n bytes))) (sym width) ∙ sym c.has_value.ensures ∙ c.if-has_value.true in
    passes_judged c.args.column.now len bytes step (omega (arith, left, c.if-step-body.false)) means

pub returns-else-has_value-clause-value : goal.returns-else-has_value-clause-value
returns-else-has_value-clause-value c =
    let bytes = drop c.args.at c.args.body.now in
    let len = c.args.step.len in
    let left = length-drop c.args.at c.args.body.now in
    let width : c.args.at + len - c.args.at ≡ len = omega arith in
    let step = subst (λ (pass : Pass). IsPassOf c.args.column.now len pass) c.in-Judged.is c.requires.step in
    let means : is_some (value_of c.args.column.now (take len bytes)) ≡ false =
    ap (λ (n : ℕ). is_some (value_of c.args.column.now (take n bytes))) (sym width) ∙ sym c.has_value.ensures ∙ c.if-has_value.false in
    out_of_range c.args.column.now len bytes step (omega (arith, left, c.if-step-body.false)) means
