use Rattle.std.proofs.Common.{◌≡◌, ◌++◌, drop, string_bytes}
use Rattle.binlog_select.specs.SetForm.{next_texts}
use Rattle.binlog_select.specs.Text.{BeginsWith}
use Rattle.binlog_select.proofs.set_form.push_rest.Given as goal

abbrev pub invariant-loop-interval : goal.invariant-loop-interval
invariant-loop-interval l =
    (string_bytes l.text ++ next_texts l.source (drop l.interval-index l.rest) ≡ string_bytes l.initial.text ++ next_texts l.fn.source l.rest)
    × BeginsWith (string_bytes l.text) (string_bytes l.initial.text)
