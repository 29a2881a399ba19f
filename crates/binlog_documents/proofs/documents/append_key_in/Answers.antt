use Rattle.std.proofs.Common.{arith, rules}
use Rattle.std.proofs.lemmas.List.{take_rest}
use Rattle.binlog_documents.specs.Containers.{key_in}
use Rattle.binlog_documents.proofs.Fronts.{text-front_of}
use Rattle.binlog_documents.proofs.documents.append_key_in.Goals as goal

pub returns-then-not-branch : goal.returns-then-not-branch
unfolding key_in
returns-then-not-branch c =
    let place = c.key_entry-place.result.0 in
    let len = c.key_entry-place.result.1 in
    let appended = rw (take_rest c.args.ahead.now place, text-front_of c.args.ahead.now c.args.bytes.now place len c.requires.front (omega (arith, c.if-place-len.false))) at c.in_ok-append_key.ensures in
    search rules

pub returns : goal.returns
unfolding key_in
returns c =
    let place = c.key_entry-place.result.0 in
    let len = c.key_entry-place.result.1 in
    let appended = rw (take_rest c.args.ahead.now place, text-front_of c.args.ahead.now c.args.bytes.now place len c.requires.front (omega (arith, c.if-place-len.false))) at c.in_ok-append_key.ensures in
    search rules
