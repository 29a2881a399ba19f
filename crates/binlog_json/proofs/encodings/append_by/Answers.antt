use Rattle.std.proofs.Common.{◌∙◌, string_bytes}
use Rattle.binlog_json.proofs.Decoding.{text_by_more, text_by_none, text_by_done}
use Rattle.binlog_json.proofs.encodings.append_by.Goals as goal

pub loop-byte-preserved : goal.loop-byte-preserved
loop-byte-preserved c =
    let is = rw c.from.ensures at c.from-in-loop-byte.ensures in
    let scalar = rw is at c.in-Some.ensures.value.0 in
    rw c.in_ok-push-in-Some.ensures.bytes
    (text_by_more c.args.table.now (string_bytes c.loop-byte.text) c.args.bytes.now c.loop-byte.byte-index c.in-Some.read _ c.loop-byte-test.true scalar (c.in-Some.ensures.value.1 ∙ is) c.loop-byte.invariant)

pub returns-in-None : goal.returns-in-None
returns-in-None c =
    let is = rw c.from.ensures at c.from-in-loop-byte.ensures in
    text_by_none c.args.table.now (string_bytes c.args.text.now) (string_bytes c.loop-byte.text) c.args.bytes.now c.loop-byte.byte-index _ c.loop-byte-test.true (rw is at c.in-None.ensures.value) c.loop-byte.invariant

pub returns : goal.returns
returns c = text_by_done c.args.table.now (string_bytes c.args.text.now) (string_bytes c.loop-byte.text) c.args.bytes.now c.loop-byte.byte-index _ c.loop-byte-test.false c.loop-byte.invariant
