use Rattle.std.proofs.Common.{◌∙◌, string_bytes}
use Rattle.std.proofs.lemmas.List.{take_rest}
use Rattle.binlog_json.proofs.Decoding.{utf32_more, utf32_none, utf32_done}
use Rattle.binlog_json.proofs.encodings.append_utf32.Goals as goal

pub loop-rest-preserved : goal.loop-rest-preserved
loop-rest-preserved c =
    let scalar = rw c.utf32_code.ensures at c.in-Some.ensures.value.0 in
    rw (c.in_ok-push-in-Some.ensures.bytes, take_rest)
    (utf32_more (string_bytes c.loop-rest.text) c.loop-rest.rest.now c.in-Some.read _ c.in-len4-up.len_at_least scalar (c.in-Some.ensures.value.1 ∙ c.utf32_code.ensures) c.loop-rest.invariant)

pub returns-in-None : goal.returns-in-None
returns-in-None c =
    utf32_none (string_bytes c.args.text.now) (string_bytes c.loop-rest.text) c.loop-rest.rest.now _ c.in-len4-up.len_at_least (rw c.utf32_code.ensures at c.in-None.ensures.value) c.loop-rest.invariant

pub returns : goal.returns
returns c = utf32_done (string_bytes c.args.text.now) (string_bytes c.loop-rest.text) c.loop-rest.rest.now _ c.is_empty.result c.in_default.len_below c.is_empty.ensures c.loop-rest.invariant
