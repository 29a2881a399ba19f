use Rattle.std.proofs.Common.{◌∙◌, sym, subst}
use Rattle.std.specs.Str.{IsUtf8}
use Rattle.binlog_json.proofs.RawTexts.{text_shown, bytes_shown, pushed}
use Rattle.binlog_json.proofs.full_values.append_full_raw.Goals as goal

pub from_utf8_unchecked-requires : goal.from_utf8_unchecked-requires
from_utf8_unchecked-requires c = subst IsUtf8 (sym c.deref.ensures.value) (c.in_ok-append_raw_text.ensures.utf8 c.clear.ensures.items)

pub returns-then-branch : goal.returns-then-branch
returns-then-branch c =
    let shown = text_shown _ c.args.bytes.now _ _ _ c.clear.ensures.items c.in_ok-append_raw_text.ensures.text c.if-branch.true in
    pushed c.push_str.result _ _ _ _ (shown ∙ sym c.deref.ensures.value ∙ sym c.from_utf8_unchecked.ensures) c.push_str.ensures.bytes

pub returns : goal.returns
returns c = rw (bytes_shown _ c.args.bytes.now _ _ _ c.clear.ensures.items c.in_ok-append_raw_text.ensures.text c.if-branch.false) c.append_raw.ensures
