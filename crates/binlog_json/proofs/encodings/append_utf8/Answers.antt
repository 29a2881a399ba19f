use Rattle.std.proofs.Common.{refl, ◌∙◌, ap, ◌++◌, List, ℕ, string_bytes}
use Rattle.std.proofs.lemmas.Str.{is_utf8-from_IsUtf8}
use Rattle.binlog_json.proofs.Utf8.{not_utf8}
use Rattle.binlog_json.proofs.encodings.append_utf8.Goals as goal

pub returns-in-Err : goal.returns-in-Err
returns-in-Err c = rw (not_utf8 _ c.in-Err.ensures.cases.0) refl

pub returns-in_ok-push_str-in-Ok : goal.returns-in_ok-push_str-in-Ok
returns-in_ok-push_str-in-Ok c =
    rw (is_utf8-from_IsUtf8 _ c.in-Ok.ensures.cases.1)
    (refl, c.in_ok-push_str-in-Ok.ensures.bytes ∙ ap (λ (text : List ℕ). string_bytes c.args.text.now ++ text) c.in-Ok.ensures.cases.0)
