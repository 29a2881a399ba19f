use Rattle.std.proofs.Common.{◌≡◌, ◌∙◌, ◌++◌, ◌==◌, ℕ, List, not, ◌&&◌, OnOk, decimal, ap, subst, arith}
use Rattle.std.proofs.lemmas.Bool.Decides.{nat_tests}
use Rattle.binlog_table.specs.Decimal.{digits_of}
use Rattle.binlog_table.specs.DecimalShown.{decimal_view}
use Rattle.binlog_json.specs.LineBytes.{line_bytes}
use Rattle.binlog_json.specs.Texts.{sign_text, point_text, decimal_text}
use Rattle.binlog_json.proofs.LineParts.{then_three}
use Rattle.binlog_json.proofs.SplitTexts.{split_text}
use Rattle.binlog_json.proofs.texts.push_split.Goals as goal
use Rattle.binlog_json.proofs.texts.push_split.Goals.{then-is_negative+then-whole-ne0, then-is_negative+else-whole-ne0, else-is_negative}

pub returns : goal.returns
returns c =
    let d = decimal_view c.args.decimal in
    let whole = c.args.whole in
    let fraction = c.args.fraction in
    let negative : c.is_negative.result ≡ d.negative = c.is_negative.ensures in
    let sign : c.if-is_negative.push_sign ≡ (d.negative && not ((whole == 0) && (fraction == 0))) =
    elim c.if-is_negative.branch [
      | then-is_negative+then-whole-ne0 w ↦ grind (arith, nat_tests)
      | then-is_negative+else-whole-ne0 w ↦ grind (arith, nat_tests)
      | else-is_negative w ↦ grind (arith, nat_tests)
    ] in
    let behind : point_text (digits_of c.scale.result fraction) ≡ point_text (digits_of d.scale fraction) = ap (λ (s : ℕ). point_text (digits_of s fraction)) c.scale.ensures.scale in
    let is : sign_text c.if-is_negative.push_sign ++ (decimal whole ++ point_text (digits_of c.scale.result fraction)) ≡ decimal_text d =
    ap (λ (t : List ℕ). sign_text c.if-is_negative.push_sign ++ (decimal whole ++ t)) behind ∙ split_text d whole fraction c.if-is_negative.push_sign c.requires (omega arith) sign in
    subst (λ (t : List ℕ). OnOk c.push_behind_point.result (line_bytes c.push_behind_point.new.text ≡ line_bytes c.args.text.now ++ t)) is
    (then_three c.push_behind_point.result (line_bytes c.args.text.now) (line_bytes c.push_sign.new.text) (line_bytes c.append_number.new.out) (line_bytes c.push_behind_point.new.text) (sign_text c.if-is_negative.push_sign)
    (decimal whole) (point_text (digits_of c.scale.result fraction)) c.in_ok-push_sign.ensures c.in_ok-append_number.ensures c.push_behind_point.ensures)
