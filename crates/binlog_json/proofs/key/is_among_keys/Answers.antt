use Rattle.std.proofs.Common.{◌≡◌, ◌∙◌, ℕ, Bool, true, false, cond, true≢false, List, [], ◌∷◌, Option, None, Some, refl, sym}
use Rattle.std.specs.List.{list_any}
use Rattle.std.specs.Str.{bytes_eq}
use Rattle.std.proofs.lemmas.Result.{IfOk-weaker}
use Rattle.binlog_table.specs.declared.row_view.Side.TheVariants.{Before, After}
use Rattle.binlog_feed.specs.Changes.{view}
use Rattle.binlog_json.specs.Keys.{different_texts, is_text, key_text_as}
use Rattle.binlog_json.proofs.KeyTexts.{is_second}
use Rattle.binlog_json.proofs.key.is_among_keys.Goals as goal

first_of : (same : Bool) (key first second : List ℕ) → bytes_eq first key ≡ true → list_any (λ text. bytes_eq text key) (cond same (first ∷ []) (first ∷ (second ∷ []))) ≡ true
first_of true key first second is = rw is refl
first_of false key first second is = rw is refl

is_first : (key : List ℕ) (first second : Option (List ℕ)) → is_text key first ≡ true → list_any (λ text. bytes_eq text key) (different_texts first second) ≡ true
is_first key None second is = absurd (true≢false (sym is))
is_first key (Some first) None is = rw is refl
is_first key (Some first) (Some second) is = first_of (bytes_eq first second) key first second is

pub returns-then-branch : goal.returns-then-branch
returns-then-branch c =
    let text = key_text_as c.args.style (view c.args.change.now) in
    sym (is_first c.args.key.now (text Before) (text After) (sym c.in_ok-has_key_on.ensures ∙ c.if-branch.true))

pub returns : goal.returns
returns c =
    let text = key_text_as c.args.style (view c.args.change.now) in
    let second = is_second c.args.key.now (text Before) (text After) (sym c.in_ok-has_key_on.ensures ∙ c.if-branch.false) in
    IfOk-weaker c.has_key_on-2.result _ _ (λ has is. is ∙ sym second) c.has_key_on-2.ensures
