use Rattle.std.proofs.Common.{◌≡◌, ◌∙◌, ℕ, List, rules, [], ◌∷◌, ◌++◌, Some, None, refl, ap, subst, inl, inr, arith}
use Rattle.std.specs.Prelude.{get_or}
use Rattle.binlog_select.specs.declared.kind.ChangeKind.{ChangeKind}
use Rattle.binlog_select.specs.declared.kind.ChangeKind.TheVariants.{Insert, Update, Delete, Statement}
use Rattle.binlog_feed.specs.Changes.{RowChange}
use Rattle.binlog_json.specs.Json.{compact_text}
use Rattle.binlog_json.specs.Line.{by_kind, change_data, stated_data}
use Rattle.binlog_json.specs.declared.style.Style.TheVariants.{Plain}
use Rattle.binlogfeed.specs.Lines.{change_line}
use Rattle.binlogfeed.specs.Runs.{IsLineAtMost}
use Rattle.binlog_samples.specs.Runs.{kept, line_a, line_b, row_fault}
use Rattle.binlog_samples.proofs.runs.sample_outputs.Goals as goal

-- a change's line begins with a brace
begins : (change : RowChange) → get_or (change_line Plain change) 0 0 ≡ 123
begins change = by change.kind
  where
    by : (kind : ChangeKind) → get_or (compact_text (by_kind kind (stated_data change) (change_data change)) ++ 10 ∷ []) 0 0 ≡ 123
    by Insert = refl
    by Update = refl
    by Delete = refl
    by Statement = refl

not_a_line : (byte : ℕ) (rest : List ℕ) → (byte ≡ 123 → ⊥) → IsLineAtMost Plain (byte ∷ rest) → ⊥
not_a_line byte rest other (inl none) = cc
not_a_line byte rest other (inr (change, is)) = other (ap (λ (text : List ℕ). get_or text 0 0) is ∙ begins change)

last_one : (front last : List ℕ) → kept ++ line_a ≡ kept ++ front → line_a ++ line_b ≡ front ++ last → last ≡ line_b
last_one front last written parts = cc

both : (front last : List ℕ) → kept ≡ kept ++ front → line_a ++ line_b ≡ front ++ last → last ≡ line_a ++ line_b
both front last written parts = cc

pub returns-clause-gone_without_memory : goal.returns-clause-gone_without_memory
returns-clause-gone_without_memory c = (
  record { front = line_a ++ line_b; last = []; parts = refl; at_most = inl refl; written = search rules },
  λ change. record { front = line_a; last = change_line Plain change; parts = refl; at_most = inr (change, refl); written = search rules },
  (λ lacks. not_a_line 98 (10 ∷ []) (λ e. omega (arith, e)) (subst (IsLineAtMost Plain) (last_one lacks.front lacks.last lacks.written lacks.parts) lacks.at_most)),
  (λ lacks. not_a_line 97 (10 ∷ line_b) (λ e. omega (arith, e)) (subst (IsLineAtMost Plain) (both lacks.front lacks.last lacks.written lacks.parts) lacks.at_most)),
  search rules,
)

pub returns-clause-ends_alike : goal.returns-clause-ends_alike
returns-clause-ends_alike c = (
  record { gone = record { text = line_a; count = 1; end = None }; split = refl; same_end = refl; answers = refl },
  (λ answers. let same : None ≡ Some row_fault = answers.same_end in cc),
  (λ answers. let same : Some row_fault ≡ None = answers.same_end in cc),
)
