use Rattle.std.proofs.Common.{◌∙◌, ◌++◌, ℕ, List, take, ap}
use Rattle.std.proofs.lemmas.Result.{on_ok_weaker}
use Rattle.binlog_select.proofs.AppendLemmas.{OnOk-appended}
use Rattle.binlog_json.specs.LineBytes.{line_bytes}
use Rattle.binlog_json.proofs.LabelTexts.{joined_is, joined_utf8, some_label}
use Rattle.binlog_json.proofs.labels.Labels.append_label.Goals as goal

pub joined-count-requires : goal.joined-count-requires
joined-count-requires c =
    let label = c.label-count.ensures.label c.requires.0 c.requires.1.0 c.requires.1.1 in
    record { some = some_label c.requires.0 c.args.column c.label-count.result.1 c.label-count.result.0.now label; count = c.label-count.ensures.count }

pub push_first-requires : goal.push_first-requires
push_first-requires c = record {
  count = c.joined-count.ensures.count;
  utf8 = joined_utf8 c.requires.0 (line_bytes c.args.self.now.text) c.args.self.now.bounds.items c.args.column c.args.later (take c.label-count.result.1 c.label-count.result.0.now) (take c.joined-count.result.1 c.joined-count.result.0.now)
      c.requires.1.0 c.requires.1.1 (c.label-count.ensures.label c.requires.0 c.requires.1.0 c.requires.1.1) c.joined-count.ensures.label;
}

pub returns : goal.returns
returns c =
    on_ok_weaker c.push_first.result
    (λ gains names has below. gains ∙ ap (λ (label : List ℕ). line_bytes c.args.out.now ++ label) (joined_is names c.args.column c.args.later _ _ (c.label-count.ensures.label names has below) c.joined-count.ensures.label))
    (OnOk-appended c.push_first.result (line_bytes c.args.out.now) (take c.joined-count.result.1 c.joined-count.result.0.now) (line_bytes c.push_first.new.self) c.push_first.ensures.bytes)
