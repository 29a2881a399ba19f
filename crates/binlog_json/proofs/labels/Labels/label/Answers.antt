use Rattle.binlog_json.proofs.LabelTexts.{bounds_ordered}
use Rattle.binlog_json.proofs.labels.Labels.label.Goals as goal

pub overflow_sub-result : goal.overflow_sub-result
overflow_sub-result c = bounds_ordered c.requires.0 _ c.args.self.now.bounds.items c.args.column c.index.result.now c.requires.1.0 c.requires.1.1 c.index.ensures
