use Rattle.std.proofs.Common.{sym}
use Rattle.binlog_table.specs.SectionsShown.{sections_view}
use Rattle.binlog_table.proofs.FirstFaults.{fails_first, goes_first}
use Rattle.binlog_table.proofs.MapSteps.{map_in_steps}
use Rattle.binlog_table.proofs.lists.lists_of.Goals as goal

pub returns-in-Err-clause-value : goal.returns-in-Err-clause-value
returns-in-Err-clause-value c = fails_first c.in-Err.fault _ _ _ c.in-Err.ensures.names (map_in_steps c.args.profile (sections_view c.args.sections.now))

pub returns-in-Err-key_in-clause-value : goal.returns-in-Err-key_in-clause-value
returns-in-Err-key_in-clause-value c =
    fails_first c.in-Err-key_in.fault _ _ _ c.in-Err-key_in.ensures.key (goes_first _ _ _ _ c.in-Ok.ensures.names (map_in_steps c.args.profile (sections_view c.args.sections.now)))

pub returns-in-Err-columns_in-clause-value : goal.returns-in-Err-columns_in-clause-value
returns-in-Err-columns_in-clause-value c =
    fails_first c.in-Err-columns_in.fault _ _ _ c.in-Err-columns_in.ensures.columns (goes_first _ _ _ _ c.in-Ok-key_in.ensures.key (goes_first _ _ _ _ c.in-Ok.ensures.names (map_in_steps c.args.profile (sections_view c.args.sections.now))))

pub returns-in-Err-value_names-clause-value : goal.returns-in-Err-value_names-clause-value
returns-in-Err-value_names-clause-value c =
    fails_first c.in-Err-value_names.fault _ _ _ (rw c.deref.ensures.value at c.in-Err-value_names.ensures.names)
    (goes_first _ _ _ _ c.in-Ok-columns_in.ensures.columns (goes_first _ _ _ _ c.in-Ok-key_in.ensures.key (goes_first _ _ _ _ c.in-Ok.ensures.names (map_in_steps c.args.profile (sections_view c.args.sections.now)))))

pub returns-clause-value : goal.returns-clause-value
returns-clause-value c =
    sym (goes_first _ _ _ _ (rw c.deref.ensures.value at c.in-Ok-value_names.ensures.names) (goes_first _ _ _ _ c.in-Ok-columns_in.ensures.columns (goes_first _ _ _ _ c.in-Ok-key_in.ensures.key (goes_first _ _ _ _ c.in-Ok.ensures.names (map_in_steps c.args.profile (sections_view c.args.sections.now))))))
