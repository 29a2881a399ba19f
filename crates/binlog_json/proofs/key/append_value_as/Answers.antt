use Rattle.std.proofs.lemmas.Option.{get_or_from_slice_get}
use Rattle.binlog_table.specs.Value.{view, absent}
use Rattle.binlog_json.proofs.key.append_value_as.Goals as goal

pub returns-in-Plain : goal.returns-in-Plain
returns-in-Plain c =
    rw (c.in-Plain.is, get_or_from_slice_get c.args.image.now.cells c.args.column (view c.args.cell.now) absent c.requires.cell) c.append_value.ensures

pub returns-in-Full : goal.returns-in-Full
returns-in-Full c =
    rw (c.in-Full.is, get_or_from_slice_get c.args.image.now.cells c.args.column (view c.args.cell.now) absent c.requires.cell, ← (rw c.in-Full.is at c.requires.types), ← c.type_at-column_type.ensures) c.append_full_key_value.ensures
