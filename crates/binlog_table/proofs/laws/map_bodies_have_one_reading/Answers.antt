use Rattle.binlog_table.proofs.MapBodies.{sections-found, sections-only, sections-one}
use Rattle.binlog_table.proofs.laws.map_bodies_have_one_reading.Goals as goal

pub returns : goal.returns
returns c = record { found = sections-found; only = sections-only; one = sections-one }
