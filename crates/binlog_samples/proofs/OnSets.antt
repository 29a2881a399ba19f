-- What is unfolded to read and write the texts of GTID sets.
use Rattle.std.specs.Prelude.{⊤}
use Rattle.std.specs.Fmt.{digits}
use Rattle.uuid.specs.Text.{by_index}
use Rattle.binlog_select.specs.Tags.{rank, tag_bytes, tag_number}

unfoldable pub on_sets : ⊤
unfolding digits by_index rank tag_bytes tag_number
on_sets = tt
