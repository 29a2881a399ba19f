use Rattle.binlog_select.proofs.TagLemmas.{number_of_buffer}
use Rattle.binlog_select.proofs.tag.tag_number.Goals as goal

pub returns : goal.returns
returns c =
    number_of_buffer c.args.tag.now c.copy_from_slice.new.self c.make_ascii_lowercase.new.self c.min-count.result c.from_be_bytes.result
    c.min-count.ensures c.copy_from_slice.ensures.after c.make_ascii_lowercase.ensures.after c.from_be_bytes.ensures
