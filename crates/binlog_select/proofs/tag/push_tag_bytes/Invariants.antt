use Rattle.std.proofs.Common.{◌≡◌, ◌++◌, take, string_bytes}
use Rattle.std.specs.Int.{to_be_bytes, w128}
use Rattle.std.specs.List.{filter}
use Rattle.binlog_select.specs.Tags.{is_tag_byte}
use Rattle.binlog_select.proofs.tag.push_tag_bytes.Given as goal

abbrev pub invariant-loop-byte : goal.invariant-loop-byte
invariant-loop-byte l =
    string_bytes l.text ≡ string_bytes l.initial.text ++ filter is_tag_byte (take l.byte-index (to_be_bytes w128 l.number))
