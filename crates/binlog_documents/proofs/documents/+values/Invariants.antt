use Rattle.std.proofs.Common.{◌≡◌, ◌+◌, ◌-◌, ◌*◌, ◌≤◌, length, false, nat_lt}
use Rattle.binlog_documents.specs.Containers.{value_at, elements_of, members_of}
use Rattle.binlog_documents.specs.Drafts.{said}
use Rattle.binlog_documents.specs.Widths.{bytes_of, container_view}
use Rattle.binlog_documents.proofs.Steps.{elements_ahead, elements_behind, members_ahead, members_behind}
use Rattle.binlog_documents.proofs.documents.+values.Given as goal

abbrev pub decreases-append_array : goal.decreases-append_array
decreases-append_array l = 5 * l.depth + 3

abbrev pub decreases-append_elements : goal.decreases-append_elements
decreases-append_elements l = 5 * l.depth + 2

abbrev pub decreases-append_value : goal.decreases-append_value
decreases-append_value l = 5 * l.depth

abbrev pub decreases-append_value_in : goal.decreases-append_value_in
decreases-append_value_in l = 5 * l.depth + 1

abbrev pub invariant-append_elements-loop-place : goal.invariant-append_elements-loop-place
invariant-append_elements-loop-place l = record {
  room : l.entry + (l.array.count - l.place) * l.step ≤ length l.array.bytes.now;
  ahead : elements_ahead (value_at l.depth) (bytes_of l.width) l.array.bytes.now (l.array.count - l.place) l.entry l.from (nat_lt 0 l.place) (said l.out)
      ≡ elements_behind (said l.initial.out) false (elements_of (value_at l.depth) (bytes_of l.width) (container_view l.array));
}

abbrev pub decreases-append_object : goal.decreases-append_object
decreases-append_object l = 5 * l.depth + 3

abbrev pub decreases-append_members : goal.decreases-append_members
decreases-append_members l = 5 * l.depth + 2

abbrev pub invariant-append_members-loop-place : goal.invariant-append_members-loop-place
invariant-append_members-loop-place l = record {
  key_room : l.key_entry + (l.object.count - l.place) * l.key_step ≤ length l.object.bytes.now;
  room : l.entry + (l.object.count - l.place) * l.step ≤ length l.object.bytes.now;
  ahead : members_ahead (value_at l.depth) (bytes_of l.width) l.object.bytes.now (l.object.count - l.place) l.key_entry l.key_from l.entry l.from (nat_lt 0 l.place) (said l.out)
      ≡ members_behind (said l.initial.out) false (members_of (value_at l.depth) (bytes_of l.width) (container_view l.object));
}

abbrev pub decreases-append_small_array : goal.decreases-append_small_array
decreases-append_small_array l = 5 * l.depth + 4

abbrev pub decreases-append_small_object : goal.decreases-append_small_object
decreases-append_small_object l = 5 * l.depth + 4

abbrev pub decreases-append_large_array : goal.decreases-append_large_array
decreases-append_large_array l = 5 * l.depth + 4

abbrev pub decreases-append_large_object : goal.decreases-append_large_object
decreases-append_large_object l = 5 * l.depth + 4
