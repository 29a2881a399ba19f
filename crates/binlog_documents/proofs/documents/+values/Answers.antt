use Rattle.std.proofs.Common.{◌∙◌, sym, ◌+◌, ◌-◌, length, false, nat_lt, arith, rules}
use Rattle.binlog_documents.specs.Containers.{value_at, elements_of, members_of}
use Rattle.binlog_documents.specs.Drafts.{said}
use Rattle.binlog_documents.specs.Widths.{bytes_of, container_view}
use Rattle.binlog_documents.proofs.Steps.{elements-end, elements-go, elements-stop, elements_behind, entry-room, is-later, members-end, members-go, members-stop, members-stop_at_key, members_behind}
use Rattle.std.proofs.lemmas.List.{take_rest}
use Rattle.binlog_documents.proofs.Fronts.{value-none, value-passes, value-reaches}
use Rattle.binlog_documents.proofs.documents.+values.Goals as goal

pub append_elements-loop-place-preserved : goal.append_elements-loop-place-preserved
append_elements-loop-place-preserved t c =
    let a = c.args in
    let l = c.loop-place in
    record {
      room = (entry-room l.entry a.array.count l.place (c.bytes-step.result + 1) (length a.array.bytes.now) c.loop-place-test.true l.invariant.room).1;
      ahead =
          elements-go (value_at a.depth) (bytes_of a.width) a.array.bytes.now (a.array.count - l.place) (a.array.count - (l.place + 1)) (c.bytes-step.result + 1) l.entry l.from (said l.out) (said c.append_comma.new.out)
          (said c.append_value_in.new.out) (nat_lt 0 l.place) (nat_lt 0 (l.place + 1)) c.in_ok-end.field-0 c.in-Some.end (elements_behind (said a.out.now) false (elements_of (value_at a.depth) (bytes_of a.width) (container_view a.array)))
          (omega arith) (omega arith) (is-later l.place) c.in_ok-append_comma.ensures c.in_ok-end.ensures.text c.in-Some.is l.invariant.ahead;
    }

pub append_elements-returns-in_default : goal.append_elements-returns-in_default
append_elements-returns-in_default t c =
    let a = c.args in
    let l = c.loop-place in
    record {
      text = elements-stop (value_at a.depth) (bytes_of a.width) a.array.bytes.now (a.array.count - l.place) l.entry l.from (said l.out) (said c.append_comma.new.out) (said c.append_value_in.new.out) (said a.out.now)
          (nat_lt 0 l.place) c.in_ok-end.field-0 (elements_of (value_at a.depth) (bytes_of a.width) (container_view a.array)) (omega arith) c.in_ok-end.ensures.text c.in_default.is l.invariant.ahead;
    }

pub append_elements-returns : goal.append_elements-returns
append_elements-returns t c =
    let a = c.args in
    let l = c.loop-place in
    record {
      text = elements-end (value_at a.depth) (bytes_of a.width) a.array.bytes.now (a.array.count - l.place) l.entry l.from (said l.out) (said a.out.now) (nat_lt 0 l.place)
          (elements_of (value_at a.depth) (bytes_of a.width) (container_view a.array)) (omega arith) l.invariant.ahead;
    }

pub append_members-loop-place-preserved : goal.append_members-loop-place-preserved
append_members-loop-place-preserved t c =
    let a = c.args in
    let l = c.loop-place in
    record {
      key_room = (entry-room l.key_entry a.object.count l.place (c.bytes-key_step.result + 2) (length a.object.bytes.now) c.loop-place-test.true l.invariant.key_room).1;
      room = (entry-room l.entry a.object.count l.place (c.bytes-step.result + 1) (length a.object.bytes.now) c.loop-place-test.true l.invariant.room).1;
      ahead =
          members-go (value_at a.depth) (bytes_of a.width) a.object.bytes.now (a.object.count - l.place) (a.object.count - (l.place + 1)) (c.bytes-key_step.result + 2) (c.bytes-step.result + 1) l.key_entry l.key_from l.entry l.from
          (said l.out) (said c.append_comma.new.out) (said c.append_key_in.new.out) (said c.append_value_in.new.out) (nat_lt 0 l.place) (nat_lt 0 (l.place + 1)) c.in_ok-key_end.field-0 c.in_ok-end.field-0 c.in-Some.key_end c.in-Some-2.end
          (members_behind (said a.out.now) false (members_of (value_at a.depth) (bytes_of a.width) (container_view a.object)))
          (omega arith) (omega arith) (omega arith) (is-later l.place) c.in_ok-append_comma.ensures c.in_ok-key_end.ensures c.in-Some.is c.in_ok-end.ensures.text c.in-Some-2.is l.invariant.ahead;
    }

pub append_members-returns-in_default : goal.append_members-returns-in_default
append_members-returns-in_default t c =
    let a = c.args in
    let l = c.loop-place in
    record {
      text = members-stop_at_key (value_at a.depth) (bytes_of a.width) a.object.bytes.now (a.object.count - l.place) l.key_entry l.key_from l.entry l.from (said l.out) (said c.append_comma.new.out) (said c.append_key_in.new.out)
          (said a.out.now) (nat_lt 0 l.place) c.in_ok-key_end.field-0 (members_of (value_at a.depth) (bytes_of a.width) (container_view a.object)) (omega arith) c.in_ok-key_end.ensures c.in_default.is l.invariant.ahead;
    }

pub append_members-returns-in_default-2 : goal.append_members-returns-in_default-2
append_members-returns-in_default-2 t c =
    let a = c.args in
    let l = c.loop-place in
    record {
      text = members-stop (value_at a.depth) (bytes_of a.width) a.object.bytes.now (a.object.count - l.place) l.key_entry l.key_from l.entry l.from (said l.out) (said c.append_key_in.new.out) (said c.append_value_in.new.out)
          (said a.out.now) (nat_lt 0 l.place) c.in_ok-end.field-0 (members_of (value_at a.depth) (bytes_of a.width) (container_view a.object)) (omega arith) c.in_ok-end.ensures.text c.in_default-2.is l.invariant.ahead;
    }

pub append_members-returns : goal.append_members-returns
append_members-returns t c =
    let a = c.args in
    let l = c.loop-place in
    record {
      text = members-end (value_at a.depth) (bytes_of a.width) a.object.bytes.now (a.object.count - l.place) l.key_entry l.key_from l.entry l.from (said l.out) (said a.out.now) (nat_lt 0 l.place)
          (members_of (value_at a.depth) (bytes_of a.width) (container_view a.object)) (omega arith) l.invariant.ahead;
    }

pub append_members-append_value_in-requires : goal.append_members-append_value_in-requires
append_members-append_value_in-requires t c =
    let l = c.loop-place in
    let room = (entry-room l.entry c.args.object.count l.place (c.bytes-step.result + 1) (length c.args.object.bytes.now) c.loop-place-test.true l.invariant.room).0 in
    (search rules, (omega arith, c.requires.front))

pub append_value_in-returns-in_default-2 : goal.append_value_in-returns-in_default-2
append_value_in-returns-in_default-2 t c =
    let a = c.args in
    let read = rw (take_rest a.ahead.now c.in-Some-value_place.place) at c.in_ok-len.ensures.text in
    record {
      text = value-none a.depth (bytes_of a.width) a.entry a.from c.in-Some-value_place.place a.ahead.now a.bytes.now (said a.out.now) (said c.append_value.new.out) c.requires.front c.in-Some-value_place.ensures.within
          (sym c.is_inlined.ensures ∙ c.if-is_inlined.false) (sym c.value_place.ensures.value ∙ c.in-Some-value_place.is) (rw c.in_default-2.is at read);
    }

pub append_value_in-returns-then-len-bytes : goal.append_value_in-returns-then-len-bytes
append_value_in-returns-then-len-bytes t c =
    let a = c.args in
    let read = rw (take_rest a.ahead.now c.in-Some-value_place.place) at c.in_ok-len.ensures.text in
    record {
      text = value-passes a.depth (bytes_of a.width) a.entry a.from c.in-Some-value_place.place a.ahead.now a.bytes.now (said a.out.now) (said c.append_value.new.out) c.in-Some-2.len c.requires.front c.in-Some-value_place.ensures.within
          (sym c.is_inlined.ensures ∙ c.if-is_inlined.false) (sym c.value_place.ensures.value ∙ c.in-Some-value_place.is) (rw c.in-Some-2.is at read) c.if-len-bytes.true;
    }

pub append_value_in-returns : goal.append_value_in-returns
append_value_in-returns t c =
    let a = c.args in
    let read = rw (take_rest a.ahead.now c.in-Some-value_place.place) at c.in_ok-len.ensures.text in
    record {
      text = value-reaches a.depth (bytes_of a.width) a.entry a.from c.in-Some-value_place.place a.ahead.now a.bytes.now (said a.out.now) (said c.append_value.new.out) c.in-Some-2.len c.requires.front c.in-Some-value_place.ensures.within
          (sym c.is_inlined.ensures ∙ c.if-is_inlined.false) (sym c.value_place.ensures.value ∙ c.in-Some-value_place.is) (rw c.in-Some-2.is at read) (omega (arith, c.if-len-bytes.false));
    }
