use Rattle.std.proofs.Common.{◌≡◌, ◌-◌, ◌+◌, ◌/◌, ◌<◌, ◌^◌, suc, [], unwrap_or, Some, None, slice_get, ◌∙◌, arith}
use Rattle.std.proofs.lemmas.List.{map-append}
use Rattle.binlog_table.specs.MapWords.{value_names_in}
use Rattle.binlog_json.specs.Encodings.{texts_of}
use Rattle.binlog_json.proofs.ValueNames.{name_at, half, members_taken, members_passed, members_unnamed, members_zero}
use Rattle.binlog_json.proofs.names.members_of.Goals as goal
use Rattle.binlog_json.proofs.names.members_of.Goals.{then-rest-eq1+in_ok-push, else-rest-eq1}

pub returns-in_default : goal.returns-in_default
returns-in_default c =
    let names = value_names_in c.args.image.now.table c.args.column in
    let at = c.loop-place.place in
    let none : None ≡ slice_get (unwrap_or names []) (at - 1) = c.in_default.ensures ∙ name_at names at c.loop-place.auto.place in
    members_unnamed (unwrap_or names []) (texts_of c.loop-place.members.items) (at - 1) c.loop-place.rest _ none c.loop-place.invariant.0

pub loop-place-preserved : goal.loop-place-preserved
loop-place-preserved c =
    let names = value_names_in c.args.image.now.table c.args.column in
    let at = c.loop-place.place in
    let some : Some c.in-Some.name.now ≡ slice_get (unwrap_or names []) (at - 1) = c.in-Some.ensures ∙ name_at names at c.loop-place.auto.place in
    let next : at + 1 - 1 ≡ suc (at - 1) = omega arith in
    let bound : 65 - at ≡ suc (65 - (at + 1)) = omega arith in
    let fewer : c.loop-place.rest / 2 < 2 ^ (65 - (at + 1)) = half c.loop-place.rest (65 - (at + 1)) (rw bound at c.loop-place.invariant.1) in
    elim c.if-rest-eq1.branch [
      | then-rest-eq1+in_ok-push w ↦
          (rw (next, w.members-is, w.in_ok-push.ensures.items, map-append) (members_taken (unwrap_or names []) (texts_of c.loop-place.members.items) (at - 1) c.loop-place.rest c.in-Some.name.now _ some w.if-rest-eq1.true c.loop-place.invariant.0), fewer)
      | else-rest-eq1 w ↦
          (rw (next, w.members-is) (members_passed (unwrap_or names []) (texts_of c.loop-place.members.items) (at - 1) c.loop-place.rest c.in-Some.name.now _ some w.if-rest-eq1.false c.loop-place.invariant.0), fewer)
    ]

pub returns : goal.returns
returns c =
    let names = value_names_in c.args.image.now.table c.args.column in
    let at = c.loop-place.place in
    let end : 65 - at ≡ 0 = omega arith in
    let small : c.loop-place.rest < 2 ^ 0 = rw end at c.loop-place.invariant.1 in
    members_zero _ (texts_of c.loop-place.members.items) _ c.loop-place.rest (omega arith) c.loop-place.invariant.0
