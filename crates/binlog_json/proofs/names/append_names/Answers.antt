use Rattle.std.proofs.Common.{◌≡◌, ◌-◌, ◌+◌, ◌<◌, ◌^◌, suc, [], unwrap_or, Some, None, slice_get, ◌∙◌, arith}
use Rattle.binlog_table.specs.MapWords.{value_names_in}
use Rattle.binlog_json.proofs.ValueNames.{name_at, ended_unnamed, ended_zero, joined_more, half}
use Rattle.binlog_json.proofs.names.append_names.Goals as goal

pub returns-in_default : goal.returns-in_default
returns-in_default c =
    let names = value_names_in c.args.image.now.table c.args.column in
    let at = c.loop-place.place in
    let none : None ≡ slice_get (unwrap_or names []) (at - 1) = c.in_default.ensures ∙ name_at names at c.loop-place.auto.place in
    ended_unnamed c.args.text.now.items _ (unwrap_or names []) c.args.number c.loop-place.rest (at - 1) c.loop-place.later c.loop-place.invariant.0 none

pub loop-place-preserved : goal.loop-place-preserved
loop-place-preserved c =
    let names = value_names_in c.args.image.now.table c.args.column in
    let at = c.loop-place.place in
    let some : Some c.in-Some.name.now ≡ slice_get (unwrap_or names []) (at - 1) = c.in-Some.ensures ∙ name_at names at c.loop-place.auto.place in
    let next : at + 1 - 1 ≡ suc (at - 1) = omega arith in
    let more = joined_more c.args.text.now.items _ c.append_member.new.text.items c.in-Some.name.now (unwrap_or names []) c.args.number c.loop-place.rest (at - 1) c.loop-place.later c.in_ok-later.later
    c.loop-place.invariant.0 some c.in_ok-later.ensures.text c.in_ok-later.ensures.later in
    let bound : 65 - at ≡ suc (65 - (at + 1)) = omega arith in
    (rw next more, half c.loop-place.rest (65 - (at + 1)) (rw bound at c.loop-place.invariant.1))

pub returns : goal.returns
returns c =
    let names = value_names_in c.args.image.now.table c.args.column in
    let at = c.loop-place.place in
    let end : 65 - at ≡ 0 = omega arith in
    let small : c.loop-place.rest < 2 ^ 0 = rw end at c.loop-place.invariant.1 in
    ended_zero c.args.text.now.items _ (unwrap_or names []) _ c.args.number c.loop-place.rest c.loop-place.later c.loop-place.invariant.0 (omega arith)
