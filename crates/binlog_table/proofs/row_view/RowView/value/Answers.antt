use Rattle.std.proofs.Common.{◌<◌, ◌≡◌, length, arith}
use Rattle.std.proofs.lemmas.Option.{MatchOption-at_some}
use Rattle.binlog_table.proofs.CellCounts.{row_image-count}
use Rattle.binlog_table.proofs.Cursor.{next_took}
use Rattle.binlog_table.proofs.row_view.RowView.value.Goals as goal

pub loop-preserved : goal.loop-preserved
loop-preserved c =
    let count = row_image-count c.self.inside.map.now c.self.inside.present.now c.self.inside.image.now c.args.self.now c.self.view_is c.self.invariant in
    let lt : c.loop.counter < length c.args.self.now.cells = omega arith in
    (next_took c.next-passed.result c.args.self.now.cells c.loop.cells c.next-passed.new.self c.loop.counter c.loop.invariant lt c.next-passed.ensures).left

pub unwrap-requires : goal.unwrap-requires
unwrap-requires c =
    let count = row_image-count c.self.inside.map.now c.self.inside.present.now c.self.inside.image.now c.args.self.now c.self.view_is c.self.invariant in
    let lt : c.loop.counter < length c.args.self.now.cells = omega arith in
    (next_took c.next.result c.args.self.now.cells c.loop.cells c.next.new.self c.loop.counter c.loop.invariant lt c.next.ensures).some

pub returns : goal.returns
returns c =
    let count = row_image-count c.self.inside.map.now c.self.inside.present.now c.self.inside.image.now c.args.self.now c.self.view_is c.self.invariant in
    let lt : c.loop.counter < length c.args.self.now.cells = omega arith in
    let all = c.loop.auto.counter-end in
    let at : c.loop.counter ≡ c.args.column = omega arith in
    rw (← at) (MatchOption-at_some _ (λ x. _) _ c.unwrap.ensures (next_took c.next.result c.args.self.now.cells c.loop.cells c.next.new.self c.loop.counter c.loop.invariant lt c.next.ensures).cell)
