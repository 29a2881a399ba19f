use Rattle.std.proofs.Common.{◌+◌, ◌∷◌, [], true, drop, length-set, refl, sym, subst, ◌∙◌, arith}
use Rattle.binlog_table.specs.declared.cell_places.CellPlace.{CellPlace}
use Rattle.binlog_table.specs.CellPlaces.{Fits}
use Rattle.binlog_table.proofs.Options.{stops_at, goes_on}
use Rattle.binlog_table.proofs.CellWalk.{present-step, walk-ends}
use Rattle.binlog_table.proofs.PlacedCells.{present_more, fits_none, put_next, put_all}
use Rattle.binlog_table.proofs.steps.place_steps.Goals as goal

pub returns-in_err-len-clause-value : goal.returns-in_err-len-clause-value
returns-in_err-len-clause-value g c = λ present all.
    let null = c.bit_of-is_null.ensures (λ a. c.requires.nulls a c.loop-place.place) in
    let step = present-step c.args.columns.now present c.args.nulls.now c.loop-place.place c.index-columns-place.result _ c.loop-place.at c.args.body.now _ c.loop-place-test.true c.index-columns-place.is all null (c.loop-place.invariant.ends present all) in
    rw c.from_residual.ensures (stops_at _ _ _ c.in_err-len.ensures.value step)

pub loop-place-preserved : goal.loop-place-preserved
loop-place-preserved g c =
    let columns = c.args.columns.now in
    let nulls = c.args.nulls.now in
    let null = c.bit_of-is_null.ensures (λ a. c.requires.nulls a c.loop-place.place) in
    let value = c.in_ok-len.ensures.value in
    record {
      front = omega (arith, c.loop-place.invariant.front);
      within = omega (arith, c.in_ok-len.ensures.within);
      room = length-set _ _ _ ∙ c.loop-place.invariant.room;
      ends = λ present all. goes_on _ c.in_ok-len.len _ _ value (present-step columns present nulls c.loop-place.place c.index-columns-place.result _ c.loop-place.at c.args.body.now _ c.loop-place-test.true c.index-columns-place.is all null (c.loop-place.invariant.ends present all));
      rest = λ present more all h.
          let p : CellPlace = record { is_present = true; is_null = c.bit_of-is_null.result; start = c.loop-place.at; end = c.loop-place.at + c.in_ok-len.len } in
          let fits = present_more columns c.loop-place.place c.loop-place.at c.in_ok-len.len present nulls c.args.body.now c.index-columns-place.result p more _ c.loop-place-test.true c.index-columns-place.is all null value refl refl refl refl (omega (arith, c.in_ok-len.ensures.within)) h in
          subst (λ l. Fits c.args.columns.now present c.args.nulls.now 0 0 c.args.start c.args.body.now l) (sym (put_next c.loop-place.places c.loop-place.place p more (omega (arith, c.loop-place.invariant.room)))) (c.loop-place.invariant.rest present (p ∷ more) all fits);
    }

pub returns-clause-value : goal.returns-clause-value
returns-clause-value g c = λ present all.
    walk-ends c.args.columns.now present c.args.nulls.now c.loop-place.place c.loop-place.place c.loop-place.at (drop c.loop-place.at c.args.body.now) _ c.loop-place-test.false (c.loop-place.invariant.ends present all)

pub returns-clause-places : goal.returns-clause-places
returns-clause-places g c = λ some present all.
    put_all c.args.columns.now present c.args.nulls.now c.args.start c.args.body.now c.loop-place.places c.loop-place.place (omega (arith, c.loop-place.invariant.room)) (c.loop-place.invariant.rest present [] all (fits_none c.args.columns.now c.loop-place.place c.loop-place.place c.loop-place.at present c.args.nulls.now c.args.body.now (omega arith)))
