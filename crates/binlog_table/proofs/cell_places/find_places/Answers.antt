use Rattle.std.proofs.Common.{◌≡◌, ◌+◌, ◌∷◌, [], Some, None, cond, drop, append_assoc, append-nil, refl, sym, subst, ap, ◌∙◌, arith}
use Rattle.std.proofs.lemmas.List.{take_rest, drop-drop}
use Rattle.binlog_table.specs.declared.cell_places.CellPlace.{CellPlace}
use Rattle.binlog_table.specs.Image.{bit, cells_at, IsRead}
use Rattle.binlog_table.proofs.PlacedCells.{first_read, fits_more, fits_none}
use Rattle.binlog_table.proofs.cell_places.find_places.Goals as goal
use Rattle.binlog_table.proofs.cell_places.find_places.Goals.{then-is_present, else-is_present}

pub returns-in_default : goal.returns-in_default
returns-in_default c =
    let f = first_read c.args.columns.now c.loop-place.place c.loop-place.null_place c.args.present.now c.args.nulls.now c.index-columns-place.result (drop c.loop-place.start c.args.values.now) c.loop-place-test.true c.index-columns-place.is c.loop-place.invariant.read in
    let none : None ≡ Some f.len = c.in_default.ensures.value f.cell f.len (rw (c.bit-is_present.ensures, c.bit-is_null.ensures, take_rest c.args.values.now c.loop-place.start) f.is) in
    absurd cc

pub loop-place-preserved : goal.loop-place-preserved
loop-place-preserved c =
    let f = first_read c.args.columns.now c.loop-place.place c.loop-place.null_place c.args.present.now c.args.nulls.now c.index-columns-place.result (drop c.loop-place.start c.args.values.now) c.loop-place-test.true c.index-columns-place.is c.loop-place.invariant.read in
    let some : Some c.in-Some.len ≡ Some f.len = c.in-Some.ensures.value f.cell f.len (rw (c.bit-is_present.ensures, c.bit-is_null.ensures, take_rest c.args.values.now c.loop-place.start) f.is) in
    let len : c.in-Some.len ≡ f.len = cc in
    let next : c.if-is_present.null_place ≡ cond (bit c.args.present.now c.loop-place.place) (c.loop-place.null_place + 1) c.loop-place.null_place = elim c.if-is_present.branch [ then-is_present w ↦ grind arith | else-is_present w ↦ grind arith ] in
    let moved : drop f.len (drop c.loop-place.start c.args.values.now) ≡ drop (c.loop-place.start + c.in-Some.len) c.args.values.now = drop-drop f.len c.loop-place.start c.args.values.now ∙ ap (λ n. drop (c.loop-place.start + n) c.args.values.now) (sym len) in
    record {
      within = omega (arith, c.in-Some.ensures.within);
      nulls = elim c.if-is_present.branch [ then-is_present w ↦ omega arith | else-is_present w ↦ omega arith ];
      read = rw next (subst (λ bytes. IsRead (cells_at (drop (c.loop-place.place + 1) c.args.columns.now) c.args.present.now c.args.nulls.now (c.loop-place.place + 1) (cond (bit c.args.present.now c.loop-place.place) (c.loop-place.null_place + 1) c.loop-place.null_place) bytes)) moved f.read);
      rest = λ more. λ h.
          let p : CellPlace = record { is_present = c.bit-is_present.result; is_null = c.bit-is_null.result; start = c.loop-place.start; end = c.loop-place.start + c.in-Some.len } in
          let fits = fits_more c.args.columns.now c.loop-place.place c.loop-place.null_place c.loop-place.start c.in-Some.len c.args.present.now c.args.nulls.now c.args.values.now c.index-columns-place.result p more f.cell c.loop-place-test.true c.index-columns-place.is (f.is ∙ ap (λ n. Some (f.cell, n)) (sym len)) c.bit-is_present.ensures c.bit-is_null.ensures refl refl (omega (arith, c.in-Some.ensures.within)) (rw next at h) in
          rw (c.in_ok-push.ensures.items, append_assoc) (c.loop-place.invariant.rest (p ∷ more) fits);
    }

pub returns : goal.returns
returns c =
    let all = fits_none c.args.columns.now c.loop-place.place c.loop-place.null_place c.loop-place.start c.args.present.now c.args.nulls.now c.args.values.now (omega arith) in
    rw append-nil at (c.loop-place.invariant.rest [] all)
