use Rattle.std.proofs.Common.{◌≡◌, ◌∙◌, ℕ, List, ◌+◌, ◌-◌, ◌/◌, ◌%◌, ◌^◌, ◌≤◌, length, take, drop, set, refl, ap, subst, arith}
use Rattle.std.proofs.lemmas.List.{take-set-le}
use Rattle.binlog_table.specs.Decimal.{digits_of}
use Rattle.binlog_json.specs.Texts.{digits_text}
use Rattle.binlog_json.proofs.SplitTexts.{pair_before, pair_left, last_before, all_before, digits_placed}
use Rattle.binlog_json.proofs.pieces.put_digits.Goals as goal
use Rattle.binlog_json.proofs.pieces.put_digits.Goals.{then-place-eq1, else-place-eq1}

pub loop-place-preserved : goal.loop-place-preserved
loop-place-preserved c =
    let l = c.loop-place in
    let at = c.args.at in
    let tens = c.pair-digits.result.0 in
    let ones = c.pair-digits.result.1 in
    let room : at + c.args.width ≤ length l.bytes = omega (arith, l.auto.bytes, c.requires) in
    record {
      within = omega (arith, l.invariant.within);
      before = take-set-le at (set l.bytes (at + (l.place - 2) + 1) ones) (at + (l.place - 2)) tens (omega arith) ∙ take-set-le at l.bytes (at + (l.place - 2) + 1) ones (omega arith) ∙ l.invariant.before;
      left = pair_left l.bytes at l.place c.args.width c.args.number l.left c.loop-place-test.true l.invariant.within room l.invariant.left;
      written = pair_before l.bytes at l.place c.args.width c.args.number l.left tens ones c.loop-place-test.true l.invariant.within room l.invariant.left c.pair-digits.ensures.tens c.pair-digits.ensures.ones l.invariant.written;
    }

pub returns : goal.returns
returns c =
    let l = c.loop-place in
    let at = c.args.at in
    let width = c.args.width in
    let number = c.args.number in
    let room : at + width ≤ length l.bytes = omega (arith, l.auto.bytes, c.requires) in
    let size : length c.if-place-eq1.bytes ≡ length c.args.bytes.now = c.if-place-eq1.auto.bytes ∙ l.auto.bytes in
    elim c.if-place-eq1.branch [
      | then-place-eq1 w ↦
          let one = w.if-place-eq1.true in
          let left : l.left ≡ number / 10 ^ (width - 1) = l.invariant.left ∙ ap (λ (k : ℕ). number / 10 ^ (width - k)) one in
          let written = subst (λ (k : ℕ). take (width - k) (drop (at + k) l.bytes) ≡ digits_text (digits_of (width - k) number)) one l.invariant.written in
          let some : 1 ≤ width = omega (arith, one, l.invariant.within) in
          digits_placed c.args.bytes.now c.if-place-eq1.bytes at width number (ap (take at) w.bytes-is ∙ take-set-le at l.bytes at (48 + l.left % 10) (omega arith) ∙ l.invariant.before) size
          (ap (λ (bs : List ℕ). take width (drop at bs)) w.bytes-is ∙ last_before l.bytes at width number l.left (48 + l.left % 10) some room left refl written)
      | else-place-eq1 w ↦
          let none : l.place ≡ 0 = omega (arith, w.if-place-eq1.false, c.loop-place-test.false) in
          digits_placed c.args.bytes.now c.if-place-eq1.bytes at width number (ap (take at) w.bytes-is ∙ l.invariant.before) size
          (ap (λ (bs : List ℕ). take width (drop at bs)) w.bytes-is ∙ all_before l.bytes at l.place width number none l.invariant.written)
    ]
