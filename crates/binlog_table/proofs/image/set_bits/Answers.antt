use Rattle.std.proofs.Common.{◌≡◌, ◌<◌, ◌*◌, ◌%◌, ◌^◌, ◌∙◌, sym, ap, get_or, arith}
use Rattle.std.proofs.lemmas.Nat.{one_shl, ones-le}
use Rattle.binlog_table.specs.Image.{set_bits}
use Rattle.binlog_table.proofs.SetBits.{set_bits-front, set_bits-byte, set_bits-behind, count_ones-front}
use Rattle.binlog_table.proofs.image.set_bits.Goals as goal

pub overflow_add-result : goal.overflow_add-result
overflow_add-result c =
    let mask : 1 * 2 ^ c.loop-byte.left % 256 ≡ 2 ^ c.loop-byte.left = one_shl c.loop-byte.left 8 c.if-left-lt8.true in
    rw mask (omega (arith, count_ones-front (get_or c.args.bitmap.now c.loop-byte.byte-index 0) c.loop-byte.left))

pub returns-then-left-lt8 : goal.returns-then-left-lt8
returns-then-left-lt8 c =
    let mask : 1 * 2 ^ c.loop-byte.left % 256 ≡ 2 ^ c.loop-byte.left = one_shl c.loop-byte.left 8 c.if-left-lt8.true in
    let front = set_bits-front c.args.bitmap.now c.loop-byte.byte-index c.loop-byte.left (omega arith) in
    let few = count_ones-front (get_or c.args.bitmap.now c.loop-byte.byte-index 0) c.loop-byte.left in
    record { value = rw mask (omega (arith, front, ap (set_bits c.args.bitmap.now) c.loop-byte.invariant.left)); bound = rw mask (omega (arith, few)) }

pub loop-byte-preserved : goal.loop-byte-preserved
loop-byte-preserved c =
    let fits : get_or c.args.bitmap.now c.loop-byte.byte-index 0 < 256 = omega (arith, c.type_inv.bitmap c.loop-byte.byte-index) in
    record {
      counted = omega (arith, set_bits-byte c.args.bitmap.now c.loop-byte.byte-index fits);
      few = omega (arith, ones-le 8 (get_or c.args.bitmap.now c.loop-byte.byte-index 0) fits);
      left = omega arith;
    }

pub returns-clause-value : goal.returns-clause-value
returns-clause-value c =
    let behind = set_bits-behind c.args.bitmap.now (8 * c.loop-byte.byte-index) c.loop-byte.left (omega arith) in
    c.loop-byte.invariant.counted ∙ sym behind ∙ ap (set_bits c.args.bitmap.now) c.loop-byte.invariant.left
