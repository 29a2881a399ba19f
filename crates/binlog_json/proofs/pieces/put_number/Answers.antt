use Rattle.std.proofs.Common.{ℕ, ◌+◌, drop, ap, arith}
use Rattle.binlog_json.proofs.Places.{placed_digits}
use Rattle.binlog_json.proofs.pieces.put_number.Goals as goal

pub write_digits-requires : goal.write_digits-requires
write_digits-requires c = (omega (arith, c.requires.count), c.requires.room)

pub returns : goal.returns
returns c =
    let end = c.args.at + c.args.count in
    let digits = c.write_digits in
    placed_digits (drop end c.args.bytes.now) c.args.at digits.result end digits.ensures.start (ap (λ (n : ℕ). c.args.at + n) c.requires.count) digits.ensures.written digits.ensures.before digits.auto.buf
