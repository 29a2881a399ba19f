use Rattle.std.proofs.Common.{◌≡◌, ◌-◌, ◌/◌, ◌^◌, ◌*◌, ℕ, ap, ◌∙◌, drop}
use Rattle.std.proofs.lemmas.List.{take_rest}
use Rattle.byteorder.specs.Endian.{little_number}
use Rattle.binlog_table.proofs.PlainBytes.{bytes_fit}
use Rattle.binlog_table.proofs.LoadedBefore.{loaded}
use Rattle.binlog_table.proofs.number.little_before.Goals as goal

pub returns : goal.returns
returns c =
    let bytes = c.args.bytes.now in
    let read : c.read_u64.result ≡ little_number 8 (drop (c.args.end - 8) bytes) = rw take_rest at c.read_u64.ensures in
    ap (λ (n : ℕ). n / 2 ^ (64 - 8 * c.args.width)) read ∙ loaded bytes c.args.end c.args.width (bytes_fit bytes c.type_inv.bytes) c.requires.few c.requires.front
