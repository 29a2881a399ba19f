use Rattle.std.proofs.Common.{◌≡◌, ◌∙◌, ap, sym, ℕ, ℤ, List, SFits, to_z, of_z, to_z-of_z, w64}
use Rattle.byteorder.specs.Endian.{little_number, twos_complement}
use Rattle.binlog_table.proofs.number.little_signed.Goals as goal

-- what is read at a width that is written out is what is read at the width
at_width : (width n : ℕ) (bytes : List ℕ) (z : ℤ) → SFits w64 z → width ≡ n → z ≡ twos_complement n (little_number n bytes) → to_z w64 (of_z w64 z) ≡ twos_complement width (little_number width bytes)
at_width width n bytes z fits is e = to_z-of_z fits ∙ e ∙ ap (λ k. twos_complement k (little_number k bytes)) (sym is)

pub returns-in-1 : goal.returns-in-1
returns-in-1 c = at_width c.args.width 1 c.args.bytes.now c.read_int.result (record { sfits = c.read_int.type_inv }) c.in-1.is c.read_int.ensures

pub returns-in-2 : goal.returns-in-2
returns-in-2 c = at_width c.args.width 2 c.args.bytes.now c.read_int-in-2.result (record { sfits = c.read_int-in-2.type_inv }) c.in-2.is c.read_int-in-2.ensures

pub returns-in-3 : goal.returns-in-3
returns-in-3 c = at_width c.args.width 3 c.args.bytes.now c.read_int-in-3.result (record { sfits = c.read_int-in-3.type_inv }) c.in-3.is c.read_int-in-3.ensures

pub returns-in-4 : goal.returns-in-4
returns-in-4 c = at_width c.args.width 4 c.args.bytes.now c.read_int-in-4.result (record { sfits = c.read_int-in-4.type_inv }) c.in-4.is c.read_int-in-4.ensures

pub returns-in-8 : goal.returns-in-8
returns-in-8 c = at_width c.args.width 8 c.args.bytes.now c.read_int-in-8.result (record { sfits = c.read_int-in-8.type_inv }) c.in-8.is c.read_int-in-8.ensures

pub returns-in_default : goal.returns-in_default
returns-in_default c = to_z-of_z {w = w64} (record { sfits = c.read_int-in_default.type_inv }) ∙ c.read_int-in_default.ensures
