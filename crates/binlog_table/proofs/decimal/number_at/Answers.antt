use Rattle.std.proofs.Common.{◌≡◌, drop, arith}
use Rattle.std.proofs.lemmas.List.{take_rest}
use Rattle.byteorder.specs.Endian.{big_number}
use Rattle.byteorder.specs.Numbers.{big_from-lt}
use Rattle.binlog_table.proofs.PlainBytes.{bytes_fit, drop_fits, behind-negative, behind-positive, first-negative, first-positive}
use Rattle.binlog_table.proofs.decimal.number_at.Goals as goal
use Rattle.binlog_table.proofs.decimal.number_at.Goals.{then-text-lt128, else-text-lt128}

pub overflow_sub-number : goal.overflow_sub-number
overflow_sub-number c =
    let text = c.args.text.now in
    omega (arith, c.spelled-count.ensures, big_from-lt 0 c.args.width (drop c.args.at text) (drop_fits c.args.at text (bytes_fit text c.type_inv.text)))

pub overflow_sub-number-then-text-lt128 : goal.overflow_sub-number-then-text-lt128
overflow_sub-number-then-text-lt128 c =
    let text = c.args.text.now in
    let stored : c.big-stored.result ≡ big_number c.args.width (drop c.args.at text) = rw take_rest at c.big-stored.ensures in
    omega (arith, c.spelled-count.ensures, big_from-lt 0 c.args.width (drop c.args.at text) (drop_fits c.args.at text (bytes_fit text c.type_inv.text)))

pub overflow_sub-result : goal.overflow_sub-result
overflow_sub-result c =
    let text = c.args.text.now in
    let stored : c.big-stored.result ≡ big_number c.args.width (drop c.args.at text) = rw take_rest at c.big-stored.ensures in
    elim c.if-text-lt128.branch [
      | then-text-lt128 w ↦ omega (arith, c.spelled-count.ensures, first-negative text c.args.at c.args.width (bytes_fit text c.type_inv.text) c.if-at-eq0.true c.requires.some (omega arith) w.if-text-lt128.true)
      | else-text-lt128 w ↦ omega (arith, c.spelled-count.ensures, first-positive text c.args.at c.args.width c.if-at-eq0.true c.requires.some w.if-text-lt128.false)
    ]

pub returns-then-at-eq0 : goal.returns-then-at-eq0
returns-then-at-eq0 c =
    let text = c.args.text.now in
    let stored : c.big-stored.result ≡ big_number c.args.width (drop c.args.at text) = rw take_rest at c.big-stored.ensures in
    elim c.if-text-lt128.branch [
      | then-text-lt128 w ↦ omega (arith, c.spelled-count.ensures, first-negative text c.args.at c.args.width (bytes_fit text c.type_inv.text) c.if-at-eq0.true c.requires.some (omega arith) w.if-text-lt128.true)
      | else-text-lt128 w ↦ omega (arith, c.spelled-count.ensures, first-positive text c.args.at c.args.width c.if-at-eq0.true c.requires.some w.if-text-lt128.false)
    ]

pub returns-else-at-eq0 : goal.returns-else-at-eq0
returns-else-at-eq0 c =
    let text = c.args.text.now in
    let stored : c.big-stored.result ≡ big_number c.args.width (drop c.args.at text) = rw take_rest at c.big-stored.ensures in
    elim c.if-text-lt128.branch [
      | then-text-lt128 w ↦ omega (arith, c.spelled-count.ensures, behind-negative text c.args.at c.args.width (bytes_fit text c.type_inv.text) (omega arith) c.requires.room w.if-text-lt128.true)
      | else-text-lt128 w ↦ omega (arith, behind-positive text c.args.at c.args.width (omega arith) w.if-text-lt128.false)
    ]
