use Rattle.std.proofs.Common.{sym, arith}
use Rattle.float_text.proofs.Tests.{test_is, zero_unread, huge_unread}
use Rattle.float_text.proofs.search.reads_back.Goals as goal

pub returns-then-digits-eq0-clause-same : goal.returns-then-digits-eq0-clause-same
returns-then-digits-eq0-clause-same g c = sym (zero_unread g.F.RawFloat.format c.args.bits c.args.digits c.args.power c.requires.finite c.if-digits-eq0.true)

pub returns-then-power-gt-GREATEST_POWER-clause-same : goal.returns-then-power-gt-GREATEST_POWER-clause-same
returns-then-power-gt-GREATEST_POWER-clause-same g c =
    sym (huge_unread g.F.RawFloat.format c.args.bits c.args.digits c.args.power c.requires.finite (omega (arith, c.if-digits-eq0.false)) (omega (arith, c.if-power-gt-GREATEST_POWER.true)))

pub returns-clause-same : goal.returns-clause-same
returns-clause-same g c = sym (test_is g.F.RawFloat.format c.args.bits c.args.digits c.args.power _ c.requires.power c.nearest_bits.ensures)
