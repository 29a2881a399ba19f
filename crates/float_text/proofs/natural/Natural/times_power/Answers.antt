use Rattle.std.proofs.Common.{arith}
use Rattle.float_text.proofs.LimbSums.{some_factors}
use Rattle.float_text.proofs.natural.Natural.times_power.Goals as goal

pub times-requires : goal.times-requires
times-requires c =
    let l = c.loop-left in
    let parts = some_factors c.args.base c.args.step l.self l.left (omega (arith, c.requires.base)) (omega arith) in
    rw c.pow-factor.ensures (omega (arith, parts.1, l.invariant, c.requires.room))

pub loop-left-preserved : goal.loop-left-preserved
loop-left-preserved c =
    let l = c.loop-left in
    let parts = some_factors c.args.base c.args.step l.self l.left (omega (arith, c.requires.base)) (omega arith) in
    rw (c.times.ensures, c.pow-factor.ensures) (omega (arith, parts.0, l.invariant))

pub pow-requires : goal.pow-requires
pow-requires c =
    let parts = some_factors c.args.base c.loop-left.left 1 c.args.step (omega (arith, c.requires.base)) (omega arith) in
    omega (arith, parts.2, c.requires.base)
