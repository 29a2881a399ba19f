use Rattle.float_text.proofs.Alone.{alone_is, alone_coarsest, alone_above, alone_below}
use Rattle.float_text.proofs.search.shortest_from.Goals as goal

pub returns-then-is_alone-clause-same : goal.returns-then-is_alone-clause-same
returns-then-is_alone-clause-same g c =
    let w = c.without_zeros-whole in
    alone_is g.F.RawFloat.format c.args.bits w.result.0 w.result.1 c.requires.finite w.ensures.reads (c.is_alone.ensures c.if-is_alone.true) w.ensures.sizes.0 w.ensures.sizes.3

pub returns-then-is_alone-clause-closest_above : goal.returns-then-is_alone-clause-closest_above
returns-then-is_alone-clause-closest_above g c =
    let w = c.without_zeros-whole in
    alone_above g.F.RawFloat.format c.args.bits w.result.0 w.result.1 c.requires.finite w.ensures.reads (c.is_alone.ensures c.if-is_alone.true)

pub returns-then-is_alone-clause-closest_below : goal.returns-then-is_alone-clause-closest_below
returns-then-is_alone-clause-closest_below g c =
    let w = c.without_zeros-whole in
    alone_below g.F.RawFloat.format c.args.bits w.result.0 w.result.1 c.requires.finite w.ensures.reads (c.is_alone.ensures c.if-is_alone.true)

pub returns-then-is_alone-clause-coarsest : goal.returns-then-is_alone-clause-coarsest
returns-then-is_alone-clause-coarsest g c =
    let w = c.without_zeros-whole in
    alone_coarsest g.F.RawFloat.format c.args.bits w.result.0 w.result.1 c.requires.finite w.ensures.reads (c.is_alone.ensures c.if-is_alone.true)
