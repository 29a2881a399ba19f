use Rattle.std.proofs.Common.{◌≡◌, ℕ, ◌<◌, length, None, arith}
use Rattle.std.proofs.lemmas.List.FromFn.{fill_by_all}
use Rattle.binlog_types.specs.ColumnTypes.{other_for}
use Rattle.binlog_types.proofs.Pairs.{no_pair_left}
use Rattle.binlog_types.proofs.collations.others_of.Goals as goal

pub returns : goal.returns
returns c =
    let long : length c.loop-rest.others.items ≡ c.args.count = omega arith in
    fill_by_all (λ index. other_for index c.args.pairs.now) c.loop-rest.others.items c.args.count None long
    (λ (k : ℕ) (below : k < c.args.count). no_pair_left c.loop-rest.others.items c.loop-rest.rest.now c.args.pairs.now k c.in_default.len_below (c.loop-rest.invariant.found k below))
