-- The order of sources by their ranks.
use Rattle.std.proofs.Common.{◌≡◌, arith}
use Rattle.std.specs.Ordering.{nat_cmp, ordering_then}
use Rattle.std.specs.declared.cmp.Ordering.{Ordering}
use Rattle.binlog_select.specs.Tags.{IsSource, rank}
use Rattle.binlog_select.specs.declared.source.Source.{Source}

-- equal ranks are of one source
pub same_source : (a b : Source) → IsSource a → IsSource b → rank a ≡ rank b → a ≡ b
unfolding rank
same_source a b a-is b-is same =
    let a-high = a-is.high in
    let a-low = a-is.low in
    let b-high = b-is.high in
    let b-low = b-is.low in
    let servers : a.server ≡ b.server = omega arith in
    let highs : a.high ≡ b.high = omega arith in
    let lows : a.low ≡ b.low = omega arith in
    λ i. record { server = servers i; high = highs i; low = lows i }

-- the order of a source's parts
abbrev pub by_source : Source → Source → Ordering
by_source a b = ordering_then (nat_cmp a.server b.server) (ordering_then (nat_cmp a.high b.high) (nat_cmp a.low b.low))
