-- How sorted intervals are joined: what `IsJoined` and `IsMember` say of the outcome is the contract.
use Rattle.std.specs.Prelude.{◌+◌, Bool, ◌==◌, ◌&&◌, nat_le, max, if◌then◌else◌, List, [], ◌∷◌}
use Rattle.binlog_select.specs.declared.interval.Interval.{Interval}
use Rattle.binlog_select.specs.Tags.{rank}

-- an interval begins within another of its source, or right behind it
abbrev pub touches : Interval → Interval → Bool
touches i next = (rank i.source == rank next.source) && nat_le next.first (i.last + 1)

abbrev pub united : Interval → Interval → Interval
united i next = record { source = i.source; first = i.first; last = max i.last next.last }

-- each interval joined to the next where the two touch
abbrev pub merged : Interval → List Interval → List Interval
merged i [] = i ∷ []
merged i (next ∷ rest) = if touches i next then merged (united i next) rest else i ∷ merged next rest
