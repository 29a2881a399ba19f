-- The GTIDs of a set.
use Rattle.std.specs.Prelude.{ℕ, List, []}
use Rattle.std.specs.Int.{from_be_bytes, w128}
use Rattle.binlog_select.specs.declared.interval.Interval.{Interval}
use Rattle.binlog_select.specs.Intervals.{IsMember}
use Rattle.binlog_select.specs.Tags.{named, rank}

-- a UUID as the number of its 128 bits, the first byte highest (RFC 9562, section 4)
abbrev pub source_number : List ℕ → ℕ
source_number uuid = from_be_bytes w128 uuid

-- the rank of the source with a UUID and a tag, which is empty where there is none
abbrev pub source_rank : List ℕ → List ℕ → ℕ
source_rank source tag = rank (named (source_number source) tag)

-- the set has the GTID of a source, a tag and a number
abbrev pub HasTaggedGtid : List Interval → List ℕ → List ℕ → ℕ → Type 0
HasTaggedGtid set source tag number = IsMember set (source_rank source tag) number

-- the set has the GTID of a source and a number, without a tag
abbrev pub HasGtid : List Interval → List ℕ → ℕ → Type 0
HasGtid set source number = HasTaggedGtid set source [] number
