-- The written form of a GTID set (MySQL's manual, "GTID Sets"): servers in the order of their bytes, parted by
-- commas, each followed by its intervals, parted by colons: those without a tag, then each tag and those with it.
use Rattle.std.specs.Prelude.{ℕ, List, [], ◌∷◌, ◌++◌, ◌==◌, if◌then◌else◌, decimal}
use Rattle.std.specs.Int.{to_be_bytes, w128}
use Rattle.uuid.specs.Text.{hyphenated_text, lower}
use Rattle.binlog_select.specs.declared.interval.Interval.{Interval}
use Rattle.binlog_select.specs.SetText.{colon, comma, hyphen}
use Rattle.binlog_select.specs.Tags.{rank, tag_bytes}
use Rattle.binlog_select.specs.declared.source.Source.{Source}

-- a UUID in the hyphenated form, lower case
abbrev pub source_text : ℕ → List ℕ
source_text source = hyphenated_text lower (to_be_bytes w128 source)

-- one number, or the first and the last
abbrev pub interval_text : Interval → List ℕ
interval_text i = if i.first == i.last then decimal i.first else decimal i.first ++ hyphen ∷ decimal i.last

-- a colon and the source's tag, where it has one
abbrev pub tag_text : Source → List ℕ
tag_text source = if source.high == 0 then [] else colon ∷ tag_bytes source.high ++ tag_bytes source.low

-- what names the next interval's source behind one of another: its server, where that is another one too, and its tag
abbrev pub next_source : Source → Source → List ℕ
next_source source next =
    if rank next == rank source then [] else (if next.server == source.server then [] else comma ∷ source_text next.server) ++ tag_text next

abbrev pub next_text : Source → Interval → List ℕ
next_text source i = next_source source i.source ++ colon ∷ interval_text i

abbrev pub next_texts : Source → List Interval → List ℕ
next_texts source [] = []
next_texts source (i ∷ is) = next_text source i ++ next_texts i.source is

-- the whole set
abbrev pub written : List Interval → List ℕ
written [] = []
written (i ∷ is) = source_text i.source.server ++ (tag_text i.source ++ (colon ∷ interval_text i ++ next_texts i.source is))
