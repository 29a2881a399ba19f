use Rattle.std.proofs.Common.{◌≡◌, length, All}
use Rattle.binlog_select.specs.Appending.{appended}
use Rattle.binlog_select.specs.Intervals.{IsInterval}
use Rattle.binlog_select.specs.Parts.{parts}
use Rattle.binlog_select.specs.Tags.{IsSource}
use Rattle.binlog_select.specs.SetText.{colon, intervals_of}
use Rattle.binlog_select.proofs.set_text.push_intervals.Given as goal

abbrev pub invariant-loop-part : goal.invariant-loop-part
invariant-loop-part l =
    (appended l.intervals.items (intervals_of l.profile l.source (parts colon l.rest)) ≡ appended l.initial.intervals.items (intervals_of l.fn.profile l.fn.source (parts colon l.text)))
    × All IsInterval l.intervals.items
    × IsSource l.source

abbrev pub decreases-loop-part : goal.decreases-loop-part
decreases-loop-part l = length l.rest
