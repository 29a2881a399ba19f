use Rattle.std.proofs.Common.{◌≡◌, ◌≤◌, ◌+◌, length, All, take, drop, Some}
use Rattle.binlog_select.specs.Intervals.{IsInterval}
use Rattle.binlog_select.specs.Parts.{parts}
use Rattle.binlog_select.specs.SetText.{comma, reading}
use Rattle.binlog_select.proofs.set_text.read_elements.Given as goal

abbrev pub invariant-loop-element : goal.invariant-loop-element
invariant-loop-element l =
    (drop l.at (parts comma l.text) ≡ parts comma l.rest)
    × (reading l.profile (take l.at (parts comma l.text)) ≡ Some l.intervals.items)
    × All IsInterval l.intervals.items
    × (l.at + length l.rest ≤ length l.text)

abbrev pub decreases-loop-element : goal.decreases-loop-element
decreases-loop-element l = length l.rest
