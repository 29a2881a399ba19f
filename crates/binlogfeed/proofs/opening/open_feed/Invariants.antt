use Rattle.std.proofs.Common.{◌≡◌, ◌-◌, ◌^◌, length}
use Rattle.binlog_frame.specs.Logs.{KeepsSource}
use Rattle.binlogfeed.proofs.opening.open_feed.Given as goal

abbrev pub invariant-opening : goal.invariant-opening
invariant-opening g l = record {
  source : KeepsSource g.L.Logs.names g.L.Logs.contents g.L.Logs.lengths g.L.Logs.honest g.L.Logs.failures l.initial.logs l.logs;
  filter : l.filter ≡ l.initial.filter;
  start : l.start ≡ l.initial.start;
}

abbrev pub decreases-opening : goal.decreases-opening
decreases-opening g l = 2 ^ 32 - length l.window.items
