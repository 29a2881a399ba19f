use Rattle.std.proofs.Common.{◌≡◌, ◌-◌, ◌^◌, length}
use Rattle.binlog_frame.specs.Logs.{KeepsSource}
use Rattle.binlogfeed.proofs.opening_at_end.open_end.Given as goal

abbrev pub invariant-ending : goal.invariant-ending
invariant-ending g l = record {
  source : KeepsSource g.L.Logs.names g.L.Logs.contents g.L.Logs.lengths g.L.Logs.honest g.L.Logs.failures l.initial.logs l.logs;
  filter : l.filter ≡ l.initial.filter;
  token : l.token ≡ l.initial.token;
}

abbrev pub decreases-ending : goal.decreases-ending
decreases-ending g l = 2 ^ 32 - length l.window.items
