use Rattle.std.proofs.Common.{◌<◌, length, refl, ◌∙◌, arith}
use Rattle.binlog_feed.proofs.Sources.{same_source, source_then}
use Rattle.binlogfeed.proofs.Beginning.{still_refused, still_tells, still_unbegun}
use Rattle.binlogfeed.proofs.Keeping.{takes_from_first}
use Rattle.binlogfeed.proofs.opening.open_feed.Goals as goal

pub opening-init : goal.opening-init
opening-init g c = record { source = same_source _; filter = refl; start = refl }

pub opening-preserved : goal.opening-preserved
opening-preserved g c =
    let inv = c.opening.invariant in
    let back = c.in-Err.ensures.handed_back in
    record { source = source_then _ _ _ inv.source back.source_back; filter = back.filter_back ∙ inv.filter; start = back.start_back ∙ inv.start }

pub opening-smaller : goal.opening-smaller
opening-smaller g c =
    let rises : length c.opening.window.items < length c.in-Ok-larger_window.larger.items = rw c.in-Ok-larger_window.ensures.larger at c.in-Err.ensures.handed_back.reason in
    omega (arith, rises, c.in-Ok-larger_window.ensures.fits)

pub returns-in-Ok : goal.returns-in-Ok
returns-in-Ok g c =
    let inv = c.opening.invariant in
    let given = c.in-Ok.ensures in
    record {
      begins = λ h. rw (inv.source.same_names, inv.source.same_contents, inv.start, inv.filter) at (given.opened.begins h);
      sound = given.sound;
      source = takes_from_first g.L.Logs c.args.logs c.opening.logs c.in-Ok.feed inv.source given.source;
      refused = tt;
      source_back = tt;
      filter_back = tt;
      start_back = tt;
      named = tt;
      told = tt;
      failed = tt;
    }

pub returns-in-Err-larger_window : goal.returns-in-Err-larger_window
returns-in-Err-larger_window g c =
    let inv = c.opening.invariant in
    let kept = inv.source in
    let logs = c.opening.logs in
    let back = c.in-Err.ensures in
    let why = c.in-Err-larger_window.fault in
    let ends = c.in-Err-larger_window.ensures.refused in
    let told = still_tells (g.L.Logs.names logs) (length c.opening.window.items) (g.L.Logs.failures c.args.logs) (g.L.Logs.failures logs) (g.L.Logs.failures c.in-Err.logs_back) c.in-Err.fault why kept.no_fewer back.handed_back.reason ends in
    record {
      begins = tt;
      sound = tt;
      source = tt;
      refused = λ h. rw (kept.same_names, kept.same_contents, inv.start) at (still_refused (g.L.Logs.names logs) (g.L.Logs.contents logs) c.opening.start c.in-Err.fault why (back.refused.judged h) ends);
      source_back = source_then _ _ _ kept back.handed_back.source_back;
      filter_back = back.handed_back.filter_back ∙ inv.filter;
      start_back = back.handed_back.start_back ∙ inv.start;
      named = rw kept.same_names at told.0;
      told = rw (kept.same_names, kept.same_contents, inv.start) at (still_unbegun (g.L.Logs.names logs) (g.L.Logs.contents logs) c.opening.start (length c.opening.window.items) (g.L.Logs.failures logs) (g.L.Logs.failures c.in-Err.logs_back) c.in-Err.fault why back.handed_back.reason back.handed_back.named ends);
      failed = told.1;
    }
