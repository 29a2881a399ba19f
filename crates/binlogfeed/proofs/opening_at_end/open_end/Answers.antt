use Rattle.std.proofs.Common.{◌<◌, length, refl, ◌∙◌, arith}
use Rattle.binlog_feed.specs.declared.start.Start.TheVariants.{After}
use Rattle.binlog_feed.proofs.Sources.{same_source, source_then}
use Rattle.binlogfeed.proofs.Beginning.{still_tells, still_unbegun}
use Rattle.binlogfeed.proofs.BeginningAtEnd.{told_refused, told_tells, told_unbegun}
use Rattle.binlogfeed.proofs.Keeping.{takes_from_first}
use Rattle.binlogfeed.proofs.opening_at_end.open_end.Goals as goal

pub ending-init : goal.ending-init
ending-init g c = record { source = same_source _; filter = refl; token = refl }

pub ending-preserved : goal.ending-preserved
ending-preserved g c =
    let inv = c.ending.invariant in
    let back = c.in-Err.ensures.handed_back in
    record { source = source_then _ _ _ inv.source back.source_back; filter = back.filter_back ∙ inv.filter; token = back.start_back ∙ inv.token }

pub ending-smaller : goal.ending-smaller
ending-smaller g c =
    let rises : length c.ending.window.items < length c.in-Ok-larger_window.larger.items = rw c.in-Ok-larger_window.ensures.larger at c.in-Err.ensures.handed_back.reason in
    omega (arith, rises, c.in-Ok-larger_window.ensures.fits)

pub returns-in-Ok-open_at_end : goal.returns-in-Ok-open_at_end
returns-in-Ok-open_at_end g c =
    let inv = c.ending.invariant in
    let kept = inv.source in
    let given = c.in-Ok-open_at_end.ensures in
    record {
      fits = λ h. rw (kept.same_names, kept.same_contents, inv.token) at (given.opened.fits h);
      goes_on = λ h. rw (kept.same_names, kept.same_contents, inv.token, inv.filter) at (given.opened.joins h);
      sound = given.sound;
      source = takes_from_first g.L.Logs c.args.logs c.ending.logs c.in-Ok-open_at_end.feed kept given.source;
      refused = tt;
      source_back = tt;
      named = tt;
      told = tt;
      failed = tt;
    }

pub returns-in-Err-larger_window : goal.returns-in-Err-larger_window
returns-in-Err-larger_window g c =
    let inv = c.ending.invariant in
    let kept = inv.source in
    let logs = c.ending.logs in
    let back = c.in-Err.ensures in
    let why = c.in-Err-larger_window.fault in
    let ends = c.in-Err-larger_window.ensures.refused in
    let after = g.L.Logs.failures c.in-Err.logs_back in
    let told = still_tells (g.L.Logs.names logs) (length c.ending.window.items) (g.L.Logs.failures c.args.logs) (g.L.Logs.failures logs) after c.in-Err.fault why kept.no_fewer back.handed_back.reason ends in
    let again = told_tells (g.L.Logs.names logs) (g.L.Logs.failures c.args.logs) after why told in
    rw c.told_at_end.ensures (record {
      fits = tt;
      goes_on = tt;
      sound = tt;
      source = tt;
      refused = λ h. rw (kept.same_names, kept.same_contents, inv.token) at (told_refused (g.L.Logs.names logs) (g.L.Logs.contents logs) c.ending.token c.in-Err.fault why (back.refused h) ends);
      source_back = source_then _ _ _ kept back.handed_back.source_back;
      named = rw kept.same_names at again.0;
      told = rw (kept.same_names, kept.same_contents, inv.token) at (told_unbegun (g.L.Logs.names logs) (g.L.Logs.contents logs) (After c.ending.token) why
          (still_unbegun (g.L.Logs.names logs) (g.L.Logs.contents logs) (After c.ending.token) (length c.ending.window.items) (g.L.Logs.failures logs) after c.in-Err.fault why back.handed_back.reason back.handed_back.named ends));
      failed = again.1;
    })
