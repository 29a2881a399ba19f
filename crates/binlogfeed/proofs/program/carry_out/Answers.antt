use Rattle.std.proofs.Common.{List, ℕ, refl, sym, subst, ◌∙◌}
use Rattle.binlog_frame.specs.FileLogs.{names_of, held_of, is_honest, failures_of}
use Rattle.binlog_frame.specs.Files.{AreLastParts}
use Rattle.binlogfeed.specs.Words.{texts}
use Rattle.binlogfeed.proofs.OverFiles.{ends_over, run_is_status, unopened_is_status}
use Rattle.binlogfeed.proofs.program.carry_out.Goals as goal

pub returns-in-Ok : goal.returns-in-Ok
returns-in-Ok g c =
    let opened = c.in-Ok.logs in
    let logs = c.run_task-logs.result.0 in
    let answer = c.run_task-logs.result.1 in
    let ran = c.run_task-logs.ensures in
    record {
      names = subst (λ (names : List (List ℕ)). AreLastParts (texts c.args.paths.now) names) (sym ran.source.same_names) c.in-Ok.ensures.names;
      held = ran.source.same_contents ∙ c.in-Ok.ensures.contents;
      ends = ends_over c.args.task (names_of opened) (names_of logs) (held_of opened) (record { profile = c.args.profile; files = g.contents }) (failures_of opened) (failures_of logs) (is_honest logs)
          (g.W.Write.contents c.args.out.now) (g.W.Write.contents c.run_task-logs.new.out) c.status_after-status.result
          ran.source.same_names c.in-Ok.ensures.contents c.in-Ok.ensures.fresh.1
          (answer, ran.answers, rw ran.source.same_names at ran.named, ran.failed, c.status_after-status.ensures);
      refused = λ none. absurd (cc);
      is_status = rw c.status_after-status.ensures (run_is_status answer);
    }

pub returns-in-Err : goal.returns-in-Err
returns-in-Err g c = record {
  names = tt;
  held = tt;
  ends = tt;
  refused = λ none. ((c.in-Err.fault, c.in-Err.ensures.refused, c.refuse_open.ensures), refl);
  is_status = rw c.refuse_open.ensures (unopened_is_status c.in-Err.fault);
}
