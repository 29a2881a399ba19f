use Rattle.std.proofs.Common.{subst}
use Rattle.binlog_feed.specs.Tokens.Judgement.{Fits}
use Rattle.binlogfeed.specs.Runs.{Output, Answers}
use Rattle.binlogfeed.proofs.Choosing.{history_wanted}
use Rattle.binlogfeed.proofs.history.run_history_as.Goals as goal

pub returns-clause-answers : goal.returns-clause-answers
returns-clause-answers g c = λ honest.
    let names = g.L.Logs.names c.args.logs in
    let contents = g.L.Logs.contents c.args.logs in
    let open_filter = c.new.ensures in
    subst (λ (output : Output). Answers names Fits output (g.W.Write.contents c.args.out.now) (g.W.Write.contents c.write_feed.new.out) c.write_feed.result.1)
    (history_wanted c.args.style names contents c.new.result c.args.schema.now c.args.table.now c.args.key.now (record {
      only_events = open_filter.only_events;
      only_tables = open_filter.only_tables;
      ignored_tables = open_filter.ignored_tables;
      only_schemas = open_filter.only_schemas;
      ignored_schemas = open_filter.ignored_schemas;
      auto_position = open_filter.auto_position;
    }))
    (c.write_feed.ensures.answers honest)
