use Rattle.std.proofs.Common.{ap, ◌∙◌}
use Rattle.clap.specs.Words.{App}
use Rattle.clap.specs.Simple.{app_of_fields, new_app}
use Rattle.clap.specs.declared.builder.command.Command.{Command}
use Rattle.clap.specs.declared.builder.command.Command.TheOpen.{Command-F}
use Rattle.binlogfeed.specs.Commands.{with_options}
use Rattle.binlogfeed.specs.Words.{file_rule}
use Rattle.binlogfeed.proofs.Building.{adds_local, files_added, option_added}
use Rattle.binlogfeed.proofs.commands.subcommand.Goals as goal

pub options-init : goal.options-init
options-init c =
    let globals = λ (fields : Command-F Command). fields.has_globals in
    record {
      app = ap (λ (app : App). with_options app c.args.words.now.options.now) (ap app_of_fields c.after_help-command.ensures ∙ ap app_of_fields c.about.ensures ∙ c.new.ensures.app);
      local = ap globals c.after_help-command.ensures ∙ ap globals c.about.ensures ∙ c.new.ensures.local;
    }

pub options-preserved : goal.options-preserved
options-preserved c = record {
  app = option_added c.options.command c.in-Ok.more c.option_argument.result (with_options (new_app c.args.words.now.name.now) c.args.words.now.options.now) c.args.words.now.options.now c.options.option-index _
      c.options-test.true c.in-Ok.ensures c.option_argument.ensures.local c.option_argument.ensures.rule c.options.invariant.app;
  local = adds_local c.options.command c.option_argument.result c.in-Ok.more c.in-Ok.ensures c.option_argument.ensures.local c.options.invariant.local;
}

pub returns : goal.returns
returns c =
    files_added c.options.command c.arg-2.result c.file_argument.result (with_options (new_app c.args.words.now.name.now) c.args.words.now.options.now) (record file_rule { required = c.args.words.now.requires_files }) c.args.words.now.options.now c.options.option-index
    c.options-test.false c.arg-2.ensures c.file_argument.ensures.local c.file_argument.ensures.rule c.options.invariant.app c.options.invariant.local
