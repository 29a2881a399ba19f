use Rattle.std.proofs.Common.{◌≡◌, false, drop}
use Rattle.clap.specs.Words.{new_app, app_of}
use Rattle.clap.specs.declared.builder.command.Command.TheViews.{out-Command}
use Rattle.binlogfeed.specs.Commands.{with_options}
use Rattle.binlogfeed.proofs.commands.subcommand.Given as goal

abbrev pub invariant-options : goal.invariant-options
invariant-options l = record {
  app : with_options (app_of l.command) (drop l.option-index l.words.options.now) ≡ with_options (new_app l.words.name.now) l.words.options.now;
  local : (out-Command l.command).has_globals ≡ false;
}
