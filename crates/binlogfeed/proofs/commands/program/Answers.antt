use Rattle.std.proofs.Common.{ap, ◌∙◌}
use Rattle.clap.specs.Simple.{app_of_fields}
use Rattle.binlogfeed.proofs.commands.program.Goals as goal

pub returns : goal.returns
returns c =
    let plain = ap app_of_fields c.after_help-command.ensures ∙ ap app_of_fields c.about.ensures ∙ c.new.ensures.app in
    let one = c.add_subcommand-command.ensures _ plain in
    let two = c.add_subcommand-command-2.ensures _ one in
    c.add_subcommand.ensures _ two
