-- Commands that are built step by step, for which there may be no memory.
use Rattle.std.specs.Prelude.{◌≡◌, List, [], ◌∷◌, false, if◌then◌else◌, Result, IfOk}
use Rattle.clap.specs.Words.{App, Rule, app_of, new_app, with_rule, with_subcommand}
use Rattle.clap.specs.declared.builder.command.Command.{Command}
use Rattle.clap.specs.declared.builder.command.Command.TheViews.{out-Command as fields_of}
use Rattle.binlogfeed.specs.Words.{file_rule, flag_rule, option_rule}
use Rattle.binlogfeed.specs.declared.commands.OptionWords.{OptionWords}
use Rattle.binlogfeed.specs.declared.commands.SubcommandWords.{SubcommandWords}

-- a command that has this shape, unless there was no memory for it
abbrev pub HasApp : {E : Type 0} → App → Result Command E → Type 0
HasApp app built = IfOk built (λ command. app_of command ≡ app)

-- and that has no global option
abbrev pub IsBuilt : {E : Type 0} → App → Result Command E → Type 0
IsBuilt app built = IfOk built (λ command. (app_of command ≡ app) × ((fields_of command).has_globals ≡ false))

-- an option with one value, by its words
abbrev pub value_rule : OptionWords → Rule
value_rule words = record (option_rule words.name.now) { required = words.is_required }

-- a flag, or an option with one value
abbrev pub rule_of_words : OptionWords → Rule
rule_of_words words = if words.is_flag then flag_rule words.name.now else value_rule words

-- an app with these options behind its own
abbrev pub with_options : App → List OptionWords → App
with_options app [] = app
with_options app (words ∷ more) = with_options (with_rule app (rule_of_words words)) more

-- a subcommand by its words
abbrev pub app_of_words : SubcommandWords → App
app_of_words words = with_rule (with_options (new_app words.name.now) words.options.now) (record file_rule { required = words.requires_files })

-- a command of any shape has one subcommand more
abbrev pub AddsSubcommand : {E : Type 0} → Result Command E → SubcommandWords → Result Command E → Type 0
AddsSubcommand command words result = (app : App) → HasApp app command → HasApp (with_subcommand app (app_of_words words).top) result
