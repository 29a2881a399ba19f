-- A command with one argument more, or one subcommand, and what it was given.
use Rattle.std.proofs.Common.{◌≡◌, ℕ, suc, ◌+◌, ◌<◌, ◌≤◌, arith, sym, drop, drop-cons, get_or, length, false, ◌||◌, ap, ap₂, ◌∙◌, List, [], Some, None, Result, Ok, Err, subst, option_map, unwrap_or}
use Rattle.clap.specs.Words.{App, Rule, Text, AddsArg, AddsSubcommand, app_of, new_rule, rule_of, with_rule, with_subcommand, raw_values, matched_of, all_of, rows_of}
use Rattle.std.proofs.lemmas.List.{drop_all}
use Rattle.std.specs.Prelude.{IfOk}
use Rattle.clap.proofs.WalkLemmas.{raw_values-rows}
use Rattle.clap.specs.declared.builder.action.ArgAction.TheVariants.{Set, SetTrue}
use Rattle.clap.specs.declared.builder.texts.Texts.TheVariants.{One}
use Rattle.clap.specs.declared.parser.matches.Found.{Found}
use Rattle.clap.specs.declared.builder.arg.Arg.{Arg}
use Rattle.clap.specs.declared.builder.command.Command.{Command}
use Rattle.clap.specs.declared.builder.command.Command.TheViews.{out-Command}
use Rattle.binlogfeed.specs.Commands.{IsBuilt, HasApp, rule_of_words, with_options}
use Rattle.binlogfeed.specs.Words.{flag_rule, option_rule}
use Rattle.binlogfeed.specs.declared.commands.OptionWords.{OptionWords}

pub adds : (old : Command) (argument : Arg) (new : Command) (app : App) (rule : Rule) → AddsArg old argument new → argument.global ≡ false → app_of old ≡ app → rule_of argument ≡ rule
    → app_of new ≡ with_rule app rule
adds old argument new app rule h local app_is rule_is = h.shape local ∙ ap₂ with_rule app_is rule_is

pub adds_local : (old : Command) (argument : Arg) (new : Command) → AddsArg old argument new → argument.global ≡ false → (out-Command old).has_globals ≡ false → (out-Command new).has_globals ≡ false
adds_local old argument new h local old_local = h.globals ∙ ap₂ (λ p q. p || q) old_local local

pub adds_subcommand : (old sub new : Command) (app sub_app : App) → AddsSubcommand old sub new → (out-Command sub).has_globals ≡ false → app_of old ≡ app → app_of sub ≡ sub_app
    → app_of new ≡ with_subcommand app sub_app.top
adds_subcommand old sub new app sub_app h local app_is sub_is = h.shape local ∙ ap₂ with_subcommand app_is (ap (λ a. a.top) sub_is)

-- an option is built step by step
pub option_built : (plain long valued helped needed built : Arg) (words : OptionWords) → rule_of plain ≡ new_rule words.name.now
    → long ≡ record plain { long = Some words.name } → valued ≡ record long { val_names = One words.value } → helped ≡ record valued { help = Some words.help }
    → needed ≡ record helped { required = words.is_required } → built ≡ record needed { action = Some Set } → rule_of built ≡ record (option_rule words.name.now) { required = words.is_required }
option_built plain long valued helped needed built words plain_is long_is valued_is helped_is needed_is built_is =
    ap rule_of (built_is
    ∙ ap (λ (a : Arg). record a { action = Some Set }) (needed_is
    ∙ ap (λ (a : Arg). record a { required = words.is_required }) (helped_is
    ∙ ap (λ (a : Arg). record a { help = Some words.help }) (valued_is
    ∙ ap (λ (a : Arg). record a { val_names = One words.value }) long_is))))
    ∙ ap (λ (rule : Rule). record rule { long = Some words.name.now; action = Some Set; value_names = 1; required = words.is_required }) plain_is

-- and so is a flag
pub flag_built : (plain long helped built : Arg) (words : OptionWords) → rule_of plain ≡ new_rule words.name.now
    → long ≡ record plain { long = Some words.name } → helped ≡ record long { help = Some words.help } → built ≡ record helped { action = Some SetTrue } → rule_of built ≡ flag_rule words.name.now
flag_built plain long helped built words plain_is long_is helped_is built_is =
    ap rule_of (built_is
    ∙ ap (λ (a : Arg). record a { action = Some SetTrue }) (helped_is
    ∙ ap (λ (a : Arg). record a { help = Some words.help }) long_is))
    ∙ ap (λ (rule : Rule). record rule { long = Some words.name.now; action = Some SetTrue }) plain_is

-- one of the options, behind those that a command has
pub option_added : (old new : Command) (argument : Arg) (app : App) (options : List OptionWords) (at : ℕ) (none : OptionWords) → at < length options
    → AddsArg old argument new → argument.global ≡ false → rule_of argument ≡ rule_of_words (get_or options at none)
    → with_options (app_of old) (drop at options) ≡ app → with_options (app_of new) (drop (at + 1) options) ≡ app
option_added old new argument app options at none within adds_it local same before =
    let next : at + 1 ≡ suc at = omega arith in
    ap (λ (n : ℕ). with_options (app_of new) (drop n options)) next
    ∙ ap (λ (a : App). with_options a (drop (suc at) options)) (adds_it.shape local ∙ ap (with_rule (app_of old)) same)
    ∙ sym (ap (with_options (app_of old)) (drop-cons options at none within)) ∙ before

-- and the files behind all of them
pub files_added : {E : Type 0} (old : Command) (new : Result Command E) (argument : Arg) (app : App) (rule : Rule) (options : List OptionWords) (at : ℕ) → length options ≤ at
    → IfOk new (λ made. AddsArg old argument made) → argument.global ≡ false → rule_of argument ≡ rule
    → with_options (app_of old) (drop at options) ≡ app → (out-Command old).has_globals ≡ false → IsBuilt (with_rule app rule) new
files_added old (Err error) argument app rule options at past h local same before old_local = tt
files_added old (Ok new) argument app rule options at past h local same before old_local =
    (adds old argument new app rule h local (ap (with_options (app_of old)) (sym (drop_all at options past)) ∙ before) same, adds_local old argument new h local old_local)

-- where there may have been no memory for either
pub subcommand_added : {E : Type 0} (built sub new : Result Command E) (old inner : Command) (app inner_app : App) → built ≡ Ok old → sub ≡ Ok inner → IfOk new (λ made. AddsSubcommand old inner made)
    → HasApp app built → IsBuilt inner_app sub → HasApp (with_subcommand app inner_app.top) new
subcommand_added built sub (Ok made) old inner app inner_app e f h before sub_before =
    let was = subst (HasApp app) e before in
    let sub_was = subst (IsBuilt inner_app) f sub_before in
    adds_subcommand old inner made app inner_app h sub_was.1 was sub_was.0
subcommand_added built sub (Err error) old inner app inner_app e f h before sub_before = tt

-- the values that were given, as the rows have them
pub given : (found : Found) (id : Text) (files : List Text) → Some files ≡ option_map raw_values (matched_of found id) → files ≡ unwrap_or (all_of id (rows_of found)) []
given found id files h = ap (λ o. unwrap_or o []) (h ∙ raw_values-rows found id)

pub none_given : (found : Found) (id : Text) → None ≡ option_map raw_values (matched_of found id) → [] ≡ unwrap_or (all_of id (rows_of found)) []
none_given found id h = ap (λ o. unwrap_or o []) (h ∙ raw_values-rows found id)
