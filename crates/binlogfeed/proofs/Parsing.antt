-- What the parser's answer comes to.
use Rattle.std.proofs.Common.{◌≡◌, refl, Bool, true, false, true≢false, List, [], Option, Some, None, option_map, Result, Err, ap, sym, subst, ◌∙◌, inl, inr}
use Rattle.std.specs.Prelude.{Box}
use Rattle.std.specs.Box.{box_value}
use Rattle.std.specs.declared.alloc.Global.{Global}
use Rattle.clap.specs.Words.{App, Row, Text, Kinds, IsAmong, HasKind, HasMatchesOf, kind_of, fault_of, is_simple_and_free, subcommand_name_of, subcommand_of, subcommand_rows, subcommand_rows_of, takes}
use Rattle.clap.specs.declared.parser.matches.ArgMatches.{ArgMatches}
use Rattle.clap.specs.declared.parser.matches.ArgMatches.TheViews.{out-ArgMatches, out-SubCommand}
use Rattle.clap.specs.declared.parser.matches.SubCommand.{SubCommand}
use Rattle.clap.specs.declared.error.Error.{Error}
use Rattle.clap.specs.declared.error.kind.ErrorKind.{ErrorKind}
use Rattle.clap.specs.declared.error.kind.ErrorKind.TheVariants as kind
use Rattle.binlogfeed.specs.Words.{program_app, IsParserFault, AnswersFound, AnswersParse}
use Rattle.binlogfeed.specs.declared.words.Order.{Order}
use Rattle.binlogfeed.specs.declared.words_fault.WordsFault.{WordsFault}
use Rattle.binlogfeed.specs.declared.words_fault.WordsFault.TheVariants.{Help, CommandLine, OutOfMemory}

abbrev is_help : ErrorKind → Bool
is_help kind.DisplayHelp = true
is_help _ = false

help_is_no_memory : (k : ErrorKind) → k ≡ kind.DisplayHelp → k ≡ kind.OutOfMemory → ⊥
help_is_no_memory k h m = true≢false (ap is_help (sym h ∙ m))

pub parse_refused : (faults : Kinds) (found : Option (Text × List Row)) (error : Error) (fault : WordsFault)
    → HasKind faults error → IsParserFault error fault → AnswersParse faults found (Err fault)
parse_refused faults found error (Help shown) (inl memory) h = absurd (help_is_no_memory (kind_of error) h.1 memory)
parse_refused faults found error (Help shown) (inr among) h = (subst (λ (k : ErrorKind). IsAmong k faults) h.1 among, ap kind_of h.0 ∙ h.1)
parse_refused faults found error (CommandLine said) (inl memory) h = absurd (h.2 memory)
parse_refused faults found error (CommandLine said) (inr among) h = inl (kind_of error, among, h.1)
parse_refused faults found error OutOfMemory k h = tt
parse_refused faults found error other k h = absurd h

pub parse_taken : (faults : Kinds) (found : Option (Text × List Row)) (result : Result Order WordsFault)
    → faults ≡ [] → AnswersFound found result → AnswersParse faults found result
parse_taken faults found (Err (Help error)) none h = absurd h
parse_taken faults found (Err (CommandLine said)) none h = inr (none, h)
parse_taken faults found (Err OutOfMemory) none h = tt
parse_taken faults found other none h = (none, h)

-- where only memory may be wanting
pub parse_without_memory : (found : Option (Text × List Row)) (error : Error) (fault : WordsFault)
    → kind_of error ≡ kind.OutOfMemory → IsParserFault error fault → AnswersFound found (Err fault)
parse_without_memory found error (Help shown) memory h = absurd (help_is_no_memory (kind_of error) h.1 memory)
parse_without_memory found error (CommandLine said) memory h = absurd (h.2 memory)
parse_without_memory found error OutOfMemory memory h = tt
parse_without_memory found error other memory h = absurd h

-- what holds of a command holds of the program's
pub faults_found : (app : App) (words : List Text) (error : Error) → app ≡ program_app
    → (is_simple_and_free app ≡ true → HasKind (fault_of app words) error) → HasKind (fault_of program_app words) error
faults_found app words error same h = subst (λ (a : App). is_simple_and_free a ≡ true → HasKind (fault_of a words) error) same h refl

pub no_fault_found : (app : App) (words : List Text) → app ≡ program_app
    → (is_simple_and_free app ≡ true → fault_of app words ≡ []) → fault_of program_app words ≡ []
no_fault_found app words same h = subst (λ (a : App). is_simple_and_free a ≡ true → fault_of a words ≡ []) same h refl

pub only_memory : (app : App) (words : List Text) (error : Error) → app ≡ program_app
    → (takes app words ≡ true → kind_of error ≡ kind.OutOfMemory) → takes program_app words ≡ true → kind_of error ≡ kind.OutOfMemory
only_memory app words error same h = subst (λ (a : App). takes a words ≡ true → kind_of error ≡ kind.OutOfMemory) same h

pub found_by : (app : App) (words : List Text) (matches : ArgMatches) (result : Result Order WordsFault) → app ≡ program_app
    → HasMatchesOf app words matches → AnswersFound (subcommand_rows_of matches) result → AnswersFound (subcommand_of program_app words) result
found_by app words matches result same h = subst (λ (found : Option (Text × List Row)). AnswersFound found result) (subst (λ (a : App). HasMatchesOf a words matches) same h refl).1

-- the subcommand with a name and rows
pub named_is : (sub : Option (Box SubCommand Global)) (name : Text) (rows : List Row)
    → Some name ≡ option_map (λ b. (out-SubCommand (box_value b)).name.now) sub → Some rows ≡ option_map (λ p. p.1) (subcommand_rows sub)
    → Some (name, rows) ≡ subcommand_rows sub
named_is None name rows h k = cc
named_is (Some b) name rows h k = cc

pub named_answers : (matches : ArgMatches) (name given : Text) (rows : List Row) (result : Result Order WordsFault)
    → Some given ≡ subcommand_name_of matches → Some rows ≡ option_map (λ p. p.1) (subcommand_rows_of matches) → given ≡ name
    → AnswersFound (Some (name, rows)) result → AnswersFound (subcommand_rows_of matches) result
named_answers matches name given rows result h k same = subst (λ (found : Option (Text × List Row)). AnswersFound found result)
    (ap (λ (t : Text). Some (t, rows)) (sym same) ∙ named_is (out-ArgMatches matches).subcommand given rows h k)
