-- The command line, and what its words ask for.
use Rattle.std.specs.Prelude.{◌≡◌, ◌≢◌, ◌⊎◌, ◌++◌, ℕ, List, [], map, Bool, true, false, Option, Some, None, if◌then◌else◌, Result, Ok, Err, unwrap_or, codes, decimal, string_bytes}
use Rattle.std.specs.Borrow.{Bor}
use Rattle.std.specs.Str.{bytes_eq}
use Rattle.clap.specs.Lexer.{usize_max}
use Rattle.clap.specs.Words.{App, Rule, Row, Text, Kinds, IsAmong, new_app, new_rule, with_rule, with_subcommand, all_of, first_of, subcommand_of, fault_of, kind_of, takes}
use Rattle.clap.specs.declared.builder.action.ArgAction.TheVariants as action
use Rattle.clap.specs.declared.error.Error.{Error}
use Rattle.clap.specs.declared.error.kind.ErrorKind.{ErrorKind}
use Rattle.clap.specs.declared.error.kind.ErrorKind.TheVariants as kind
use Rattle.clap.specs.declared.parser.matches.ArgMatches.{ArgMatches}
use Rattle.binlog_select.specs.declared.filter.Filter.{Filter}
use Rattle.binlog_json.specs.declared.style.Style.{Style}
use Rattle.binlog_json.specs.declared.style.Style.TheVariants.{Plain, Full}
use Rattle.binlogfeed.specs.KeyWords.{IsKeyText, IsKeyFault, value_given}
use Rattle.binlogfeed.specs.Options.{IsFilterOf, AnswersOptions, rows_given}
use Rattle.binlogfeed.specs.StartWords.{IsStart, IsTokenFault, token_text}
use Rattle.binlogfeed.specs.declared.words.Order.{Order}
use Rattle.binlogfeed.specs.declared.words.Order.TheVariants.{Follow, Once}
use Rattle.binlogfeed.specs.declared.words.Task.TheVariants.{Transactions, Read, History}
use Rattle.binlogfeed.specs.declared.words_fault.WordsFault.{WordsFault}
use Rattle.binlogfeed.specs.declared.words_fault.WordsFault.TheVariants.{Help, CommandLine, EventName, Set, Token, Key, ProfileName, OutOfMemory}
use Rattle.binlog_profile.specs.declared.profile.Profile.{Profile}
use Rattle.binlog_profile.specs.declared.profile.Profile.TheVariants.{Server, Strict}

-- one file or more
abbrev pub file_rule : Rule
file_rule = record (new_rule (codes "file")) {
  required = true;
  action = Some action.Append;
  range = Some (record { start_inclusive = 1; end_inclusive = usize_max });
}

-- there may be none
abbrev pub optional_file_rule : Rule
optional_file_rule = record file_rule { required = false }

-- an option with one value, which has a name in the help
abbrev pub option_rule : Text → Rule
option_rule name = record (new_rule name) { long = Some name; action = Some action.Set; value_names = 1 }

abbrev pub with_option : App → Text → App
with_option app name = with_rule app (option_rule name)

-- a flag, which has no value: it is true where it is given
abbrev pub flag_rule : Text → Rule
flag_rule name = record (new_rule name) { long = Some name; action = Some action.SetTrue }

abbrev pub with_flag : App → Text → App
with_flag app name = with_rule app (flag_rule name)

-- an option that must be given
abbrev pub required_rule : Text → Rule
required_rule name = record (option_rule name) { required = true }

abbrev pub with_required : App → Text → App
with_required app name = with_rule app (required_rule name)

abbrev pub transactions_app : App
transactions_app = with_rule (with_option (new_app (codes "transactions")) (codes "profile")) file_rule

abbrev pub read_app : App
read_app = with_rule
    (with_option (with_flag (with_flag (with_option (with_option (with_option (with_option (with_option (with_option (with_option (new_app (codes "read"))
    (codes "only-events")) (codes "only-tables")) (codes "ignored-tables")) (codes "only-schemas")) (codes "ignored-schemas"))
    (codes "auto-position")) (codes "from")) (codes "full")) (codes "follow")) (codes "profile"))
    optional_file_rule

abbrev pub history_app : App
history_app = with_rule
    (with_option (with_flag (with_required (with_required (with_required (new_app (codes "history")) (codes "schema")) (codes "table")) (codes "key")) (codes "full")) (codes "profile"))
    file_rule

abbrev pub program_app : App
program_app =
    with_subcommand (with_subcommand (with_subcommand (new_app (codes "binlogfeed")) transactions_app.top) read_app.top) history_app.top

abbrev pub texts : List (Bor Text) → List Text
texts = map (λ word. word.now)

-- the files among the values that a subcommand was given
abbrev pub files_given : List Row → List Text
files_given rows = unwrap_or (all_of (codes "file") rows) []

-- a flag is given where its value is true
abbrev pub is_true_text : Option Text → Bool
is_true_text None = false
is_true_text (Some text) = bytes_eq text (codes "true")

-- lines are full where the flag is given
abbrev pub style_of : Option Text → Style
style_of text = if is_true_text text then Full else Plain

abbrev pub style_given : List Row → Style
style_given rows = style_of (first_of (codes "full") rows)

-- the profile that a text names, the strict one where no text is given
abbrev pub profile_named : Text → Option Profile
profile_named text = if bytes_eq text (codes "strict") then Some Strict else if bytes_eq text (codes "server") then Some Server else None

abbrev pub profile_of : Option Text → Option Profile
profile_of None = Some Strict
profile_of (Some text) = profile_named text

abbrev pub profile_given : List Row → Option Profile
profile_given rows = profile_of (first_of (codes "profile") rows)

-- files are followed where the flag is given
abbrev pub is_followed : List Row → Bool
is_followed rows = is_true_text (first_of (codes "follow") rows)

abbrev pub follows_given : ArgMatches → Bool
follows_given matches = is_followed (rows_given matches)

-- the subcommand that the words name, with the values that they give it
abbrev pub IsOrder : Order → Option (Text × List Row) → Type 0
IsOrder (Once Transactions profile files) found =
    (rows : List Row) × (found ≡ Some (codes "transactions", rows)) × (profile_given rows ≡ Some profile) × (texts files.items ≡ files_given rows)
IsOrder (Once (Read filter start style) profile files) found =
    (rows : List Row) × (found ≡ Some (codes "read", rows)) × (is_followed rows ≡ false)
    × IsFilterOf profile rows filter × IsStart (token_text rows) start × (style ≡ style_given rows) × (profile_given rows ≡ Some profile) × (texts files.items ≡ files_given rows) × (texts files.items ≢ [])
IsOrder (Follow filter start style profile files) found =
    (rows : List Row) × (found ≡ Some (codes "read", rows)) × (is_followed rows ≡ true)
    × IsFilterOf profile rows filter × IsStart (token_text rows) start × (style ≡ style_given rows) × (profile_given rows ≡ Some profile) × (texts files.items ≡ files_given rows)
IsOrder (Once (History schema table key style) profile files) found =
    (rows : List Row) × (found ≡ Some (codes "history", rows))
    × (schema.now ≡ value_given (codes "schema") rows) × (table.now ≡ value_given (codes "table") rows)
    × IsKeyText style (value_given (codes "key") rows) (string_bytes key) × (style ≡ style_given rows) × (profile_given rows ≡ Some profile) × (texts files.items ≡ files_given rows)

-- the words name no subcommand that the program has
abbrev pub NamesNone : Option (Text × List Row) → Type 0
NamesNone found =
    (rows : List Row) → (found ≢ Some (codes "transactions", rows)) × (found ≢ Some (codes "read", rows)) × (found ≢ Some (codes "history", rows))

-- the words name the subcommand `read`, and no files; these aren't needed where files are followed
abbrev pub LacksFiles : Option (Text × List Row) → Type 0
LacksFiles found = (rows : List Row) × (found ≡ Some (codes "read", rows)) × (is_followed rows ≡ false) × (files_given rows ≡ [])

-- the words name a subcommand, and a profile that there isn't
abbrev pub NamesNoProfile : Option (Text × List Row) → Type 0
NamesNoProfile found = (name : Text) × (rows : List Row) × (found ≡ Some (name, rows)) × (profile_given rows ≡ None)

-- the words name the subcommand `read` and a profile, by which the options have this fault
abbrev pub HasOptionFault : Option (Text × List Row) → WordsFault → Type 0
HasOptionFault found fault =
    (rows : List Row) × (profile : Profile) × (found ≡ Some (codes "read", rows)) × (profile_given rows ≡ Some profile) × AnswersOptions profile rows (Err fault)

-- the words name the subcommand `read`, whose other options name a filter, and whose token has this fault
abbrev pub HasTokenFault : Option (Text × List Row) → WordsFault → Type 0
HasTokenFault found fault =
    (rows : List Row) × (profile : Profile) × (found ≡ Some (codes "read", rows)) × (profile_given rows ≡ Some profile)
    × ((filter : Filter) × IsFilterOf profile rows filter) × IsTokenFault (token_text rows) fault

-- the words name the subcommand `history`, whose key has this fault
abbrev pub HasKeyFault : Option (Text × List Row) → WordsFault → Type 0
HasKeyFault found fault = (rows : List Row) × (found ≡ Some (codes "history", rows)) × IsKeyFault (style_given rows) (value_given (codes "key") rows) fault

-- what a subcommand found comes to; memory may be wanting for any
abbrev pub AnswersFound : Option (Text × List Row) → Result Order WordsFault → Type 0
AnswersFound found (Ok order) = IsOrder order found
AnswersFound found (Err (Help error)) = ⊥
AnswersFound found (Err (CommandLine said)) = NamesNone found ⊎ LacksFiles found
AnswersFound found (Err (EventName word)) = HasOptionFault found (EventName word)
AnswersFound found (Err (Set at)) = HasOptionFault found (Set at)
AnswersFound found (Err Token) = HasTokenFault found Token
AnswersFound found (Err Key) = HasKeyFault found Key
AnswersFound found (Err ProfileName) = NamesNoProfile found
AnswersFound found (Err OutOfMemory) = Unit {0}

-- words that the parser takes come to what the subcommand does that it finds
abbrev pub AnswersTaken : List Text → Result Order WordsFault → Type 0
AnswersTaken words result = takes program_app words ≡ true → AnswersFound (subcommand_of program_app words) result

-- what an error of the parser comes to
abbrev pub IsParserFault : Error → WordsFault → Type 0
IsParserFault given (Help error) = (error ≡ given) × (kind_of given ≡ kind.DisplayHelp)
IsParserFault given (CommandLine said) = (said ≡ Some given) × (kind_of given ≢ kind.DisplayHelp) × (kind_of given ≢ kind.OutOfMemory)
IsParserFault given (EventName word) = ⊥
IsParserFault given (Set at) = ⊥
IsParserFault given Token = ⊥
IsParserFault given Key = ⊥
IsParserFault given ProfileName = ⊥
IsParserFault given OutOfMemory = kind_of given ≡ kind.OutOfMemory

-- a fault that is no call for help
abbrev pub HasMistake : Kinds → Type 0
HasMistake kinds = (mistake : ErrorKind) × IsAmong mistake kinds × (mistake ≢ kind.DisplayHelp)

-- What words come to that the parser refuses by these kinds of fault, or takes, where there are none, and finds this subcommand.
abbrev pub AnswersParse : Kinds → Option (Text × List Row) → Result Order WordsFault → Type 0
AnswersParse faults found (Ok order) = (faults ≡ []) × IsOrder order found
AnswersParse faults found (Err (Help error)) = IsAmong kind.DisplayHelp faults × (kind_of error ≡ kind.DisplayHelp)
AnswersParse faults found (Err (CommandLine said)) = HasMistake faults ⊎ ((faults ≡ []) × (NamesNone found ⊎ LacksFiles found))
AnswersParse faults found (Err (EventName word)) = (faults ≡ []) × HasOptionFault found (EventName word)
AnswersParse faults found (Err (Set at)) = (faults ≡ []) × HasOptionFault found (Set at)
AnswersParse faults found (Err Token) = (faults ≡ []) × HasTokenFault found Token
AnswersParse faults found (Err Key) = (faults ≡ []) × HasKeyFault found Key
AnswersParse faults found (Err ProfileName) = (faults ≡ []) × NamesNoProfile found
AnswersParse faults found (Err OutOfMemory) = Unit {0}

abbrev pub AnswersWords : List Text → Result Order WordsFault → Type 0
AnswersWords words = AnswersParse (fault_of program_app words) (subcommand_of program_app words)

abbrev pub words_status_of : WordsFault → ℕ
words_status_of (Help error) = 0
words_status_of (CommandLine said) = 2
words_status_of (EventName word) = 2
words_status_of (Set at) = 2
words_status_of Key = 2
words_status_of ProfileName = 2
words_status_of Token = 3
words_status_of OutOfMemory = 5

-- the line of a fault, without its line feed
abbrev pub words_text : WordsFault → List ℕ
words_text (Help error) = []
words_text (CommandLine said) = codes "binlogfeed: command line refused"
words_text (EventName word) = codes "binlogfeed: bad --only-events: " ++ string_bytes word
words_text (Set at) = codes "binlogfeed: bad --auto-position: element " ++ decimal at
words_text Token = codes "binlogfeed: token refused: BadToken"
words_text Key = codes "binlogfeed: bad --key"
words_text ProfileName = codes "binlogfeed: bad --profile"
words_text OutOfMemory = codes "binlogfeed: out of memory"
