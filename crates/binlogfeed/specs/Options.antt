-- What the values of options name, and how they are refused.
use Rattle.std.specs.Prelude.{◌≡◌, ◌≢◌, List, ◌∷◌, ◌++◌, All, map, Bool, true, false, Option, Some, None, option_map, Result, Ok, Err, codes, string_bytes}
use Rattle.std.specs.Ordering.{nat_cmp}
use Rattle.std.specs.Cmp.Lexicographic.{slice_cmp}
use Rattle.std.specs.FinSet as set
use Rattle.clap.specs.Words.{Row, Text, first_of, found_of, rows_of}
use Rattle.clap.specs.declared.parser.matches.ArgMatches.{ArgMatches}
use Rattle.binlog_select.specs.Parts.{parts}
use Rattle.binlog_select.specs.SetText.{comma, elements, IsSetTextBy, IsFirstBadBy}
use Rattle.binlog_select.specs.declared.filter.Filter.{Filter}
use Rattle.binlog_select.specs.declared.interval.Interval.{Interval}
use Rattle.binlog_select.specs.declared.kind.ChangeKind.{ChangeKind}
use Rattle.binlog_select.specs.declared.kind.ChangeKind.TheVariants.{Statement}
use Rattle.binlog_profile.specs.declared.profile.Profile.{Profile}
use Rattle.binlog_profile.specs.declared.profile.Profile.TheVariants.{Strict}
use Rattle.binlog_json.specs.Line.{kind_text}
use Rattle.binlogfeed.specs.declared.words_fault.WordsFault.{WordsFault}
use Rattle.binlogfeed.specs.declared.words_fault.WordsFault.TheVariants.{Help, CommandLine, EventName, Set, Token, Key, ProfileName, OutOfMemory}

-- the words of a list, which are parted at its commas: an empty text is a list of one empty word
abbrev pub words_in : Text → List Text
words_in list = parts comma list

-- the words of a list as a set
abbrev pub names_in : Text → set.FinSet (slice_cmp nat_cmp)
names_in list = set.from_list (words_in list)

-- the values that a subcommand was given
abbrev pub rows_given : ArgMatches → List Row
rows_given matches = rows_of (found_of matches)

-- the names that an option lists
abbrev pub names_listed : Text → ArgMatches → Option (set.FinSet (slice_cmp nat_cmp))
names_listed id matches = option_map names_in (first_of id (rows_given matches))

-- by the strict profile no statement is given
abbrev pub gives : Profile → ChangeKind → Bool
gives Strict Statement = false
gives profile kind = true

-- kinds of change that are given go by the names that they have in lines
abbrev pub IsKindOf : Profile → Text → Option ChangeKind → Type 0
IsKindOf profile word (Some kind) = (word ≡ kind_text kind) × (gives profile kind ≡ true)
IsKindOf profile word None = (kind : ChangeKind) → gives profile kind ≡ true → word ≢ kind_text kind

-- these words are the names of these kinds, in their order, and each of them is given
pub record AreNames (profile : Profile) (words : List Text) (kinds : List ChangeKind) : Type 0 where
  pub names : words ≡ map kind_text kinds
  pub given : All (λ kind. gives profile kind ≡ true) kinds

-- so are the words of the list
abbrev pub NamesKinds : Profile → Text → List ChangeKind → Type 0
NamesKinds profile list kinds = AreNames profile (words_in list) kinds

-- the first word of the list that is the name of no kind
pub record IsFirstBadWord (profile : Profile) (list word : Text) : Type 0 where
  pub kinds : List ChangeKind
  pub behind : List Text
  pub split : words_in list ≡ map kind_text kinds ++ word ∷ behind
  pub given : All (λ kind. gives profile kind ≡ true) kinds
  pub bad : IsKindOf profile word None

-- what an option comes to: nothing where it isn't given, else what its value reads as
abbrev pub IsGiven : {X : Type 0} → (Text → X → Type 0) → Option Text → Option X → Type 0
IsGiven Reads None None = Unit {0}
IsGiven Reads (Some text) (Some x) = Reads text x
IsGiven Reads None (Some x) = ⊥
IsGiven Reads (Some text) None = ⊥

-- the set that a text names by a profile, where one is given
abbrev pub IsSetGiven : Profile → Option Text → Option (List Interval) → Type 0
IsSetGiven profile = IsGiven (IsSetTextBy profile)

abbrev pub event_names : List Row → Option Text
event_names = first_of (codes "only-events")

abbrev pub set_text : List Row → Option Text
set_text = first_of (codes "auto-position")

-- the filter has what the options name, and gives statements where the profile does; a set may have tags by the profile
pub record IsFilterOf (profile : Profile) (rows : List Row) (filter : Filter) : Type 0 where
  pub only_events : IsGiven (NamesKinds profile) (event_names rows) filter.only_events
  pub only_tables : filter.only_tables ≡ option_map names_in (first_of (codes "only-tables") rows)
  pub ignored_tables : filter.ignored_tables ≡ option_map names_in (first_of (codes "ignored-tables") rows)
  pub only_schemas : filter.only_schemas ≡ option_map names_in (first_of (codes "only-schemas") rows)
  pub ignored_schemas : filter.ignored_schemas ≡ option_map names_in (first_of (codes "ignored-schemas") rows)
  pub auto_position : IsSetGiven profile (set_text rows) filter.auto_position
  pub statements : filter.statements ≡ gives profile Statement

-- why event names come to nothing; memory may be wanting for any
abbrev pub IsEventFault : Profile → Option Text → WordsFault → Type 0
IsEventFault profile given (EventName word) = (list : Text) × (given ≡ Some list) × IsFirstBadWord profile list (string_bytes word)
IsEventFault profile given OutOfMemory = Unit {0}
IsEventFault profile given (Set at) = ⊥
IsEventFault profile given Token = ⊥
IsEventFault profile given Key = ⊥
IsEventFault profile given ProfileName = ⊥
IsEventFault profile given (CommandLine said) = ⊥
IsEventFault profile given (Help error) = ⊥

-- why a set comes to nothing
abbrev pub IsSetFault : Profile → Option Text → WordsFault → Type 0
IsSetFault profile given (Set at) = (text : Text) × (given ≡ Some text) × IsFirstBadBy profile (elements text) at
IsSetFault profile given OutOfMemory = Unit {0}
IsSetFault profile given (EventName word) = ⊥
IsSetFault profile given Token = ⊥
IsSetFault profile given Key = ⊥
IsSetFault profile given ProfileName = ⊥
IsSetFault profile given (CommandLine said) = ⊥
IsSetFault profile given (Help error) = ⊥

-- the event names have no fault
abbrev pub HasKinds : Profile → List Row → Type 0
HasKinds profile rows = (kinds : Option (List ChangeKind)) × IsGiven (NamesKinds profile) (event_names rows) kinds

-- what the options come to: event names are judged first, then the set
abbrev pub AnswersOptions : Profile → List Row → Result Filter WordsFault → Type 0
AnswersOptions profile rows (Ok filter) = IsFilterOf profile rows filter
AnswersOptions profile rows (Err (EventName word)) = IsEventFault profile (event_names rows) (EventName word)
AnswersOptions profile rows (Err (Set at)) = HasKinds profile rows × IsSetFault profile (set_text rows) (Set at)
AnswersOptions profile rows (Err OutOfMemory) = Unit {0}
AnswersOptions profile rows (Err Token) = ⊥
AnswersOptions profile rows (Err Key) = ⊥
AnswersOptions profile rows (Err ProfileName) = ⊥
AnswersOptions profile rows (Err (CommandLine said)) = ⊥
AnswersOptions profile rows (Err (Help error)) = ⊥
