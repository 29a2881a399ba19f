-- What the words of a command line ask for.
use Rattle.std.specs.Prelude.{◌≡◌, List, [], ◌∷◌, Bool, true, false, Option, Some, None, option_map, codes}
use Rattle.clap.specs.Words.{Text, fault_of, first_of, subcommand_of}
use Rattle.clap.specs.declared.error.kind.ErrorKind.{ErrorKind}
use Rattle.clap.specs.declared.error.kind.ErrorKind.TheVariants as kind
use Rattle.binlog_profile.specs.declared.profile.Profile.{Profile}
use Rattle.binlog_profile.specs.declared.profile.Profile.TheVariants.{Strict, Server}
use Rattle.binlogfeed.specs.Words.{program_app, files_given, is_followed, profile_given}

-- ---- what is found in words

abbrev pub mistakes_in : List Text → List ErrorKind
mistakes_in words = fault_of program_app words

abbrev pub subcommand_in : List Text → Option Text
subcommand_in words = option_map (λ found. found.0) (subcommand_of program_app words)

abbrev pub files_in : List Text → Option (List Text)
files_in words = option_map (λ found. files_given found.1) (subcommand_of program_app words)

abbrev pub value_in : Text → List Text → Option (Option Text)
value_in option words = option_map (λ found. first_of option found.1) (subcommand_of program_app words)

abbrev pub followed_in : List Text → Option Bool
followed_in words = option_map (λ found. is_followed found.1) (subcommand_of program_app words)

abbrev pub profile_in : List Text → Option (Option Profile)
profile_in words = option_map (λ found. profile_given found.1) (subcommand_of program_app words)

-- ---- words

abbrev pub two_paths : List Text
two_paths = codes "b" ∷ codes "transactions" ∷ codes "x" ∷ codes "dir/y" ∷ []

abbrev pub Files : Type 0
Files =
    (mistakes_in two_paths ≡ []) × (subcommand_in two_paths ≡ Some (codes "transactions"))
    × (files_in two_paths ≡ Some (codes "x" ∷ codes "dir/y" ∷ []))
    × (subcommand_of program_app (codes "b" ∷ []) ≡ None)

-- an option and its value, before a file or behind it
abbrev pub option_between : List Text
option_between = codes "b" ∷ codes "read" ∷ codes "x" ∷ codes "--only-tables" ∷ codes "t,u" ∷ codes "y" ∷ []

abbrev pub Options : Type 0
Options =
    (mistakes_in option_between ≡ []) × (files_in option_between ≡ Some (codes "x" ∷ codes "y" ∷ []))
    × (value_in (codes "only-tables") option_between ≡ Some (Some (codes "t,u")))
    × (value_in (codes "only-schemas") option_between ≡ Some None)
    × (value_in (codes "from") (codes "b" ∷ codes "read" ∷ codes "--from" ∷ codes "4.1@x" ∷ codes "x" ∷ []) ≡ Some (Some (codes "4.1@x")))

-- a value behind an equals sign, which may be empty or begin with a hyphen
abbrev pub EqualsSigns : Type 0
EqualsSigns =
    (value_in (codes "only-events") (codes "b" ∷ codes "read" ∷ codes "--only-events=" ∷ codes "x" ∷ []) ≡ Some (Some []))
    × (value_in (codes "only-tables") (codes "b" ∷ codes "read" ∷ codes "--only-tables=-t" ∷ codes "x" ∷ []) ≡ Some (Some (codes "-t")))

abbrev pub of_a_key : List Text
of_a_key =
    codes "b" ∷ codes "history" ∷ codes "--schema" ∷ codes "s" ∷ codes "--table" ∷ codes "t" ∷ codes "--key" ∷ codes "[1]" ∷ codes "x" ∷ []

abbrev pub without_a_key : List Text
without_a_key = codes "b" ∷ codes "history" ∷ codes "--schema" ∷ codes "s" ∷ codes "--table" ∷ codes "t" ∷ codes "x" ∷ []

abbrev pub Histories : Type 0
Histories =
    (mistakes_in of_a_key ≡ []) × (value_in (codes "key") of_a_key ≡ Some (Some (codes "[1]")))
    × (mistakes_in without_a_key ≡ kind.MissingRequiredArgument ∷ [])

-- files may be left out behind `read`; where they are followed the flag says so
abbrev pub Following : Type 0
Following =
    (mistakes_in (codes "b" ∷ codes "read" ∷ codes "--only-events" ∷ codes "drop" ∷ []) ≡ []) × (files_in (codes "b" ∷ codes "read" ∷ []) ≡ Some [])
    × (mistakes_in (codes "b" ∷ codes "read" ∷ codes "--follow" ∷ []) ≡ []) × (files_in (codes "b" ∷ codes "read" ∷ codes "--follow" ∷ codes "x" ∷ []) ≡ Some (codes "x" ∷ []))
    × (followed_in (codes "b" ∷ codes "read" ∷ codes "--follow" ∷ []) ≡ Some true) × (followed_in (codes "b" ∷ codes "read" ∷ codes "x" ∷ []) ≡ Some false)

-- the profile, behind each subcommand; the strict one where none is named, and none where there is none of that name
abbrev pub Profiles : Type 0
Profiles =
    (profile_in two_paths ≡ Some (Some Strict)) × (profile_in option_between ≡ Some (Some Strict)) × (profile_in of_a_key ≡ Some (Some Strict))
    × (profile_in (codes "b" ∷ codes "transactions" ∷ codes "--profile" ∷ codes "server" ∷ codes "x" ∷ []) ≡ Some (Some Server))
    × (profile_in (codes "b" ∷ codes "read" ∷ codes "--profile=server" ∷ codes "x" ∷ []) ≡ Some (Some Server))
    × (profile_in (codes "b" ∷ codes "read" ∷ codes "--profile" ∷ codes "strict" ∷ codes "x" ∷ []) ≡ Some (Some Strict))
    × (profile_in (codes "b" ∷ codes "history" ∷ codes "--schema" ∷ codes "s" ∷ codes "--table" ∷ codes "t" ∷ codes "--key" ∷ codes "[1]" ∷ codes "--profile" ∷ codes "server" ∷ codes "x" ∷ []) ≡ Some (Some Server))
    × (profile_in (codes "b" ∷ codes "read" ∷ codes "--profile" ∷ codes "Server" ∷ codes "x" ∷ []) ≡ Some None)
    × (profile_in (codes "b" ∷ codes "read" ∷ codes "--profile=" ∷ codes "x" ∷ []) ≡ Some None)
    × (mistakes_in (codes "b" ∷ codes "transactions" ∷ codes "--profile" ∷ codes "server" ∷ codes "x" ∷ []) ≡ [])

abbrev pub Helps : Type 0
Helps =
    (mistakes_in (codes "b" ∷ codes "--help" ∷ []) ≡ kind.DisplayHelp ∷ [])
    × (mistakes_in (codes "b" ∷ codes "transactions" ∷ codes "-h" ∷ []) ≡ kind.DisplayHelp ∷ [])

abbrev pub option_twice : List Text
option_twice =
    codes "b" ∷ codes "read" ∷ codes "--only-tables" ∷ codes "t" ∷ codes "--only-tables" ∷ codes "u" ∷ codes "x" ∷ []

abbrev pub Mistakes : Type 0
Mistakes =
    (mistakes_in (codes "b" ∷ codes "transactions" ∷ []) ≡ kind.MissingRequiredArgument ∷ [])
    × (mistakes_in (codes "b" ∷ codes "read" ∷ codes "--follow" ∷ codes "--follow" ∷ []) ≡ kind.ArgumentConflict ∷ [])
    × (mistakes_in (codes "b" ∷ codes "transactions" ∷ codes "--all" ∷ codes "x" ∷ []) ≡ kind.UnknownArgument ∷ [])
    × (mistakes_in (codes "b" ∷ codes "write" ∷ codes "x" ∷ []) ≡ kind.UnknownArgument ∷ kind.InvalidSubcommand ∷ [])
    × (mistakes_in option_twice ≡ kind.ArgumentConflict ∷ [])
