-- The start that `--from` names, and how its text is refused.
use Rattle.std.specs.Prelude.{◌≡◌, ℕ, List, Option, Some, None, codes}
use Rattle.clap.specs.Words.{Row, Text, first_of}
use Rattle.binlog_select.specs.Token.{IsTokenText}
use Rattle.binlog_feed.specs.declared.start.Start.{Start}
use Rattle.binlog_feed.specs.declared.start.Start.TheVariants.{Beginning, After}
use Rattle.binlogfeed.specs.declared.words_fault.WordsFault.{WordsFault}
use Rattle.binlogfeed.specs.declared.words_fault.WordsFault.TheVariants.{Help, CommandLine, EventName, Set, Token, Key, ProfileName, OutOfMemory}

abbrev pub token_text : List Row → Option Text
token_text = first_of (codes "from")

-- Without the option a run starts at the beginning; with it, behind the token that its text spells.
abbrev pub IsStart : Option Text → Start → Type 0
IsStart None Beginning = Unit {0}
IsStart (Some text) (After token) = IsTokenText text token.position token.count token.file
IsStart None (After token) = ⊥
IsStart (Some text) Beginning = ⊥

-- a text that spells no token
abbrev pub SpellsNone : Text → Type 0
SpellsNone text = (position count : ℕ) (file : List ℕ) → ¬ (IsTokenText text position count file)

-- why the option comes to nothing; memory may be wanting
abbrev pub IsTokenFault : Option Text → WordsFault → Type 0
IsTokenFault given Token = (text : Text) × (given ≡ Some text) × SpellsNone text
IsTokenFault given OutOfMemory = Unit {0}
IsTokenFault given (EventName word) = ⊥
IsTokenFault given (Set at) = ⊥
IsTokenFault given Key = ⊥
IsTokenFault given ProfileName = ⊥
IsTokenFault given (CommandLine said) = ⊥
IsTokenFault given (Help error) = ⊥
