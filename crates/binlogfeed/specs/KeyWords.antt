-- The key that `--key` names, and how its text is refused.
use Rattle.std.specs.Prelude.{◌≡◌, ℕ, List, Some, IfOk, IfErr, Result, String, string_bytes, option_and_then, is_some, unwrap_or, Bool, true, false, not, ◌&&◌, ◌||◌, ◌==◌, codes}
use Rattle.serde_json.specs.Data.{Data, null, boolean, number, string, array, object, Items, no_items, item}
use Rattle.serde_json.specs.Events.{members_len}
use Rattle.serde_json.specs.Find.{as_str, get, is_float}
use Rattle.serde_json.specs.Read.{read}
use Rattle.serde_json.specs.View.{view}
use Rattle.serde_json.specs.Written.{compact_text}
use Rattle.serde_json.specs.declared.value.Value.{Value}
use Rattle.clap.specs.Words.{Row, Text, first_of}
use Rattle.binlog_json.specs.declared.style.Style.{Style}
use Rattle.binlog_json.specs.declared.style.Style.TheVariants.{Plain, Full}
use Rattle.binlogfeed.specs.declared.words_fault.WordsFault.{WordsFault}
use Rattle.binlogfeed.specs.declared.words_fault.WordsFault.TheVariants.{Help, CommandLine, EventName, Set, Token, Key, ProfileName, OutOfMemory}

-- the value that was given to an option; the parser refuses words that don't give a required one
abbrev pub value_given : Text → List Row → Text
value_given id rows = unwrap_or (first_of id rows) (codes "")

-- a member of this name, which is a string
abbrev pub has_text : List ℕ → Data → Bool
has_text name d = is_some (option_and_then as_str (get name d))

-- of so many members one alone, `base64` or `raw`, as bytes are given that are no text
abbrev pub is_coded : ℕ → Data → Bool
is_coded count d = (count == 1) && (has_text (codes "base64") d || has_text (codes "raw") d)

-- two members, `base64` and `charset`, as a text is given by its bytes
abbrev pub is_in_charset : ℕ → Data → Bool
is_in_charset count d = (count == 2) && has_text (codes "base64") d && has_text (codes "charset") d

-- an object of so many members, as lines of the style have one for a value
abbrev pub is_key_object : Style → ℕ → Data → Bool
is_key_object Plain count d = is_coded count d
is_key_object Full count d = is_coded count d || is_in_charset count d

-- what a column of a key can be; a number is read as a whole one or as a float
abbrev pub is_key_part : Style → Data → Bool
is_key_part style null = true
is_key_part style (boolean b) = false
is_key_part style (number n) = not (is_float n)
is_key_part style (string text) = true
is_key_part style (array items) = false
is_key_part style (object ms) = is_key_object style (members_len ms) (object ms)

abbrev pub are_key_parts : Style → Items → Bool
are_key_parts style no_items = true
are_key_parts style (item part parts) = is_key_part style part && are_key_parts style parts

abbrev pub is_key : Style → Data → Bool
is_key style null = false
is_key style (boolean b) = false
is_key style (number n) = false
is_key style (string text) = false
is_key style (array items) = are_key_parts style items
is_key style (object ms) = false

-- The text is JSON, however it is spelled, and the key is its compact text: what was read has the members of an object in byte order
-- of their names, as lines have them.
abbrev pub IsKeyText : Style → Text → List ℕ → Type 0
IsKeyText style text key = (d : Data) × (read text ≡ Some d) × (is_key style d ≡ true) × (key ≡ compact_text d)

-- a text that is no JSON, or the JSON of no key
abbrev pub NamesNoKey : Style → Text → Type 0
NamesNoKey style text = (d : Data) → read text ≡ Some d → is_key style d ≡ false

-- why the option comes to nothing; memory may be wanting
abbrev pub IsKeyFault : Style → Text → WordsFault → Type 0
IsKeyFault style text Key = NamesNoKey style text
IsKeyFault style text OutOfMemory = Unit {0}
IsKeyFault style text (EventName word) = ⊥
IsKeyFault style text (Set at) = ⊥
IsKeyFault style text Token = ⊥
IsKeyFault style text (CommandLine said) = ⊥
IsKeyFault style text ProfileName = ⊥
IsKeyFault style text (Help error) = ⊥

-- the key, or the fault, of each text that is read as a value
abbrev pub GivesKey : {A E : Type 0} → Style → Value → Result (String A) E → Type 0
GivesKey style value result = (text : Text) → read text ≡ Some (view value) → IfOk result (λ key. IsKeyText style text (string_bytes key))

abbrev pub RefusesKey : {K : Type 0} → Style → Value → Result K WordsFault → Type 0
RefusesKey style value result = (text : Text) → read text ≡ Some (view value) → IfErr result (IsKeyFault style text)
