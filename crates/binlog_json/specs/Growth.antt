-- What a call adds to a line, and to bytes.
use Rattle.std.specs.Prelude.{◌≡◌, ℕ, List, ◌++◌, is_ok, if◌then◌else◌, Result, Vec}
use Rattle.std.specs.declared.alloc.Global.{Global}
use Rattle.json.specs.Print.{quoted}
use Rattle.binlog_json.specs.Json.{Data, compact_text}
use Rattle.binlog_json.specs.LineBytes.{line_bytes}
use Rattle.binlog_json.specs.declared.lines.Line.{Line}

-- the line has the text behind what it said
abbrev pub Gains : Line → Line → List ℕ → Type 0
Gains old new text = line_bytes new ≡ line_bytes old ++ text

-- the same of a value's text
abbrev pub Prints : Line → Line → Data → Type 0
Prints old new value = Gains old new (compact_text value)

-- and of a text as a string
abbrev pub Quotes : Line → Line → List ℕ → Type 0
Quotes old new text = Gains old new (quoted text)

-- a text is added, or after an error the line says what it said
abbrev pub GainsOrStays : {A E : Type 0} → Line → Line → Result A E → List ℕ → Type 0
GainsOrStays old new result text = line_bytes new ≡ (if is_ok result then line_bytes old ++ text else line_bytes old)

-- more bytes stand behind those that were there
abbrev pub Gathers : Vec ℕ Global → Vec ℕ Global → List ℕ → Type 0
Gathers old new more = new.items ≡ old.items ++ more
