-- Lists of paths, as they stand on the standard input of a run that follows.
use Rattle.std.specs.Prelude.{◌≡◌, ◌≢◌, ℕ, List, [], ◌∷◌, ◌++◌, Option, Some, None}
use Rattle.std.specs.List.{flat_map}
use Rattle.clap.specs.Words.{Text}
use Rattle.binlog_units.specs.Units.{Each}

-- a line with its line feed
abbrev pub line_text : Text → List ℕ
line_text line = line ++ 10 ∷ []

-- a list: a line for each path, and then an empty line
abbrev pub list_text : List Text → List ℕ
list_text paths = flat_map line_text paths ++ 10 ∷ []

abbrev pub HasNoLineFeed : List ℕ → Type 0
HasNoLineFeed bytes = Each (λ byte. byte ≢ 10) bytes

-- a path can stand in a list: it isn't empty, and has no line feed
abbrev pub IsPath : Text → Type 0
IsPath path = (path ≢ []) × HasNoLineFeed path

-- bytes begin with a list
pub record BeginsWithList (bytes : List ℕ) (list : List Text) (left : List ℕ) : Type 0 where
  pub paths : Each IsPath list
  pub parts : bytes ≡ list_text list ++ left

-- bytes have no list more: their lines have no empty one among them, and the last of them may have no end
pub record HasNoList (bytes : List ℕ) : Type 0 where
  pub paths : List Text
  pub unfinished : List ℕ
  pub each : Each IsPath paths
  pub open_line : HasNoLineFeed unfinished
  pub parts : bytes ≡ flat_map line_text paths ++ unfinished

-- of the bytes that a reader has left, where these are known, a line was read, or the rest has no end of a line
abbrev pub ReadsLine : Option (List ℕ) → Option (List ℕ) → Option Text → Type 0
ReadsLine None later found = Unit {0}
ReadsLine (Some bytes) later (Some line) = (left : List ℕ) × HasNoLineFeed line × (bytes ≡ line_text line ++ left) × (later ≡ Some left)
ReadsLine (Some bytes) later None = HasNoLineFeed bytes

-- so with lists
abbrev pub ReadsList : Option (List ℕ) → Option (List ℕ) → Option (List Text) → Type 0
ReadsList None later found = Unit {0}
ReadsList (Some bytes) later (Some list) = (left : List ℕ) × BeginsWithList bytes list left × (later ≡ Some left)
ReadsList (Some bytes) later None = HasNoList bytes
