-- Files of the system: the names that a list of paths asks for, and when what was read of files is true.
use Rattle.std.specs.Prelude.{ℕ, List, [], ◌∷◌, codes}
use Rattle.binlog_frame.specs.Files.{AreLastParts}
use Rattle.binlog_frame.specs.Honesty.{Agrees, TellsTrue}
use Rattle.binlog_samples.specs.Sources.{read_of, two_contents}

-- ---- names

abbrev pub both_paths : List (List ℕ)
both_paths = codes "d/a" ∷ codes "b" ∷ []

-- the names of the paths, in their order
abbrev pub NamesOfPaths : Type 0
NamesOfPaths = AreLastParts both_paths (codes "a" ∷ codes "b" ∷ []) × AreLastParts [] []

-- not one name fewer or more, nor in another order, nor another name for either path
abbrev pub NoNamesOfPaths : Type 0
NoNamesOfPaths =
    (AreLastParts both_paths (codes "a" ∷ []) → ⊥) × (AreLastParts both_paths (codes "a" ∷ codes "b" ∷ codes "b" ∷ []) → ⊥) × (AreLastParts both_paths [] → ⊥)
    × (AreLastParts both_paths (codes "b" ∷ codes "a" ∷ []) → ⊥) × (AreLastParts both_paths (codes "c" ∷ codes "b" ∷ []) → ⊥)
    × (AreLastParts both_paths (codes "a" ∷ codes "c" ∷ []) → ⊥) × (AreLastParts [] (codes "a" ∷ []) → ⊥)

-- ---- reads

-- a read gives what stands at its place, and one at the end of a file nothing
abbrev pub ReadsAgree : Type 0
ReadsAgree = Agrees (codes "abc") (read_of 0 1 (codes "b")) × Agrees (codes "abc") (read_of 0 3 [])

-- not what stands at another place, nor a byte behind the end
abbrev pub ReadsDisagree : Type 0
ReadsDisagree =
    (Agrees (codes "abc") (read_of 0 1 (codes "c")) → ⊥) × (Agrees (codes "abc") (read_of 0 1 (codes "bb")) → ⊥) × (Agrees (codes "abc") (read_of 0 3 (0 ∷ [])) → ⊥)

-- the lengths and each read are those of the contents: "abc" and "de"
abbrev pub FilesTellTrue : Type 0
FilesTellTrue =
    TellsTrue two_contents (3 ∷ 2 ∷ []) [] × TellsTrue two_contents (3 ∷ 2 ∷ []) (read_of 1 1 (codes "e") ∷ read_of 0 1 (codes "b") ∷ []) × TellsTrue [] [] []

-- not a length that is another one, missing or too many
abbrev pub LengthsAreWrong : Type 0
LengthsAreWrong =
    (TellsTrue two_contents (3 ∷ 3 ∷ []) [] → ⊥) × (TellsTrue two_contents (2 ∷ 3 ∷ []) [] → ⊥) × (TellsTrue two_contents (3 ∷ []) [] → ⊥)
    × (TellsTrue two_contents (3 ∷ 2 ∷ 0 ∷ []) [] → ⊥)

-- nor a read of what the file doesn't have there, be it the first or the last one, of what another file has, or of a file that isn't there
abbrev pub ReadsAreWrong : Type 0
ReadsAreWrong =
    (TellsTrue two_contents (3 ∷ 2 ∷ []) (read_of 0 1 (codes "c") ∷ read_of 1 1 (codes "e") ∷ []) → ⊥)
    × (TellsTrue two_contents (3 ∷ 2 ∷ []) (read_of 1 1 (codes "e") ∷ read_of 0 1 (codes "c") ∷ []) → ⊥)
    × (TellsTrue two_contents (3 ∷ 2 ∷ []) (read_of 1 1 (codes "b") ∷ []) → ⊥) × (TellsTrue two_contents (3 ∷ 2 ∷ []) (read_of 1 2 (codes "c") ∷ []) → ⊥)
    × (TellsTrue two_contents (3 ∷ 2 ∷ []) (read_of 2 0 (codes "a") ∷ []) → ⊥)
