-- Sources of files: their reads, lengths and failures, refused paths, and equal names.
use Rattle.std.specs.Prelude.{◌≡◌, ℕ, ◌-◌, ◌^◌, Bool, true, false, List, [], ◌∷◌, codes}
use Rattle.binlog_frame.specs.Files.{IsLastPart, RefusesPath, RefusesOne, lengths_are}
use Rattle.binlog_frame.specs.Logs.{Contents, HasRisen, KeepsSource}
use Rattle.binlog_frame.specs.Transcript.{FileRead, is_true, are_true}
use Rattle.binlog_frame.specs.declared.open_fault.OpenFault.TheVariants.{BadName, CannotOpen}
use Rattle.binlog_units.specs.Names.{IsDuplicate}
use Rattle.binlog_units.specs.declared.fault.OpenFeedFault.TheVariants.{DuplicateFile}
use Rattle.binlog_profile.specs.declared.profile.Profile.TheVariants.{Strict}

-- ---- reads

abbrev pub two_contents : List (List ℕ)
two_contents = codes "abc" ∷ codes "de" ∷ []

abbrev pub read_of : ℕ → ℕ → List ℕ → FileRead
read_of file offset bytes = record { file = file; offset = offset; bytes = bytes }

abbrev pub Gives : ℕ → ℕ → List ℕ → Type 0
Gives file offset bytes = is_true two_contents (read_of file offset bytes) ≡ true

abbrev pub CannotGive : ℕ → ℕ → List ℕ → Type 0
CannotGive file offset bytes = is_true two_contents (read_of file offset bytes) ≡ false

-- at an offset a file gives what stands there, all of it or less
abbrev pub TrueReads : Type 0
TrueReads =
    Gives 0 0 (codes "abc") × Gives 0 0 (codes "ab") × Gives 0 1 (codes "bc") × Gives 0 1 (codes "b") × Gives 0 2 (codes "c") × Gives 0 3 [] × Gives 0 9 []
    × Gives 1 0 (codes "de") × Gives 1 1 (codes "e")

-- not what stands at another offset or in another file, nor more than there is
abbrev pub FalseReads : Type 0
FalseReads =
    CannotGive 0 1 (codes "ab") × CannotGive 0 0 (codes "b") × CannotGive 1 1 (codes "b") × CannotGive 0 1 (codes "e")
    × CannotGive 0 2 (codes "cd") × CannotGive 0 3 (codes "d") × CannotGive 2 0 (codes "a")

-- each read counts
abbrev pub ManyReads : Type 0
ManyReads =
    (are_true two_contents [] ≡ true) × (are_true two_contents (read_of 1 1 (codes "e") ∷ read_of 0 1 (codes "bc") ∷ []) ≡ true)
    × (are_true two_contents (read_of 1 1 (codes "e") ∷ read_of 0 1 (codes "bd") ∷ []) ≡ false)
    × (are_true two_contents (read_of 1 0 (codes "e") ∷ read_of 0 1 (codes "bc") ∷ []) ≡ false)

abbrev pub Lengths : Type 0
Lengths =
    (lengths_are two_contents (3 ∷ 2 ∷ []) ≡ true) × (lengths_are two_contents (3 ∷ 3 ∷ []) ≡ false) × (lengths_are two_contents (2 ∷ 3 ∷ []) ≡ false)
    × (lengths_are two_contents (3 ∷ []) ≡ false) × (lengths_are two_contents (3 ∷ 2 ∷ 0 ∷ []) ≡ false) × (lengths_are [] [] ≡ true)

-- ---- failures

-- a count that stays has not risen, nor has one that falls; but one that can't rise has
abbrev pub Rises : Type 0
Rises = HasRisen 0 1 × HasRisen 3 9 × HasRisen (2 ^ 64 - 1) (2 ^ 64 - 1) × (HasRisen 1 1 → ⊥) × (HasRisen 2 1 → ⊥) × (HasRisen 0 0 → ⊥)

-- ---- calls

pub record Source : Type 0 where
  pub names : List (List ℕ)
  pub contents : Contents
  pub lengths : List ℕ
  pub honest : Bool
  pub failures : ℕ

abbrev pub Keeps : Source → Source → Type 0
Keeps before after = KeepsSource (λ s. s.names) (λ s. s.contents) (λ s. s.lengths) (λ s. s.honest) (λ s. s.failures) before after

abbrev pub some_source : Source
some_source = record { names = codes "a" ∷ []; contents = record { profile = Strict; files = codes "abc" ∷ [] }; lengths = 3 ∷ []; honest = true; failures = 1 }

abbrev pub found_out : Source
found_out = record some_source { honest = false }

-- nothing changes but that failures may be more, and that it may turn out not to be honest
abbrev pub Kept : Type 0
Kept = Keeps some_source some_source × Keeps some_source found_out × Keeps some_source (record some_source { failures = 2 }) × Keeps found_out found_out

abbrev pub NotKept : Type 0
NotKept =
    (Keeps some_source (record some_source { names = codes "b" ∷ [] }) → ⊥) × (Keeps some_source (record some_source { contents = record { profile = Strict; files = codes "abd" ∷ [] } }) → ⊥)
    × (Keeps some_source (record some_source { lengths = 4 ∷ [] }) → ⊥) × (Keeps found_out some_source → ⊥)
    × (Keeps some_source (record some_source { failures = 0 }) → ⊥)

-- ---- paths

-- what stands behind the last slash, or all of it
abbrev pub LastParts : Type 0
LastParts =
    IsLastPart (codes "a") (codes "a") × IsLastPart (codes "logs/a.1") (codes "a.1") × IsLastPart (codes "/x/y") (codes "y") × IsLastPart (codes "logs/") []

-- not with a slash in it, a part of a name, or the folder
abbrev pub NoLastParts : Type 0
NoLastParts =
    (IsLastPart (codes "b/a") (codes "b/a") → ⊥) × (IsLastPart (codes "b/a") (codes "b") → ⊥) × (IsLastPart (codes "ba") (codes "a") → ⊥)
    × (IsLastPart (codes "a") [] → ⊥)

-- for a name that is none, or a file that the system doesn't give
abbrev pub PathsRefused : Type 0
PathsRefused =
    RefusesPath 0 (codes "a") (CannotOpen 0) × RefusesPath 1 [] (BadName 1) × RefusesPath 2 (codes "a/") (BadName 2)
    × RefusesOne (codes "a" ∷ [] ∷ codes "b" ∷ []) (BadName 1)

-- not for a good name, nor as if the system had been asked for a bad one, nor with another number, nor behind a bad name
abbrev pub PathsNotRefused : Type 0
PathsNotRefused =
    (RefusesPath 0 (codes "a") (BadName 0) → ⊥) × (RefusesPath 0 [] (CannotOpen 0) → ⊥)
    × (RefusesPath 0 (codes "a") (CannotOpen 1) → ⊥) × (RefusesPath 1 [] (BadName 0) → ⊥)
    × (RefusesOne ([] ∷ codes "a" ∷ []) (CannotOpen 1) → ⊥)

-- ---- names

abbrev pub some_names : List (List ℕ)
some_names = codes "a" ∷ codes "b" ∷ codes "a" ∷ codes "b" ∷ []

-- the third of the names is the first that has stood before
abbrev pub Duplicates : Type 0
Duplicates =
    IsDuplicate some_names (DuplicateFile 2) × (IsDuplicate some_names (DuplicateFile 0) → ⊥) × (IsDuplicate some_names (DuplicateFile 1) → ⊥)
    × (IsDuplicate some_names (DuplicateFile 3) → ⊥) × (IsDuplicate some_names (DuplicateFile 4) → ⊥)
