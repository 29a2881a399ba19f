-- A feed that goes on: the new file that has the name of its last one, and what may stand there in place of the first event.
use Rattle.std.specs.Prelude.{ℕ, List, [], ◌∷◌, ◌++◌, drop, take, None, Ok, Err, codes}
use Rattle.binlog_frame.specs.Cutting.{magic}
use Rattle.binlog_frame.specs.Splitting.{EndsInFront, TellsIfEvents}
use Rattle.binlog_frame.specs.declared.fault.FrameFault.TheVariants as frame_faults
use Rattle.binlog_feed.specs.Growing.{IsFaultInFront, IsLastByName, LacksPlace}
use Rattle.binlog_units.specs.declared.fault.FeedFault.TheVariants.{Log}
use Rattle.binlog_units.specs.declared.fault.LogFault.{LogFault}
use Rattle.binlog_units.specs.declared.what.What.{What}
use Rattle.binlog_units.specs.declared.what.What.TheVariants.{BadMagic, NoFormat, BadLength}
use Rattle.binlog_samples.specs.Files.{first_log, xid_event}
use Rattle.binlog_samples.specs.Hex.{hex}

abbrev pub last_is_b : List (List ℕ)
last_is_b = codes "a" ∷ codes "b" ∷ []

abbrev pub second_is_b : List (List ℕ)
second_is_b = codes "a" ∷ codes "b" ∷ codes "b" ∷ []

-- the first file that has the name of the last one, and neither one with another name nor a later one
abbrev pub LastNames : Type 0
LastNames =
    IsLastByName last_is_b second_is_b 1 × IsLastByName last_is_b (codes "b" ∷ []) 0
    × (IsLastByName last_is_b second_is_b 0 → ⊥) × (IsLastByName last_is_b second_is_b 2 → ⊥) × (IsLastByName last_is_b [] 0 → ⊥) × (IsLastByName [] second_is_b 0 → ⊥)

abbrev pub fault_in : ℕ → What → LogFault
fault_in position what = record { file = 0; position = position; what = what }

abbrev pub without_magic : List ℕ
without_magic = 0xfd ∷ drop 1 first_log

abbrev pub without_format : List ℕ
without_format = magic ++ xid_event

-- what a file has in place of its first event, and where: at the magic, or behind it
abbrev pub Fronts : Type 0
Fronts =
    IsFaultInFront without_magic (fault_in 0 BadMagic) × IsFaultInFront without_format (fault_in 4 NoFormat)
    × (IsFaultInFront without_magic (fault_in 4 BadMagic) → ⊥) × (IsFaultInFront without_magic (fault_in 0 NoFormat) → ⊥)
    × (IsFaultInFront without_format (fault_in 0 NoFormat) → ⊥) × (IsFaultInFront (first_log ++ hex "00 00 00 00 00 00 00 00 00 00 00 00 00 00 00 00 00 00 00") (fault_in 371 BadLength) → ⊥)

-- a file that ends before its first event is whole; one with that event, or with another fault there, doesn't
abbrev pub FrontEnds : Type 0
FrontEnds =
    EndsInFront [] × EndsInFront (take 3 first_log) × EndsInFront (take 4 first_log) × EndsInFront (take 125 first_log)
    × (EndsInFront (take 126 first_log) → ⊥) × (EndsInFront without_magic → ⊥) × (EndsInFront without_format → ⊥)

-- what is told of that event: that the file ends before it, or the fault in its place
abbrev pub TellsUnfound : Type 0
TellsUnfound =
    TellsIfEvents (take 4 first_log) (Ok None) × TellsIfEvents without_format (Err frame_faults.NoFormat) × TellsIfEvents without_magic (Err frame_faults.BadMagic)
    × (TellsIfEvents first_log (Ok None) → ⊥) × (TellsIfEvents without_format (Ok None) → ⊥) × (TellsIfEvents without_format (Err frame_faults.BadFormat) → ⊥)
    × (TellsIfEvents first_log (Err frame_faults.NoFormat) → ⊥)

-- A file has no place where it ends before its first event is whole, and its fault is told. Nothing is read of it for the place at its
-- beginning.
abbrev pub Lacks : Type 0
Lacks =
    LacksPlace (take 100 first_log) 100 (Ok None) × LacksPlace without_magic 371 (Err (Log (fault_in 0 BadMagic)))
    × (LacksPlace without_magic 371 (Ok None) → ⊥) × (LacksPlace first_log 371 (Ok None) → ⊥) × (LacksPlace without_magic 371 (Err (Log (fault_in 4 BadMagic))) → ⊥)
    × (LacksPlace [] 0 (Ok None) → ⊥) × (LacksPlace without_magic 0 (Err (Log (fault_in 0 BadMagic))) → ⊥)
