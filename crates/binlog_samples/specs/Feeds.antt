-- What a call of a feed says of the place where the feed stands, of its mark, and of how far it has read.
use Rattle.std.specs.Prelude.{ℕ, List, [], ◌∷◌, ◌++◌, Some, None, Err, codes}
use Rattle.binlog_frame.specs.Logs.{Contents}
use Rattle.binlog_feed.specs.Changes.{RowChange}
use Rattle.binlog_feed.specs.FeedReaching.{ReachesChange, ReachesEnd, UnitBeginsAt}
use Rattle.binlog_feed.specs.FeedView.{AnswersFrom, MarksOn}
use Rattle.binlog_units.specs.Places.{begin_file}
use Rattle.binlog_units.specs.UnitsView.{ReachesFault}
use Rattle.binlog_units.specs.declared.fault.FeedFault.TheVariants.{OutOfMemory, Read}
use Rattle.binlog_units.specs.declared.unit.Unit.{Unit as UnitSummary}
use Rattle.binlog_units.specs.declared.unit.UnitEnding.TheVariants.{Xid}
use Rattle.binlog_units.specs.declared.what.What.TheVariants.{BadLength, OutOfPlace}
use Rattle.binlog_profile.specs.declared.profile.Profile.TheVariants.{Strict}
use Rattle.binlog_samples.specs.Files.{fault_at, four_bytes, front, xid_event, zeros}

abbrev pub two_named : List (List ℕ)
two_named = codes "a" ∷ codes "b" ∷ []

-- a change of the second file, whatever it is otherwise, and its unit
abbrev pub later : RowChange → RowChange
later change = record change { file = codes "b"; position = 300 }

abbrev pub later_unit : UnitSummary
later_unit = record { file = 1; position = 300; end = 400; gtid = None; ending = Xid }

-- the unit of a change begins at the place in its own file, and nowhere else
abbrev pub UnitsBegin : Type 0
UnitsBegin = (change : RowChange)
    → UnitBeginsAt two_named (later change) (Some (1, 300)) × (UnitBeginsAt two_named (later change) (Some (0, 300)) → ⊥)
    × (UnitBeginsAt two_named (later change) (Some (1, 301)) → ⊥) × (UnitBeginsAt two_named (later change) None → ⊥)

-- a read that failed was in the file of the place; of other faults nothing is said
abbrev pub FailuresStand : Type 0
FailuresStand =
    AnswersFrom two_named (Err (Read 1)) (Some (1, 300)) × (AnswersFrom two_named (Err (Read 0)) (Some (1, 300)) → ⊥) × (AnswersFrom two_named (Err (Read 1)) None → ⊥)
    × AnswersFrom two_named (Err OutOfMemory) None

-- a mark stays, or comes to the place where the feed stood or behind it, but to no place before that
abbrev pub MarksGoOn : Type 0
MarksGoOn =
    MarksOn (Some (1, 300)) (begin_file 0) (begin_file 0) × MarksOn (Some (1, 300)) (begin_file 0) (begin_file 2)
    × (MarksOn (Some (1, 300)) (begin_file 0) (begin_file 1) → ⊥) × (MarksOn (Some (1, 300)) (begin_file 2) (begin_file 1) → ⊥)

-- where a change is to come, reads reach to the end of its own unit, and no further
abbrev pub ReadsEnd : Type 0
ReadsEnd = (change : RowChange)
    → ReachesChange two_named (later_unit ∷ []) (later change ∷ []) (0, 0) (1, 400) × (ReachesChange two_named (later_unit ∷ []) (later change ∷ []) (0, 0) (1, 401) → ⊥)
    × (ReachesChange two_named (record later_unit { file = 0 } ∷ []) (later change ∷ []) (0, 0) (0, 4) → ⊥) × (ReachesChange two_named [] (later change ∷ []) (0, 0) (0, 0) → ⊥)

-- two events of 27 bytes that stand in no transaction, from 153 on
abbrev pub two_commits : Contents
two_commits = record { profile = Strict; files = (front ++ xid_event ++ xid_event) ∷ [] }

-- a header at 153 whose length is too small, and 30 bytes behind it
abbrev pub bad_length : Contents
bad_length = record { profile = Strict; files = (front ++ 0x00 ∷ 0xf1 ∷ 0x53 ∷ 0x65 ∷ 2 ∷ four_bytes 1 ++ four_bytes 18 ++ zeros 36) ∷ [] }

-- where a fault ends the changes, they reach to the end of the event there, and no further; where none stands whole, to that of a header
abbrev pub ReadsStop : Type 0
ReadsStop =
    ReachesEnd two_commits (fault_at 0 153 (OutOfPlace 16)) (0, 0) (0, 180) × (ReachesEnd two_commits (fault_at 0 153 (OutOfPlace 16)) (0, 0) (0, 181) → ⊥)
    × (ReachesEnd two_commits (fault_at 0 153 (OutOfPlace 16)) (0, 0) (1, 4) → ⊥) × ReachesEnd two_commits (fault_at 0 153 (OutOfPlace 16)) (0, 200) (0, 200)
    × ReachesEnd bad_length (fault_at 0 153 BadLength) (0, 0) (0, 172) × (ReachesEnd bad_length (fault_at 0 153 BadLength) (0, 0) (0, 173) → ⊥)
    × ReachesEnd two_commits None (0, 0) (0, 207)

-- where a read failed, they reach no further than the end of its file
abbrev pub ReadsFail : Type 0
ReadsFail =
    ReachesFault (500 ∷ 600 ∷ []) (0, 0) (1, 600) (Read 1) × (ReachesFault (500 ∷ 600 ∷ []) (0, 0) (1, 601) (Read 1) → ⊥)
    × (ReachesFault (500 ∷ 600 ∷ []) (0, 0) (1, 4) (Read 0) → ⊥)
