-- A run that goes on over other files: from which of them, what it has read and written, and where a failed read was.
use Rattle.std.specs.Prelude.{ℕ, List, [], ◌∷◌, Bool, true, false, Some, None, Result, Ok, Err}
use Rattle.std.specs.declared.io.Write as writer
use Rattle.binlog_select.specs.declared.filter.Filter.{Filter}
use Rattle.binlog_frame.specs.Logs.{Contents}
use Rattle.binlog_frame.specs.declared.logs.Logs as source
use Rattle.binlog_json.specs.declared.style.Style.{Style}
use Rattle.binlog_feed.specs.Changes.{RowChange}
use Rattle.binlog_feed.specs.FeedView.{FeedView}
use Rattle.binlog_feed.specs.Growing.{NamesLast}
use Rattle.binlog_units.specs.Places.{begin_file}
use Rattle.binlog_units.specs.declared.fault.FeedFault.TheVariants as reading
use Rattle.binlog_feed.specs.declared.fault.GoOnFault.TheVariants as going
use Rattle.binlog_profile.specs.declared.profile.Profile.TheVariants.{Strict}
use Rattle.binlogfeed.specs.Coming.{IsReadIn, StandsUpTo, TellsEnd}
use Rattle.binlogfeed.specs.RunsOn.{WentOn}
use Rattle.binlogfeed.specs.declared.fault.RunFault.{RunFault}
use Rattle.binlogfeed.specs.declared.fault.RunFault.TheVariants as run
use Rattle.binlogfeed.specs.declared.fault.TokenRefusal.TheVariants.{NoFile}
use Rattle.binlog_samples.specs.GoingOn.{second_end}
use Rattle.binlog_samples.specs.Statuses.{two_names}
use Rattle.binlog_samples.specs.Tokens.{first_name, second_name, third_name}

-- a source by what is known of it
pub record SourceState : Type 0 where
  pub names : List (List ℕ)
  pub contents : Contents
  pub lengths : List ℕ
  pub honest : Bool
  pub failures : ℕ
  pub reach : ℕ × ℕ
  pub asked : List (ℕ × ℕ)

abbrev pub of_files : source.Ghosts SourceState
of_files = record {
  names = λ s. s.names;
  contents = λ s. s.contents;
  lengths = λ s. s.lengths;
  honest = λ s. s.honest;
  failures = λ s. s.failures;
  reach = λ s. s.reach;
  asked = λ s. s.asked;
}

abbrev pub of_text : writer.Ghosts (List ℕ)
of_text = record { contents = λ text. Some text }

abbrev pub no_files : SourceState
no_files = record { names = []; contents = record { profile = Strict; files = [] }; lengths = []; honest = true; failures = 0; reach = (0, 0); asked = [] }

abbrev pub Went : Style → Filter → FeedView → SourceState → FeedView → SourceState → List ℕ → Result ℕ RunFault → Type 0
Went style chosen feed logs later earlier text result = WentOn of_files of_text style feed logs chosen [] text (later, earlier, result)

-- at its end, without files and with a window of nine bytes
abbrev pub before_any : FeedView → FeedView
before_any feed = record feed { settled = Some None; names = []; window_length = 9 }

abbrev pub behind_none : FeedView → FeedView
behind_none later = record later { to_come = []; end = None; window_length = 9; mark = begin_file 0; names = []; honest = true; asked = [] }

-- Over no files nothing is read or written, and no token is refused, be the source honest or not.
abbrev pub GoesOnOverNone : Type 0
GoesOnOverNone = (style : Style) (chosen : Filter) (feed later : FeedView) (earlier : SourceState)
    → Went style chosen (before_any feed) no_files (behind_none later) earlier [] (Ok 0)
    × (Went style chosen (before_any feed) no_files (behind_none later) earlier [] (Err (run.Token NoFile)) → ⊥)
    × (Went style chosen (before_any feed) no_files (record (behind_none later) { honest = false }) earlier [] (Err (run.Token NoFile)) → ⊥)

-- Only a feed that has told its end goes on, and its window is never taken away. A file has the name of its last one, none behind that the name
-- of another one, and no read begins before that file.
abbrev pub DoesNotGoOn : Type 0
DoesNotGoOn = (style : Style) (chosen : Filter) (feed later : FeedView) (logs earlier : SourceState) (text : List ℕ) (result : Result ℕ RunFault)
    → (Went style chosen (record feed { settled = None }) logs later earlier text result → ⊥)
    × (Went style chosen (record feed { settled = Some (Some second_end) }) logs later earlier text result → ⊥)
    × (Went style chosen (before_any feed) logs (record later { window_length = 8 }) earlier text result → ⊥)
    × (Went style chosen (record feed { names = two_names }) (record logs { names = first_name ∷ [] }) later earlier text result → ⊥)
    × (Went style chosen (record feed { names = two_names }) (record logs { names = second_name ∷ first_name ∷ [] }) later earlier text result → ⊥)
    × (Went style chosen (record feed { names = second_name ∷ [] }) (record logs { names = two_names; asked = [] }) (record later { asked = (0, 4) ∷ [] }) earlier text result → ⊥)

-- Lines are counted where the feed has told that no fault ends it, and a log fault is the one that it has told.
abbrev pub EndsTold : Type 0
EndsTold =
    TellsEnd (Some None) (Ok 2) × (TellsEnd None (Ok 2) → ⊥) × (TellsEnd (Some (Some second_end)) (Ok 2) → ⊥) × TellsEnd (Some (Some second_end)) (Err (run.Log second_end))
    × (TellsEnd (Some None) (Err (run.Log second_end)) → ⊥) × (TellsEnd None (Err (run.Log second_end)) → ⊥)
    × (TellsEnd (Some (Some second_end)) (Err (run.Log (record second_end { position = 371 }))) → ⊥) × TellsEnd None (Err run.Write)

-- ---- where a read failed

-- in the file of the place, which is none behind a fault
abbrev pub ReadsPlaced : Type 0
ReadsPlaced =
    IsReadIn (Some (1, 153)) (run.Read 1) × (IsReadIn (Some (1, 153)) (run.Read 0) → ⊥) × (IsReadIn (Some (1, 153)) (run.Read 2) → ⊥) × (IsReadIn None (run.Read 0) → ⊥)
    × IsReadIn None run.Write × IsReadIn (Some (1, 153)) (run.Log second_end)

-- a change of the second file stands behind the first one
abbrev pub ChangesUpTo : Type 0
ChangesUpTo = (change : RowChange)
    → StandsUpTo two_names 0 (record change { file = first_name }) × StandsUpTo two_names 1 (record change { file = first_name }) × StandsUpTo two_names 1 (record change { file = second_name })
    × (StandsUpTo two_names 0 (record change { file = second_name }) → ⊥)

-- a failed read and a log fault of a later list name the file that has the name of the last one before, and those before name that one
abbrev pub LastNamed : Type 0
LastNamed =
    NamesLast (first_name ∷ []) two_names (going.Later (reading.Read 0)) × (NamesLast (first_name ∷ []) two_names (going.Later (reading.Read 1)) → ⊥)
    × NamesLast two_names (third_name ∷ second_name ∷ []) (going.Later (reading.Read 1)) × (NamesLast two_names (third_name ∷ second_name ∷ []) (going.Later (reading.Read 0)) → ⊥)
    × NamesLast (first_name ∷ []) two_names (going.Later (reading.Log second_end)) × (NamesLast (second_name ∷ []) two_names (going.Later (reading.Log second_end)) → ⊥)
    × NamesLast (first_name ∷ []) [] (going.Later reading.OutOfMemory) × NamesLast (first_name ∷ []) [] (going.Earlier (reading.Read 0))
    × (NamesLast two_names [] (going.Earlier (reading.Read 0)) → ⊥) × NamesLast (first_name ∷ []) two_names (going.Earlier (reading.Log second_end))
    × (NamesLast two_names [] (going.Earlier (reading.Log second_end)) → ⊥)
