-- What calls say that open a feed with a window that is large enough.
use Rattle.std.specs.Prelude.{◌≡◌, ◌⊎◌, ℕ, length, IsTrue, Vec}
use Rattle.binlog_frame.specs.declared.logs.Logs.{Ghosts}
use Rattle.binlog_select.specs.declared.filter.Filter.{Filter}
use Rattle.binlog_select.specs.declared.token.Token.{Token}
use Rattle.binlog_units.specs.FeedSources.{files_in}
use Rattle.binlog_feed.specs.FeedView.{FeedView, passes_by, remaining_changes}
use Rattle.binlog_feed.specs.Starts.{RefusesOpening}
use Rattle.binlog_units.specs.declared.fault.OpenFeedFault.{OpenFeedFault}
use Rattle.binlog_units.specs.declared.fault.OpenFeedFault.TheVariants.{OutOfMemory, WindowTooSmall}
use Rattle.binlog_feed.specs.declared.start.Start.{Start}
use Rattle.binlogfeed.specs.Faults.{IsNamed, fault_of_opening}
use Rattle.binlogfeed.specs.Looks.{BeginsFollowing, RefusesAtEndOf, RefusesFollowing, TellsUnbegun}
use Rattle.binlogfeed.specs.Runs.{ReadsFailed}

-- the window has the length that the fault asks for
abbrev pub IsAskedBy : {A : Type 0} → OpenFeedFault → Vec ℕ A → Type 0
IsAskedBy fault window = fault ≡ WindowTooSmall (length window.items)

-- the fault stays; or it asks for a larger window, for which memory is wanting
abbrev pub StaysFault : OpenFeedFault → OpenFeedFault → Type 0
StaysFault fault why = (why ≡ fault) ⊎ ((why ≡ OutOfMemory) × ((needed : ℕ) × (fault ≡ WindowTooSmall needed)))

module _ {S : Type 0} (L : Ghosts S) where
  -- ---- over an honest source: why no feed is opened

  abbrev pub RefusesToBegin : S → Start → S × Filter × Start × OpenFeedFault → Type 0
  RefusesToBegin logs start back = IsTrue (L.honest back.0) → RefusesOpening (L.names logs) (L.contents logs) start back.3

  abbrev pub RefusesFileEnd : S → Token → S × OpenFeedFault → Type 0
  RefusesFileEnd logs token back = IsTrue (L.honest back.0) → RefusesAtEndOf (L.names logs) (L.contents logs) token back.1

  abbrev pub RefusesToFollow : S → Start → S × OpenFeedFault → Type 0
  RefusesToFollow logs start back = IsTrue (L.honest back.0) → RefusesFollowing (L.names logs) (L.contents logs) start back.1

  -- ---- over any source: the fault names the second file of a name, or the file of the start, and the device only where it has failed

  abbrev pub NamesOpened : S → OpenFeedFault → Type 0
  NamesOpened logs fault = IsNamed (L.names logs) (fault_of_opening fault)

  abbrev pub TellsOpening : S → Start → OpenFeedFault → Type 0
  TellsOpening logs start fault = TellsUnbegun (L.names logs) (L.contents logs) start (fault_of_opening fault)

  abbrev pub FailsToOpen : S → S → OpenFeedFault → Type 0
  FailsToOpen old new fault = ReadsFailed (L.failures old) (L.failures new) (fault_of_opening fault)

  -- ---- a feed that was opened

  -- where a run that follows begins
  abbrev pub BeginsToFollow : S → Filter → Start → FeedView → Type 0
  BeginsToFollow logs filter start given = BeginsFollowing (files_in L logs) (passes_by filter) start (remaining_changes given)
