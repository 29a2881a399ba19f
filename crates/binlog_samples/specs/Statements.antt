-- Statements that stand by themselves in small files, the changes that say them, and which filters let these pass.
use Rattle.std.specs.Prelude.{◌≡◌, ℕ, List, [], ◌∷◌, ◌++◌, map, Some, None, Bool, true, false, codes}
use Rattle.binlog_select.specs.declared.filter.Filter.{Filter}
use Rattle.binlog_select.specs.declared.kind.ChangeKind.{ChangeKind}
use Rattle.binlog_select.specs.declared.kind.ChangeKind.TheVariants.{Insert, Update, Delete, Statement}
use Rattle.binlog_profile.specs.declared.profile.Profile.TheVariants.{Server, Strict}
use Rattle.binlog_units.specs.Statements.{StatementText}
use Rattle.binlog_feed.specs.Changes.{RowChange}
use Rattle.binlog_feed.specs.Feeds.{changes, end_of_changes, feed}
use Rattle.binlog_feed.specs.FeedView.{passes_by}
use Rattle.binlog_feed.specs.Subjects.{no_row, no_table}
use Rattle.binlogfeed.specs.Options.{IsKindOf, gives}
use Rattle.binlog_samples.specs.Changes.{image, one_more}
use Rattle.binlog_samples.specs.Files.{alone, front, gtid_event, query_event, source, transaction, xid_event}

-- a GTID and a statement, from 153 to 258
abbrev pub truncated : List ℕ
truncated = front ++ gtid_event 1 ++ query_event (codes "TRUNCATE t")

abbrev pub truncate_text : StatementText
truncate_text = record { timestamp = 1700000000; schema = codes "s"; text = codes "TRUNCATE t" }

-- what it says: a change with the number 0, without a table and a row
abbrev pub truncation : RowChange
truncation = record {
  file = codes "binlog.000001";
  position = 153;
  number = 0;
  gtid = Some (source, 1);
  committed = None;
  kind = Statement;
  timestamp = 1700000000;
  table = no_table;
  row = no_row;
  statements = truncate_text ∷ [];
}

abbrev pub StatementIsSaid : Type 0
StatementIsSaid = (changes (alone truncated) ≡ truncation ∷ []) × (end_of_changes (alone truncated) ≡ None)

-- what a change is, and where it stands
abbrev pub placed : RowChange → ChangeKind × (ℕ × ℕ)
placed change = (change.kind, (change.position, change.number))

abbrev pub PlacedAre : List ℕ → List (ChangeKind × (ℕ × ℕ)) → Type 0
PlacedAre file those = map placed (changes (alone file)) ≡ those

-- a statement without a GTID, and one in front of a transaction
abbrev pub StatementsStand : Type 0
StatementsStand =
    PlacedAre (front ++ query_event (codes "TRUNCATE t")) ((Statement, (153, 0)) ∷ [])
    × PlacedAre (truncated ++ one_more 2 (image 1 (codes "a")) xid_event) ((Statement, (153, 0)) ∷ (Insert, (258, 1)) ∷ [])

-- COMMIT and ROLLBACK say nothing, nor does BEGIN, nor, so far, a text within a transaction
abbrev pub SaysNothing : List ℕ → Type 0
SaysNothing file = changes (alone file) ≡ []

abbrev pub MarksSayNothing : Type 0
MarksSayNothing =
    SaysNothing (front ++ gtid_event 1 ++ query_event (codes "COMMIT")) × SaysNothing (front ++ gtid_event 1 ++ query_event (codes "ROLLBACK"))
    × SaysNothing (front ++ query_event (codes "BEGIN")) × SaysNothing (front ++ transaction 1 (query_event (codes "DELETE FROM t") ++ xid_event))

-- ---- filters

-- no list, and statements or none
abbrev pub open_filter : Bool → Filter
open_filter statements =
    record { only_events = None; only_tables = None; ignored_tables = None; only_schemas = None; ignored_schemas = None; auto_position = None; statements = statements }

abbrev pub FeedIs : Filter → List RowChange → Type 0
FeedIs chosen those = feed (alone truncated) (passes_by chosen) ≡ those

-- a filter has to let statements pass, and its list of events, too
abbrev pub StatementsPass : Type 0
StatementsPass =
    FeedIs (open_filter true) (truncation ∷ []) × FeedIs (open_filter false) []
    × FeedIs (record (open_filter true) { only_events = Some (Statement ∷ []) }) (truncation ∷ [])
    × FeedIs (record (open_filter false) { only_events = Some (Statement ∷ []) }) []
    × FeedIs (record (open_filter true) { only_events = Some (Insert ∷ Update ∷ Delete ∷ []) }) []

-- ---- the word `statement`

-- it names a kind by the server's profile alone, and the other words name theirs by each
abbrev pub WordsByProfile : Type 0
WordsByProfile =
    IsKindOf Server (codes "statement") (Some Statement) × (IsKindOf Strict (codes "statement") (Some Statement) → ⊥)
    × IsKindOf Server (codes "delete") (Some Delete) × IsKindOf Strict (codes "delete") (Some Delete)
    × (gives Strict Statement ≡ false) × (gives Server Statement ≡ true) × (gives Strict Insert ≡ true)
