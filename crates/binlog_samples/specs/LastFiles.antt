-- What comes in the files of a look behind the last file of the look before.
use Rattle.std.specs.Prelude.{◌≡◌, ℕ, List, [], ◌∷◌, ◌++◌, map, Some, None, Ok, false}
use Rattle.binlog_select.specs.declared.filter.Filter.{Filter}
use Rattle.binlog_json.specs.declared.style.Style.{Style}
use Rattle.binlog_feed.specs.ChangeMachine.{RemainingChanges}
use Rattle.binlog_feed.specs.declared.start.Start.TheVariants.{Beginning}
use Rattle.binlog_feed.specs.Feeds.{feed}
use Rattle.binlog_feed.specs.FeedView.{passes_by}
use Rattle.binlog_units.specs.Places.{begin_file}
use Rattle.binlogfeed.specs.Follow.{EachKeepsLast, TextFromLast}
use Rattle.binlogfeed.specs.Looks.{ComesBehindLast, ComesFromLast, Look, look_text}
use Rattle.binlog_samples.specs.Changes.{brief}
use Rattle.binlog_samples.specs.Following.{all, both_files, cut_look, given, look_at, one_file}
use Rattle.binlog_samples.specs.Tokens.{second_change, third_file}

-- that file has all that was read of it; where that was no whole event, all of it comes
abbrev pub LastFilesReach : Type 0
LastFilesReach =
    ComesBehindLast all (cut_look 100) (look_at one_file) (record { changes = given one_file; end = None })
    × ((coming : RemainingChanges) → ComesBehindLast all (look_at one_file) (cut_look 370) coming → ⊥)
    × ((style : Style) (chosen : Filter) → EachKeepsLast style chosen Beginning 0 (Some []) (Some []) (Some (Ok tt)) (cut_look 370 ∷ look_at one_file ∷ []) → ⊥)

-- Of files that don't continue the one before, since another one stands in front of it, only what stands behind that one comes.
abbrev pub ComesOnce : Type 0
ComesOnce =
    (coming : RemainingChanges) → ComesBehindLast all (look_at one_file) (look_at (third_file ∷ both_files)) coming
    → (map brief coming.changes ≡ second_change ∷ []) × (coming.end ≡ None)

-- ---- whatever the lists held

-- a filter that no change passes
abbrev pub passing_none : Filter
passing_none =
    record { only_events = Some []; only_tables = None; ignored_tables = None; only_schemas = None; ignored_schemas = None; auto_position = None; statements = false }

-- the files of the second look don't continue those of the first, since another one stands in front
abbrev pub turned_looks : List Look
turned_looks = look_at (third_file ∷ both_files) ∷ look_at (third_file ∷ one_file) ∷ look_at one_file ∷ []

-- Behind such a look the next one keeps to the filter, and adds its empty line.
abbrev pub FilterStays : Type 0
FilterStays = (style : Style) (text : List ℕ)
    → EachKeepsLast style passing_none Beginning 0 (Some []) (Some text) (Some (Ok tt)) turned_looks → text ≡ 10 ∷ 10 ∷ 10 ∷ []

-- It writes what is in its files from a place of the last one of before on: an empty line for an empty list, one for a look at no whole event,
-- and then all of the file.
abbrev pub TextStandsBehind : Type 0
TextStandsBehind = (style : Style) (chosen : Filter)
    → TextFromLast style chosen Beginning 1 (Some []) (Some ((10 ∷ 10 ∷ []) ++ look_text style (feed one_file (passes_by chosen)))) (cut_look 100) (look_at one_file) [] (Some (Ok tt))

-- neither in another file, nor behind less than was read of that one
abbrev pub PlacesOfLasts : Type 0
PlacesOfLasts =
    ((coming : RemainingChanges) → ComesFromLast all (look_at one_file) (look_at (third_file ∷ [])) coming → ⊥)
    × ((coming : RemainingChanges) (h : ComesFromLast all (look_at one_file) (cut_look 370) coming) → h.mark ≡ begin_file 0 → ⊥)
