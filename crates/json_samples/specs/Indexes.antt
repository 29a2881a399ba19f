-- The index by key over small files: what its definitions and laws say there. A law is asked by its name for what it says of these files,
-- so that each of its premises has to hold of them.
use Rattle.std.specs.Prelude.{◌≡◌, ℕ, List, [], ◌∷◌, ◌++◌, map, Some, Bool, true, codes}
use Rattle.binlog_select.specs.declared.token.Token.{Token}
use Rattle.binlog_feed.specs.Changes.{RowChange}
use Rattle.binlog_feed.specs.Continues.{has_file, in_files}
use Rattle.binlog_feed.specs.Feeds.{feed}
use Rattle.binlog_units.specs.Parsing.{LogFile}
use Rattle.binlog_feed.specs.Tokens.{token_of, rest, change_at, judge_change}
use Rattle.binlog_feed.specs.Tokens.Judgement.{Fits}
use Rattle.binlog_json.specs.Index.{Places, no_places, filled, PassesAll, HoldsHistories, HistoriesAreHeld, LendChanges, PlacesLendTheirChanges, KeptIndexesGoOn, IndexesGoOn}
use Rattle.json_samples.specs.Bytes.{utf8}
use Rattle.json_samples.specs.Histories.{front, gtid_event, begin_event, event_of, rows_event, xid_event, files}
use Rattle.json_samples.specs.Lines.{keyed_body, year_change}
use Rattle.binlog_profile.specs.declared.profile.Profile.TheVariants.{Strict}

-- ---- files

abbrev pub every : RowChange → Bool
every change = true

-- a transaction of 251 bytes with two rows: its events have 61, 39, 70, 54 and 27 of them
abbrev pub transaction : List ℕ
transaction = gtid_event ++ begin_event ++ event_of 19 keyed_body ++ rows_event ++ xid_event

-- the file of one transaction, at 126, and later with the same one behind it, at 377
abbrev pub grown : List LogFile
grown = record { profile = Strict; name = codes "binlog.000001"; bytes = front ++ transaction ++ transaction } ∷ []

-- behind a file that is gone later
abbrev pub two_files : List LogFile
two_files = record { profile = Strict; name = codes "binlog.000000"; bytes = front ++ transaction } ∷ files

abbrev pub place : ℕ → ℕ → Token
place position count = record { position = position; count = count; file = codes "binlog.000001" }

-- the keys of the two rows
abbrev pub first_key : List ℕ
first_key = utf8 "[{\"base64\":\"6Q==\"},4294967291,{\"base64\":\"AP8=\"},\"2024\"]"

abbrev pub second_key : List ℕ
second_key = utf8 "[\"a\",7,\"b\",\"2025\"]"

-- the places under a key of the table
abbrev pub under : List ℕ → Places → List Token
under key places = places (codes "s") (codes "t") key

-- ---- definitions

-- the test that is always true, and no other, lets all changes pass
abbrev pub AllPass : Type 0
AllPass = PassesAll every × ((passes : RowChange → Bool) → PassesAll passes → passes year_change ≡ true)

-- Whatever holds the file's histories has these places, under each name alone, and no others. What has no places doesn't hold them.
abbrev pub HoldsPlaces : Type 0
HoldsPlaces =
    ((places : Places) → HoldsHistories files places
    → (under first_key places ≡ place 126 1 ∷ []) × (under second_key places ≡ place 126 2 ∷ []) × (under (utf8 "[1]") places ≡ [])
    × (places (codes "s") (codes "u") first_key ≡ []) × (places (codes "u") (codes "t") first_key ≡ []))
    × (HoldsHistories files no_places → ⊥)

-- a token that lends changes fits, and they stand there
abbrev pub LendsOne : Type 0
LendsOne = (one : Token) (list : List RowChange) → LendChanges files (one ∷ []) list → (judge_change files one ≡ Fits) × (change_at files one ∷ [] ≡ map Some list)

-- ---- laws

-- of whatever lets all changes pass
abbrev pub HeldPlaces : Type 0
HeldPlaces = HistoriesAreHeld
    → (passes : RowChange → Bool) → PassesAll passes → under first_key (filled no_places (feed files passes)) ≡ place 126 1 ∷ []

-- the first of the file's two changes is lent at its place
abbrev pub LentChange : Type 0
LentChange = PlacesLendTheirChanges
    → (first second : RowChange) → feed files every ≡ first ∷ second ∷ [] → LendChanges files (place 126 1 ∷ []) (first ∷ [])

-- Filled further behind the token of any change of the file, an index has the places of the file that has grown.
abbrev pub GrownIndex : Type 0
GrownIndex = IndexesGoOn
    → (before after : List RowChange) (member : RowChange) → feed files every ≡ before ++ member ∷ after
    → under first_key (filled (filled no_places (before ++ member ∷ [])) (rest grown every (token_of member))) ≡ place 126 1 ∷ place 377 1 ∷ []

-- so it does where a file is gone, of the changes whose file is still there
abbrev pub KeptIndex : Type 0
KeptIndex = KeptIndexesGoOn
    → (before after : List RowChange) (member : RowChange) → feed two_files every ≡ before ++ member ∷ after → has_file grown member.file ≡ true
    → under second_key (filled (filled no_places (in_files grown (before ++ member ∷ []))) (rest grown every (token_of member)))
    ≡ place 126 2 ∷ place 377 2 ∷ []
