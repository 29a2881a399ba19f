-- A statement that loaded a file, EXECUTE_LOAD_QUERY: its body, what it is to each profile, and what small files with one come to.
use Rattle.std.specs.Prelude.{◌≡◌, ℕ, List, [], ◌∷◌, ◌++◌, length, take, Option, Some, None, true, false, codes}
use Rattle.binlog_frame.specs.Bodies.{LoadReads}
use Rattle.binlog_frame.specs.Cutting.{Event}
use Rattle.binlog_frame.specs.Kinds.{class_by, server_kinds, takes_in, takes_server_kinds}
use Rattle.binlog_frame.specs.declared.kind.Class.TheVariants.{Transaction, End, Skipped, OutOfProfile}
use Rattle.binlog_profile.specs.declared.profile.Profile.{Profile}
use Rattle.binlog_profile.specs.declared.profile.Profile.TheVariants.{Strict, Server}
use Rattle.binlog_units.specs.Bodies.{text_of, load_text_of}
use Rattle.binlog_units.specs.Faults.{lacks_reading}
use Rattle.binlog_units.specs.Laws.{BodiesSay}
use Rattle.binlog_units.specs.Symbols.{Symbol, any_symbol, is_skipped, symbol}
use Rattle.binlog_units.specs.Symbols.Symbol.{Gtid, Begin, Query, Xid as XidSymbol, NoSymbol}
use Rattle.binlog_units.specs.declared.fault.LogFault.{LogFault}
use Rattle.binlog_units.specs.declared.unit.Unit.{Unit as UnitSummary}
use Rattle.binlog_units.specs.declared.unit.UnitEnding.TheVariants.{Xid, Statement}
use Rattle.binlog_units.specs.declared.what.What.TheVariants.{BadBody, EventAfterEnd, KindOutOfProfile}
use Rattle.feed_laws.specs.ProfileLaws.{AreAlike, IsAlike, read_by, strict_class, strict_lacks, strict_symbol}
use Rattle.binlog_select.specs.declared.kind.ChangeKind.TheVariants.{Insert}
use Rattle.binlog_samples.specs.Changes.{Has, cells, change_at, first_change, first_map, image, inserted}
use Rattle.binlog_samples.specs.Files.{Tells, alone, event_of, fault_at, first_log, front, gtid_event, query_event, transaction, unit_at, xid_event, zeros}
use Rattle.binlog_samples.specs.Hex.{hex}

-- ---- a body that a server wrote: 13 bytes as a QUERY has them, 13 of its own, 33 of status variables, the schema `d`, a zero byte, the text

abbrev pub loaded_text : List ℕ
loaded_text =
    codes "LOAD DATA INFILE '/var/tmp/corpus/load.txt' INTO TABLE `l` FIELDS TERMINATED BY '" ++ 0x5c ∷ codes "t' ENCLOSED BY '' ESCAPED BY '" ++ 0x5c ∷ 0x5c
    ∷ codes "' LINES TERMINATED BY '" ++ 0x5c ∷ codes "n' (`a`, `b`)"

abbrev pub status : List ℕ
status = hex "00 00 00 00 00 01 20 00 a0 45 00 00 00 00 06 03 73 74 64 04 ff 00 ff 00 ff 00 0c 01 64 00 12 ff 00"

abbrev pub loaded_body : List ℕ
loaded_body = hex "09 00 00 00 00 00 00 00 01 00 00 21 00" ++ hex "01 00 00 00 09 00 00 00 30 00 00 00 00" ++ status ++ hex "64 00" ++ loaded_text

-- it has this text; as a QUERY it would have another one
abbrev pub LoadTexts : Type 0
LoadTexts =
    (length loaded_body ≡ 212) × (load_text_of loaded_body ≡ Some loaded_text)
    × (text_of loaded_body ≡ Some (hex "ff 00 ff 00 0c 01 64 00 12 ff 00 64 00" ++ loaded_text))

-- the text may be empty; without the zero byte, or without all of the first 26 bytes, there is none
abbrev pub ShortLoads : Type 0
ShortLoads =
    (load_text_of (take 61 loaded_body) ≡ Some []) × (load_text_of (take 60 loaded_body) ≡ None) × (load_text_of (take 26 loaded_body) ≡ None)
    × (load_text_of (take 25 loaded_body) ≡ None) × (load_text_of [] ≡ None) × (load_text_of (zeros 27) ≡ Some []) × (load_text_of (zeros 26) ≡ None)

-- the law says that it is read so
abbrev pub LoadIsRead : Type 0
LoadIsRead = BodiesSay → (schema : List ℕ) × LoadReads loaded_body schema loaded_text

-- ---- kinds by each profile

-- EXECUTE_LOAD_QUERY alone is another thing to each; BEGIN_LOAD_QUERY, GTID, XA_PREPARE, and an unknown kind that may be ignored are one
abbrev pub ClassesBy : Type 0
ClassesBy =
    (class_by Strict 18 0 ≡ Skipped) × (class_by Server 18 0 ≡ Transaction) × (class_by Server 18 0x80 ≡ Transaction)
    × (class_by Server 17 0 ≡ Skipped) × (class_by Server 2 0 ≡ Transaction) × (class_by Server 4 0 ≡ End) × (class_by Server 33 0 ≡ Transaction)
    × (class_by Server 38 0 ≡ OutOfProfile) × (class_by Server 42 0x80 ≡ Skipped) × (class_by Strict 2 0 ≡ Transaction) × (class_by Strict 40 0 ≡ OutOfProfile)

abbrev pub TakenIn : Type 0
TakenIn =
    (server_kinds ≡ 18 ∷ []) × (takes_server_kinds Strict ≡ false) × (takes_server_kinds Server ≡ true) × (takes_in Strict 18 ≡ false) × (takes_in Server 18 ≡ true) × (takes_in Strict 17 ≡ true)
    × (takes_in Strict 2 ≡ true) × (takes_in Server 2 ≡ true)

abbrev pub made_of : ℕ → List ℕ → Event
made_of kind body = record { place = 153; header = record { timestamp = 0; server_id = 1; kind = kind; flags = 0; length = 231; next_position = 0 }; body = body }

abbrev pub begin_body : List ℕ
begin_body = 8 ∷ zeros 7 ++ 1 ∷ zeros 4 ++ codes "s" ++ 0 ∷ codes "BEGIN"

-- what an event is to the grammar
abbrev pub SymbolsBy : Type 0
SymbolsBy =
    (symbol Strict (made_of 18 loaded_body) ≡ NoSymbol) × (symbol Server (made_of 18 loaded_body) ≡ Query) × (any_symbol (made_of 18 loaded_body) ≡ Query)
    × (any_symbol (made_of 2 loaded_body) ≡ Query) × (symbol Strict (made_of 2 begin_body) ≡ Begin) × (symbol Server (made_of 2 begin_body) ≡ Begin)
    × (symbol Strict (made_of 16 (zeros 8)) ≡ XidSymbol) × (symbol Server (made_of 33 (zeros 25)) ≡ Gtid) × (symbol Server (made_of 17 []) ≡ NoSymbol)

-- the strict profile, in its own words
abbrev pub StrictWords : Type 0
StrictWords =
    (strict_symbol (made_of 18 loaded_body) ≡ NoSymbol) × (strict_symbol (made_of 2 begin_body) ≡ Begin) × (strict_class (made_of 18 []) ≡ Skipped)
    × (strict_class (made_of 2 []) ≡ Transaction) × (strict_lacks (made_of 18 []) ≡ false) × (strict_lacks (made_of 2 []) ≡ true)
    × (strict_lacks (made_of 2 begin_body) ≡ false)

-- a body is nothing to the strict profile
abbrev pub LacksBy : Type 0
LacksBy =
    (lacks_reading Strict (made_of 18 (take 60 loaded_body)) ≡ false) × (lacks_reading Server (made_of 18 (take 60 loaded_body)) ≡ true)
    × (lacks_reading Server (made_of 18 loaded_body) ≡ false) × (lacks_reading Server (made_of 17 []) ≡ false)
    × (lacks_reading Strict (made_of 2 []) ≡ true) × (lacks_reading Server (made_of 2 []) ≡ true)

-- ---- small files by each profile

-- 51 bytes, and 34 without a reading
abbrev pub load_event : List ℕ
load_event = event_of 18 0 (8 ∷ zeros 7 ++ 1 ∷ zeros 4 ++ 1 ∷ zeros 3 ++ 9 ∷ zeros 3 ++ 48 ∷ zeros 4 ++ codes "s" ++ 0 ∷ codes "LOAD")

abbrev pub bad_load : List ℕ
bad_load = event_of 18 0 (zeros 15)

abbrev pub ByEach : List ℕ → List UnitSummary → Option LogFault → List UnitSummary → Option LogFault → Type 0
ByEach bytes strict strict_end server server_end = Tells (read_by Strict (alone bytes)) strict strict_end × Tells (read_by Server (alone bytes)) server server_end

abbrev pub statement_at : ℕ → ℕ → Option (List ℕ × ℕ) → UnitSummary
statement_at position end gtid = record { file = 0; position = position; end = end; gtid = gtid; ending = Statement }

-- behind nothing, and behind a GTID, it is a statement
abbrev pub LoadAlone : Type 0
LoadAlone = ByEach (front ++ load_event) [] None (statement_at 153 204 None ∷ []) None

abbrev pub LoadNamed : Type 0
LoadNamed = ByEach (front ++ gtid_event 1 ++ load_event) [] None (unit_at 0 153 265 1 Statement ∷ []) None

-- in a transaction it changes nothing
abbrev pub LoadWithin : Type 0
LoadWithin = ByEach (front ++ transaction 1 load_event ++ xid_event) (unit_at 0 153 422 1 Xid ∷ []) None (unit_at 0 153 422 1 Xid ∷ []) None

-- a body without a reading, and one behind the end of the file
abbrev pub BadLoads : Type 0
BadLoads =
    ByEach (front ++ bad_load ++ transaction 1 xid_event) (unit_at 0 187 405 1 Xid ∷ []) None [] (fault_at 0 153 BadBody)
    × ByEach (front ++ event_of 3 0 [] ++ load_event) [] (fault_at 0 172 EventAfterEnd) [] (fault_at 0 172 EventAfterEnd)
    × ByEach (front ++ event_of 38 0 []) [] (fault_at 0 153 (KindOutOfProfile 38)) [] (fault_at 0 153 (KindOutOfProfile 38))

-- ---- why the law of both profiles asks for files in which both pass over the same events

-- the GTID goes to the statement that loaded a file, where that is none to the strict profile
abbrev pub load_takes_gtid : List ℕ
load_takes_gtid = front ++ gtid_event 1 ++ load_event ++ query_event (codes "BEGIN") ++ first_map ++ inserted 100 (image 1 (codes "a")) ++ xid_event

abbrev pub PartedByLoads : Type 0
PartedByLoads =
    Has (read_by Strict (alone load_takes_gtid)) (first_change ∷ []) None
    × Has (read_by Server (alone load_takes_gtid)) (record (change_at 1 265 1 Insert None (Some (cells 1 (codes "a")))) { gtid = None } ∷ []) None
    × (AreAlike (alone load_takes_gtid) → ⊥)

-- what the premise says of an event
abbrev pub Alike : Type 0
Alike =
    (IsAlike (made_of 18 loaded_body) → ⊥) × IsAlike (made_of 17 []) × IsAlike (made_of 2 begin_body) × (is_skipped Strict (made_of 18 []) ≡ true)
    × (is_skipped Server (made_of 18 []) ≡ false) × (is_skipped Server (made_of 17 []) ≡ true)
