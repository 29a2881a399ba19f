-- When transactions were committed, by the bodies of GTID events, and what the changes of small files say of it.
use Rattle.std.specs.Prelude.{◌≡◌, ℕ, List, [], ◌∷◌, ◌++◌, map, Option, Some, None, codes}
use Rattle.binlog_units.specs.Bodies.{commit_time_of}
use Rattle.binlog_feed.specs.Changes.{RowChange}
use Rattle.binlog_feed.specs.Feeds.{changes}
use Rattle.binlog_samples.specs.Changes.{first_map, image, inserted, one_row}
use Rattle.binlog_samples.specs.Files.{alone, event_of, front, query_event, source, xid_event}
use Rattle.binlog_samples.specs.Hex.{hex}

-- flags, a source and the number 46, or those of an anonymous one; a typecode and the logical clock; and what stands behind these
abbrev pub of_gtid : List ℕ → List ℕ
of_gtid more = hex "00 3e 11 fa 47 71 ca 11 e1 9e 33 c8 0a a9 42 95 62 2e 00 00 00 00 00 00 00" ++ more

abbrev pub of_none : List ℕ → List ℕ
of_none more = hex "01 00 00 00 00 00 00 00 00 00 00 00 00 00 00 00 00 00 00 00 00 00 00 00 00" ++ more

abbrev pub clock : ℕ → List ℕ → List ℕ
clock code more = code ∷ hex "00 00 00 00 00 00 00 00 01 00 00 00 00 00 00 00" ++ more

-- two bodies that servers wrote, and the times that mysqlbinlog prints of them
abbrev pub named_body : List ℕ
named_body = of_gtid (clock 2 (hex "29 42 4e 8a d7 60 06 fc 15 02"))

abbrev pub anonymous_body : List ℕ
anonymous_body = of_none (clock 2 (hex "f4 97 a3 89 d7 60 06 a8"))

abbrev pub CommitTimes : Type 0
CommitTimes = (commit_time_of named_body ≡ Some 1795328714883625) × (commit_time_of anonymous_body ≡ Some 1795328703698932)

-- the highest bit says that another time follows; the body may end behind the time
abbrev pub OtherTimes : Type 0
OtherTimes =
    (commit_time_of (of_gtid (clock 2 (hex "29 42 4e 8a d7 60 86 f4 97 a3 89 d7 60 06 fc 15 02"))) ≡ Some 1795328714883625)
    × (commit_time_of (of_gtid (clock 2 (hex "29 42 4e 8a d7 60 06"))) ≡ Some 1795328714883625)
    × (commit_time_of (of_gtid (clock 2 (hex "01 00 00 00 00 00 80"))) ≡ Some 1)

-- none without the logical clock, with another typecode, with a byte less, and where the time is 0
abbrev pub NoTimes : Type 0
NoTimes =
    (commit_time_of (of_gtid []) ≡ None) × (commit_time_of (of_gtid (clock 0 (hex "29 42 4e 8a d7 60 06"))) ≡ None)
    × (commit_time_of (of_gtid (clock 1 (hex "29 42 4e 8a d7 60 06"))) ≡ None) × (commit_time_of (of_gtid (clock 2 (hex "29 42 4e 8a d7 60"))) ≡ None)
    × (commit_time_of (of_gtid (clock 2 (hex "00 00 00 00 00 00 00"))) ≡ None)
    × (commit_time_of (of_gtid (clock 2 (hex "00 00 00 00 00 00 80 f4 97 a3 89 d7 60 06"))) ≡ None)

-- a row that a transaction inserts, behind its GTID event
abbrev pub committed_row : List ℕ → List ℕ
committed_row event = front ++ event ++ query_event (codes "BEGIN") ++ first_map ++ inserted 100 (image 1 (codes "a")) ++ xid_event

abbrev pub said : RowChange → Option (List ℕ × ℕ) × Option ℕ
said change = (change.gtid, change.committed)

abbrev pub Say : List ℕ → Option (List ℕ × ℕ) → Option ℕ → Type 0
Say file gtid committed = map said (changes (alone file)) ≡ (gtid, committed) ∷ []

abbrev pub CommittedChanges : Type 0
CommittedChanges =
    Say (committed_row (event_of 33 0 named_body)) (Some (source, 46)) (Some 1795328714883625)
    × Say (committed_row (event_of 34 0 anonymous_body)) None (Some 1795328703698932)
    × Say (committed_row []) None None × Say one_row (Some (source, 1)) None
