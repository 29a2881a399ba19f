-- The history of a key over a small file, in both styles.
use Prim.Native.String.{String}
use Rattle.std.specs.Prelude.{◌≡◌, ℕ, ◌+◌, ◌/◌, ◌%◌, List, [], ◌∷◌, ◌++◌, length, map, replicate, codes}
use Rattle.binlog_frame.specs.Cutting.{magic}
use Rattle.binlog_units.specs.Parsing.{LogFile}
use Rattle.binlog_feed.specs.Changes.{RowChange}
use Rattle.binlog_json.specs.declared.style.Style.{Style}
use Rattle.binlog_json.specs.declared.style.Style.TheVariants.{Plain, Full}
use Rattle.binlog_json.specs.Keys.{history}
use Rattle.json_samples.specs.Bytes.{hex, utf8}
use Rattle.json_samples.specs.Lines.{source, keyed_body}
use Rattle.binlog_profile.specs.declared.profile.Profile.TheVariants.{Strict}

-- ---- a file

-- a number below 65,536, in four bytes
abbrev pub four_bytes : ℕ → List ℕ
four_bytes n = n % 256 ∷ n / 256 ∷ 0 ∷ 0 ∷ []

abbrev pub zeros : ℕ → List ℕ
zeros n = replicate n 0

-- an event that some server 1 wrote
abbrev pub event_of : ℕ → List ℕ → List ℕ
event_of kind body = hex "00 f1 53 65" ++ kind ∷ four_bytes 1 ++ four_bytes (19 + length body) ++ zeros 6 ++ body

-- the magic, and a format description with 41 fixed lengths and no checksums
abbrev pub front : List ℕ
front =
    magic
    ++ event_of 15 (4 ∷ 0 ∷ codes "8.0.36" ++ zeros 48 ++ 19 ∷ zeros 18 ++ 8 ∷ zeros 10 ++ 10 ∷ 10 ∷ 10 ∷ zeros 14)

abbrev pub gtid_event : List ℕ
gtid_event = event_of 33 (1 ∷ source ++ 5 ∷ zeros 24)

abbrev pub begin_event : List ℕ
begin_event = event_of 2 (8 ∷ zeros 7 ++ 1 ∷ zeros 4 ++ codes "s" ++ 0 ∷ codes "BEGIN")

abbrev pub xid_event : List ℕ
xid_event = event_of 16 (7 ∷ zeros 7)

-- two rows: 2024, -5, é, 00 ff and 200; 2025, 7, a, b and 5
abbrev pub rows_event : List ℕ
rows_event =
    event_of 30 (hex "64 00 00 00 00 00 01 00 02 00 05 ff e0 7c fb ff ff ff 01 e9 02 00 ff c8 e0 7d 07 00 00 00 01 61 01 62 05")

abbrev pub files : List LogFile
files =
    record { profile = Strict; name = codes "binlog.000001"; bytes = front ++ gtid_event ++ begin_event ++ event_of 19 keyed_body ++ rows_event ++ xid_event } ∷ []

-- ---- histories

-- the changes with these numbers have the key
abbrev pub Found : Style → String → List ℕ → Type 0
Found style key numbers = map (λ (c : RowChange). c.number) (history style files (codes "s") (codes "t") (utf8 key)) ≡ numbers

-- one of two changes has the key, by its full values and by its plain ones
abbrev pub FullKey : Type 0
FullKey = Found Full "[\"é\",-5,{\"base64\":\"AP8AAA==\"},\"2024\"]" (1 ∷ [])

abbrev pub PlainKey : Type 0
PlainKey = Found Plain "[{\"base64\":\"6Q==\"},4294967291,{\"base64\":\"AP8=\"},\"2024\"]" (1 ∷ [])

-- a plain key isn't a full one
abbrev pub OtherStyle : Type 0
OtherStyle = Found Full "[{\"base64\":\"6Q==\"},4294967291,{\"base64\":\"AP8=\"},\"2024\"]" []
