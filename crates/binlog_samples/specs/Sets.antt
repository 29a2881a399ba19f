-- Texts of GTID sets, what they name by each profile, and how sets are written.
use Prim.Native.String.{String}
use Rattle.std.specs.Prelude.{◌≡◌, ℕ, ◌-◌, ◌*◌, ◌^◌, List, [], ◌∷◌, ◌++◌, Some, None, true, false, codes}
use Rattle.binlog_profile.specs.declared.profile.Profile.{Profile}
use Rattle.binlog_profile.specs.declared.profile.Profile.TheVariants.{Strict, Server}
use Rattle.binlog_select.specs.Filter.{has_gtid, has_tagged_gtid}
use Rattle.binlog_select.specs.SetForm.{written}
use Rattle.binlog_select.specs.SetText.{elements, reading}
use Rattle.binlog_select.specs.Tags.{is_tag}
use Rattle.binlog_select.specs.declared.interval.Interval.{Interval}
use Rattle.binlog_select.specs.declared.source.Source.{Source}
use Rattle.binlog_samples.specs.Hex.{hex}

-- the server 3e11fa47-71ca-11e1-9e33-c80aa9429562, and its sources without a tag and with the tags b, tag_one and one of 32 bytes
abbrev pub one_server : List ℕ
one_server = hex "3e 11 fa 47 71 ca 11 e1 9e 33 c8 0a a9 42 95 62"

abbrev pub of_tag : ℕ → ℕ → Source
of_tag high low = record { server = 0x3e11fa4771ca11e19e33c80aa9429562; high = high; low = low }

abbrev pub plain : Source
plain = of_tag 0 0

abbrev pub b : Source
b = of_tag (0x62 * 2 ^ 120) 0

abbrev pub tag_one : Source
tag_one = of_tag (0x7461675f6f6e65 * 2 ^ 72) 0

-- t234567890123456789012345678901_
abbrev pub long_tag : Source
long_tag = of_tag 0x74323334353637383930313233343536 0x3738393031323334353637383930315f

abbrev pub numbers : Source → ℕ → ℕ → Interval
numbers of first last = record { source = of; first = first; last = last }

-- an element of the server's set
abbrev pub of_server : String → List ℕ
of_server text = codes "3e11fa47-71ca-11e1-9e33-c80aa9429562:" ++ codes text

abbrev pub Names : Profile → List ℕ → List Interval → Type 0
Names profile text set = reading profile (elements text) ≡ Some set

abbrev pub NamesNothing : Profile → List ℕ → Type 0
NamesNothing profile text = reading profile (elements text) ≡ None

-- by the server's profile alone, and by neither
abbrev pub NamesByServer : String → List Interval → Type 0
NamesByServer text set = Names Server (of_server text) set × NamesNothing Strict (of_server text)

abbrev pub NeitherNames : String → Type 0
NeitherNames text = NamesNothing Server (of_server text) × NamesNothing Strict (of_server text)

-- without a tag both profiles read alike
abbrev pub PlainSets : Type 0
PlainSets =
    Names Strict (of_server "1-3:5") (numbers plain 1 3 ∷ numbers plain 5 5 ∷ []) × Names Server (of_server "1-3:5") (numbers plain 1 3 ∷ numbers plain 5 5 ∷ [])
    × Names Strict [] [] × Names Server [] []

-- a tag names what follows, until the next one
abbrev pub TaggedSets : Type 0
TaggedSets =
    NamesByServer "b:1" (numbers b 1 1 ∷ []) × NamesByServer "1-3:tag_one:1:b:1-2:5" (numbers plain 1 3 ∷ numbers tag_one 1 1 ∷ numbers b 1 2 ∷ numbers b 5 5 ∷ [])
    × NamesByServer "t234567890123456789012345678901_:7" (numbers long_tag 7 7 ∷ [])

-- capitals, a tag named twice, and the next element has no tag
abbrev pub LooseSets : Type 0
LooseSets =
    NamesByServer "B:1:TAG_One:2" (numbers b 1 1 ∷ numbers tag_one 2 2 ∷ [])
    × NamesByServer "b:1:tag_one:2:b:3" (numbers b 1 1 ∷ numbers tag_one 2 2 ∷ numbers b 3 3 ∷ [])
    × Names Server (of_server "b:1," ++ of_server "2") (numbers b 1 1 ∷ numbers plain 2 2 ∷ [])

-- a tag without an interval behind it, one of 33 bytes, and bytes that no tag has
abbrev pub BadSets : Type 0
BadSets =
    NeitherNames "b" × NeitherNames "1:b" × NeitherNames "b:tag_one:1" × NeitherNames "t234567890123456789012345678901_3:7"
    × NeitherNames "1b:1" × NeitherNames "b-:1" × NeitherNames "b :1" × NeitherNames ":1" × NeitherNames "b:0" × NeitherNames "{:1"

abbrev pub Tags : Type 0
Tags =
    (is_tag (codes "_") ≡ true) × (is_tag (codes "a0z9_") ≡ true) × (is_tag (codes "AZ") ≡ true) × (is_tag [] ≡ false) × (is_tag (codes "0a") ≡ false)
    × (is_tag (codes "a`") ≡ false) × (is_tag (codes "a@") ≡ false) × (is_tag (codes "a[") ≡ false) × (is_tag (codes "a/") ≡ false) × (is_tag (codes "a:") ≡ false)

-- sources without a tag come first, and tags in the order of their bytes
abbrev pub WrittenSets : Type 0
WrittenSets =
    (written (numbers plain 1 3 ∷ numbers b 1 1 ∷ numbers b 3 4 ∷ numbers tag_one 1 1 ∷ []) ≡ of_server "1-3:b:1:3-4:tag_one:1")
    × (written (numbers tag_one 2 2 ∷ numbers (record { server = 2 ^ 128 - 1; high = 0; low = 0 }) 1 1 ∷ [])
    ≡ of_server "tag_one:2," ++ codes "ffffffff-ffff-ffff-ffff-ffffffffffff:1")
    × (written (numbers long_tag 7 7 ∷ []) ≡ of_server "t234567890123456789012345678901_:7")

-- a GTID is in the set by its tag, and one without a tag by the intervals that have none
abbrev pub Members : Type 0
Members =
    (has_gtid (numbers plain 1 3 ∷ numbers b 5 6 ∷ []) one_server 3 ≡ true) × (has_gtid (numbers plain 1 3 ∷ numbers b 5 6 ∷ []) one_server 5 ≡ false)
    × (has_tagged_gtid (numbers plain 1 3 ∷ numbers b 5 6 ∷ []) one_server (codes "b") 5 ≡ true)
    × (has_tagged_gtid (numbers plain 1 3 ∷ numbers b 5 6 ∷ []) one_server (codes "B") 6 ≡ true)
    × (has_tagged_gtid (numbers plain 1 3 ∷ numbers b 5 6 ∷ []) one_server (codes "b") 3 ≡ false)
    × (has_tagged_gtid (numbers plain 1 3 ∷ numbers b 5 6 ∷ []) one_server (codes "bb") 5 ≡ false)
    × (has_tagged_gtid (numbers long_tag 7 7 ∷ []) one_server (codes "t234567890123456789012345678901_") 7 ≡ true)
    × (has_tagged_gtid (numbers long_tag 7 7 ∷ []) one_server (codes "t234567890123456789012345678901a") 7 ≡ false)
