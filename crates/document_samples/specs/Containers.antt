-- Arrays and objects: count, size, entries, keys, values.
use Rattle.document_samples.specs.Bytes.{Says, IsNone}

-- A small one with a value of each kind; a large one, in which 32 bits stand in their entry. The same number is a value in one and a place in
-- the other. Empty ones.
abbrev pub Arrays : Type 0
Arrays =
    Says "02 06 00 20 00 05 01 00 0c 16 00 02 18 00 04 00 00 07 1c 00 05 fb ff 01 78 00 00 04 00 70 11 01 00" "[1,\"x\",[],null,70000,-5]"
    × Says "03 03 00 00 00 1f 00 00 00 07 70 11 01 00 07 90 ee fe ff 09 17 00 00 00 00 f2 05 2a 01 00 00 00" "[70000,-70000,5000000000]"
    × Says "02 01 00 0b 00 08 07 00 09 00 00 00" "[9]" × Says "03 01 00 00 00 0d 00 00 00 08 07 00 00 00" "[7]"
    × Says "02 00 00 04 00" "[]" × Says "03 00 00 00 00 08 00 00 00" "[]" × Says "02 01 00 07 00 04 01 00" "[true]" × Says "03 01 00 00 00 0d 00 00 00 04 02 00 00 00" "[false]"

-- Members stand as they are stored: a server stores shorter keys first. Equal keys are kept.
abbrev pub Objects : Type 0
Objects =
    Says "00 01 00 0c 00 0b 00 01 00 05 01 00 61" "{\"a\":1}" × Says "01 01 00 00 00 14 00 00 00 13 00 00 00 01 00 05 01 00 00 00 61" "{\"a\":1}"
    × Says "00 03 00 42 00 19 00 01 00 1a 00 01 00 1b 00 02 00 00 1d 00 02 21 00 0c 3f 00 61 62 61 61 00 00 04 00 02 00 1e 00 04 01 00 00 0a 00 01 00 14 00 0b 00 01 00 0b 0c 00 63 00 00 00 00 00 00 04 40 02 c3 a9" "{\"a\":{},\"b\":[true,{\"c\":2.5}],\"aa\":\"é\"}"
    × Says "00 00 00 04 00" "{}" × Says "01 00 00 00 00 08 00 00 00" "{}"
    × Says "00 02 00 14 00 12 00 01 00 13 00 01 00 05 01 00 05 02 00 62 61" "{\"b\":1,\"a\":2}" × Says "00 02 00 14 00 12 00 01 00 13 00 01 00 05 01 00 05 02 00 61 61" "{\"a\":1,\"a\":2}"

-- Bytes that belong to no value may stand between values, behind the last one and behind the whole.
abbrev pub Gaps : Type 0
Gaps =
    Says "00 01 00 1a 00 0b 00 01 00 02 0c 00 61 02 00 0e 00 05 01 00 0c 0b 00 ff 02 c3 a9" "{\"a\":[1,\"é\"]}"
    × Says "02 02 00 0f 00 0c 0a 00 0c 0d 00 02 61 62 01 63" "[\"ab\",\"c\"]" × Says "02 02 00 13 00 0c 0b 00 0c 10 00 ff 02 61 62 ff ff 01 63 ff" "[\"ab\",\"c\"]"
    × Says "02 02 00 0f 00 0c 0a 00 0c 0d 00 01 61 ff 01 63 ff ff" "[\"a\",\"c\"]" × Says "00 01 00 0f 00 0d 00 01 00 05 01 00 ff ff 61 ff ff" "{\"a\":1}"

-- A size beyond the bytes, one that has no room for the entries, and entries that say more than there is.
abbrev pub NoContainers : Type 0
NoContainers =
    IsNone "02 01 00 08 00 04 01 00" × IsNone "02 01 00 06 00 04 01 00" × IsNone "02 02 00 07 00 04 01 00" × IsNone "02 00 00 03 00" × IsNone "02 00 00 04"
    × IsNone "03 00 00 00 00 04 00 00 00" × IsNone "02 01 00 09 00 0c 07 00 02 61" × IsNone "02 01 00 09 00 0c 0a 00 01 61" × IsNone "02 01 00 09 00 0c 07 00 02 61 62"
    × IsNone "02 01 00 09 00 0d 07 00 01 61" × IsNone "00 01 00 0b 00 0b 00 01 00 05 01 00 61"

-- values in their entries, before one another, and one for two entries
abbrev pub Overlaps : Type 0
Overlaps =
    IsNone "02 01 00 09 00 0c 06 00 01 61" × IsNone "02 02 00 0f 00 0c 0d 00 0c 0a 00 02 61 62 01 63" × IsNone "02 02 00 0f 00 0c 0a 00 0c 0a 00 02 61 62 01 63"
    × IsNone "02 02 00 0f 00 0c 0a 00 0c 0c 00 02 61 00 01 63"
    × Says "00 02 00 18 00 12 00 01 00 13 00 01 00 0c 14 00 0c 16 00 61 62 01 78 01 79" "{\"a\":\"x\",\"b\":\"y\"}"
    × IsNone "00 02 00 18 00 12 00 01 00 13 00 01 00 0c 13 00 0c 16 00 61 01 78 78 01 79"

-- One value for two members, the end of one for the next, the first behind the second, and a first one that ends behind the object.
abbrev pub OverlappingMembers : Type 0
OverlappingMembers =
    IsNone "00 02 00 16 00 12 00 01 00 13 00 01 00 0c 14 00 0c 14 00 61 62 01 78" × IsNone "00 02 00 17 00 12 00 01 00 13 00 01 00 0c 14 00 0c 15 00 61 62 02 01 78"
    × IsNone "00 02 00 18 00 12 00 01 00 13 00 01 00 0c 16 00 0c 14 00 61 62 01 78 01 79" × IsNone "00 02 00 18 00 12 00 01 00 13 00 01 00 0c 14 00 0c 16 00 61 62 04 78 01 79"
    × Says "00 02 00 17 00 12 00 01 00 13 00 01 00 0c 14 00 05 ff ff 61 62 02 01 78" "{\"a\":\"\\u0001x\",\"b\":-1}"

-- keys in the entries, before one another, beyond the size, in two entries, and one that isn't UTF-8
abbrev pub NoKeys : Type 0
NoKeys =
    IsNone "00 01 00 0c 00 0a 00 01 00 05 01 00 61" × IsNone "00 02 00 14 00 13 00 01 00 12 00 01 00 05 01 00 05 02 00 62 61" × IsNone "00 02 00 14 00 12 00 01 00 12 00 01 00 05 01 00 05 02 00 62 61"
    × IsNone "00 01 00 0c 00 0b 00 02 00 05 01 00 61 62" × IsNone "00 01 00 0c 00 0b 00 01 00 05 01 00 ff"
