-- Tags (MySQL's manual, "GTID Format and Storage"), and sources of transactions with and without one.
use Rattle.std.specs.Prelude.{◌≡◌, ◌⊎◌, ℕ, ◌+◌, ◌*◌, ◌<◌, ◌^◌, Bool, true, false, not, List, [], ◌∷◌, length, drop, nat_le, ◌==◌, ◌&&◌, ◌||◌}
use Rattle.std.specs.Char.{is_ascii_alphanumeric, is_ascii_digit}
use Rattle.std.specs.Int.{from_be_bytes, to_be_bytes, w128}
use Rattle.std.specs.List.{filter, list_all}
use Rattle.std.specs.Str.{str_to_ascii_lowercase}
use Rattle.binlog_profile.specs.declared.profile.Profile.{Profile}
use Rattle.binlog_profile.specs.declared.profile.Profile.TheVariants.{Server, Strict}
use Rattle.binlog_select.specs.declared.source.Source.{Source}

-- a letter, a digit or _
abbrev pub is_tag_byte : ℕ → Bool
is_tag_byte b = is_ascii_alphanumeric b || (b == 95)

-- 1 to 32 such bytes, no digit first; capitals stand for small letters
abbrev pub is_tag : List ℕ → Bool
is_tag [] = false
is_tag (b ∷ bs) = not (is_ascii_digit b) && (nat_le (length (b ∷ bs)) 32 && list_all is_tag_byte (b ∷ bs))

-- a part of a set's text is a tag; the strict profile has none
abbrev pub names_tag : Profile → List ℕ → Bool
names_tag Strict part = false
names_tag Server part = is_tag part

-- the first 16 bytes of a tag in small letters as a number, the first byte highest, with zeros for those that it lacks
unfoldable pub tag_number : List ℕ → ℕ
tag_number tag = from_be_bytes w128 (str_to_ascii_lowercase tag)

-- the source of a server's number and a tag, which is empty where there is none
abbrev pub named : ℕ → List ℕ → Source
named server tag = record { server = server; high = tag_number tag; low = tag_number (drop 16 tag) }

-- the bytes of a tag that such a number has
unfoldable pub tag_bytes : ℕ → List ℕ
tag_bytes number = filter is_tag_byte (to_be_bytes w128 number)

-- a source as one number, so that sources are in the order of their bytes: 16 of the server's UUID, 32 of the tag
unfoldable pub rank : Source → ℕ
rank source = (source.server * 2 ^ 128 + source.high) * 2 ^ 128 + source.low

abbrev pub IsTagOrNone : List ℕ → Type 0
IsTagOrNone tag = (tag ≡ []) ⊎ (is_tag tag ≡ true)

-- a rank has one server, and one tag but for capitals
abbrev pub RanksTellApart : Type 0
RanksTellApart =
    (server other : ℕ) (tag also : List ℕ) → server < 2 ^ 128 → other < 2 ^ 128 → IsTagOrNone tag → IsTagOrNone also
    → rank (named server tag) ≡ rank (named other also) → (server ≡ other) × (str_to_ascii_lowercase tag ≡ str_to_ascii_lowercase also)

-- a server and a tag or none, within the limits of their numbers
pub record IsSource (source : Source) : Type 0 where
  pub server : source.server < 2 ^ 128
  pub high : source.high < 2 ^ 128
  pub low : source.low < 2 ^ 128
  pub tag : List ℕ
  pub named : source ≡ named source.server tag
  pub valid : IsTagOrNone tag
