-- What a GTID set's text names (MySQL's manual, "GTID Sets"): elements parted by commas, each a server's UUID and
-- intervals parted by colons, each interval one number or two parted by a hyphen. By the server's profile tags stand
-- among the intervals.
use Rattle.std.specs.Prelude.{◌≡◌, ℕ, ◌<◌, ◌^◌, Bool, List, [], ◌∷◌, ◌++◌, Option, Some, None, if◌then◌else◌, ◌==◌, ◌&&◌, ◌||◌, nat_lt, nat_le, length, take, reverse, option_and_then, option_map, IsSome}
use Rattle.std.specs.List.{HoldsAt}
use Rattle.uuid.specs.Text.{parsed_hyphenated}
use Rattle.binlog_profile.specs.declared.profile.Profile.{Profile}
use Rattle.binlog_profile.specs.declared.profile.Profile.TheVariants.{Server, Strict}
use Rattle.binlog_select.specs.declared.interval.Interval.{Interval}
use Rattle.binlog_select.specs.Decimal.{number_of}
use Rattle.binlog_select.specs.Gtid.{source_number}
use Rattle.binlog_select.specs.Intervals.{SameNumbers}
use Rattle.binlog_select.specs.Parts.{parts}
use Rattle.binlog_select.specs.Tags.{named, names_tag}
use Rattle.binlog_select.specs.declared.source.Source.{Source}

abbrev pub comma : ℕ
comma = 44

abbrev pub colon : ℕ
colon = 58

abbrev pub hyphen : ℕ
hyphen = 45

-- space, tab, CR and LF
abbrev pub is_blank : ℕ → Bool
is_blank b = (b == 32) || (b == 9) || (b == 13) || (b == 10)

-- a text without the blanks that it begins with
abbrev pub without_leading_blanks : List ℕ → List ℕ
without_leading_blanks [] = []
without_leading_blanks (b ∷ bs) = if is_blank b then without_leading_blanks bs else b ∷ bs

-- a text without the blanks at either end
abbrev pub trimmed : List ℕ → List ℕ
trimmed text = reverse (without_leading_blanks (reverse (without_leading_blanks text)))

infixl 10 ◌>>=◌
abbrev pub ◌>>=◌ : {A B : Type 0} → Option A → (A → Option B) → Option B
o >>= f = option_and_then f o

-- a UUID in the hyphenated form of 36 characters, digits of either case
abbrev pub source_of : List ℕ → Option ℕ
source_of text = option_map source_number (parsed_hyphenated text)

-- the number of a GTID, from 1 to 2^63 - 1
abbrev pub gtid_number : List ℕ → Option ℕ
gtid_number digits = do
  n ← number_of digits
  if nat_lt 0 n && nat_lt n (2 ^ 63) then Some n else None

-- `n` or `n-m`, n at most m
abbrev pub interval_of : Source → List (List ℕ) → Option Interval
interval_of source [] = None
interval_of source (n ∷ []) = do
  number ← gtid_number n
  Some (record { source = source; first = number; last = number })
interval_of source (n ∷ m ∷ []) = do
  first ← gtid_number n
  last ← gtid_number m
  if nat_le first last then Some (record { source = source; first = first; last = last }) else None
interval_of source (n ∷ m ∷ more ∷ rest) = None

-- the interval of a part, in front of others
abbrev pub put_before : Option Interval → Option (List Interval) → Option (List Interval)
put_before first others = do
  i ← first
  is ← others
  Some (i ∷ is)

abbrev pub interval_in : Source → List ℕ → Option Interval
interval_in source part = interval_of source (parts hyphen part)

-- the intervals of an element's parts: a tag names the interval behind it, and all that follow until the next tag
abbrev pub intervals_of : Profile → Source → List (List ℕ) → Option (List Interval)
intervals_of profile source [] = Some []
intervals_of profile source (part ∷ []) = put_before (interval_in source part) (Some [])
intervals_of profile source (part ∷ next ∷ more) =
    if names_tag profile part
    then put_before (interval_in (named source.server part) next) (intervals_of profile (named source.server part) more)
    else put_before (interval_in source part) (intervals_of profile source (next ∷ more))

-- the intervals of an element's parts: a server, and one interval or more
abbrev pub element_of : Profile → List (List ℕ) → Option (List Interval)
element_of profile [] = None
element_of profile (server ∷ []) = None
element_of profile (server ∷ part ∷ more) = do
  number ← source_of server
  intervals_of profile (named number []) (part ∷ more)

abbrev pub intervals_in : Profile → List ℕ → Option (List Interval)
intervals_in profile element = element_of profile (parts colon (trimmed element))

-- the elements of a set's text: none where it is all blanks
abbrev pub elements : List ℕ → List (List ℕ)
elements text = if length (trimmed text) == 0 then [] else parts comma text

-- all intervals of the elements, in their order
abbrev pub reading : Profile → List (List ℕ) → Option (List Interval)
reading profile [] = Some []
reading profile (element ∷ more) = do
  is ← intervals_in profile element
  rest ← reading profile more
  Some (is ++ rest)

-- the set has the GTIDs that are in an interval of the text, and no others
pub record IsSetTextBy (profile : Profile) (text : List ℕ) (set : List Interval) : Type 0 where
  pub named : List Interval
  pub reads : reading profile (elements text) ≡ Some named
  pub same : SameNumbers set named

-- the same by the strict profile
abbrev pub IsSetText : List ℕ → List Interval → Type 0
IsSetText = IsSetTextBy Strict

-- what the strict profile reads, the server's reads alike
abbrev pub ProfilesReadSets : Type 0
ProfilesReadSets = (text : List ℕ) (set : List Interval) → IsSetText text set → IsSetTextBy Server text set

-- a text that names two sets by a profile names one
abbrev pub NamesOneSet : List Interval → List Interval → Type 0
NamesOneSet a b = (profile : Profile) (text : List ℕ) → IsSetTextBy profile text a → IsSetTextBy profile text b → a ≡ b

-- the number, from 0, of the first element without a reading
pub record IsFirstBadBy (profile : Profile) (texts : List (List ℕ)) (at : ℕ) : Type 0 where
  pub within : at < length texts
  pub good : IsSome (reading profile (take at texts))
  pub bad : HoldsAt (λ element. intervals_in profile element ≡ None) texts at

-- the same by the strict profile
abbrev pub IsFirstBad : List (List ℕ) → ℕ → Type 0
IsFirstBad = IsFirstBadBy Strict
