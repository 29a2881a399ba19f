-- The numbers of a tag, and its bytes from them.
use Rattle.std.proofs.Common.{◌≡◌, ◌≢◌, ℕ, zero, suc, ◌+◌, ◌<◌, ◌≤◌, ◌^◌, Bool, true, false, ◌&&◌, not, nat_le, cond, List, [], ◌∷◌, ◌++◌, length, get_or, take, drop, min, inl, inr, sym, ap, ◌∙◌, refl, subst, arith}
use Rattle.std.specs.Char.{is_ascii_digit, to_ascii_lowercase}
use Rattle.std.specs.Int.{from_be_bytes, to_be_bytes, byte_at, bytes_high_first, w128}
use Rattle.std.specs.List.{All, filter, list_all}
use Rattle.std.specs.Str.{str_to_ascii_lowercase}
use Rattle.std.proofs.lemmas.Bool.{cases_lt, false≢true}
use Rattle.std.proofs.lemmas.Bool.Decides.{nat_tests}
use Rattle.std.proofs.lemmas.List.{get_or_past, get_or-drop, length-drop, take-append-drop}
use Rattle.std.proofs.lemmas.List.Elements.{All-cons, All-nil}
use Rattle.std.proofs.lemmas.Str.Ascii.{lowercase-lowercase}
use Rattle.uuid.proofs.OrderLemmas.{from_be_bytes-to_be_bytes_16}
use Rattle.binlog_profile.specs.declared.profile.Profile.{Profile}
use Rattle.binlog_profile.specs.declared.profile.Profile.TheVariants.{Server, Strict}
use Rattle.binlog_select.specs.Tags.{IsSource, IsTagOrNone, RanksTellApart, is_tag, is_tag_byte, named, names_tag, tag_bytes, tag_number}
use Rattle.binlog_select.specs.declared.source.Source.{Source}
use Rattle.binlog_select.proofs.RankLemmas.{same_source}
use Rattle.binlog_select.proofs.SourceLemmas.{AreBytes, below, halves, front-bytes, back-bytes, same_bytes}

pub both_true : (a b : Bool) → (a && b) ≡ true → (a ≡ true) × (b ≡ true)
both_true true b is = (refl, is)
both_true false b is = absurd (false≢true is)

small_letter : (b : ℕ) → is_tag_byte b ≡ true → is_tag_byte (to_ascii_lowercase b) ≡ true
small_letter b is = grind (arith, nat_tests)

low_byte : (b : ℕ) → is_tag_byte b ≡ true → b < 128
low_byte b is = grind (arith, nat_tests)

-- a tag by its three tests
pub is_tag_by : (tag : List ℕ) → 0 < length tag
    → is_tag tag ≡ (not (is_ascii_digit (get_or tag 0 0)) && (nat_le (length tag) 32 && list_all is_tag_byte tag))
is_tag_by [] some = absurd (omega arith)
is_tag_by (b ∷ bs) some = refl

-- in small letters
all_small : (xs : List ℕ) → list_all is_tag_byte xs ≡ true → list_all is_tag_byte (str_to_ascii_lowercase xs) ≡ true
all_small [] all = refl
all_small (x ∷ xs) all = let both = both_true (is_tag_byte x) (list_all is_tag_byte xs) all in rw (small_letter x both.0, all_small xs both.1) refl

small_twice : (xs : List ℕ) → str_to_ascii_lowercase (str_to_ascii_lowercase xs) ≡ str_to_ascii_lowercase xs
small_twice [] = refl
small_twice (x ∷ xs) = rw (lowercase-lowercase x, small_twice xs) refl

small_length : (xs : List ℕ) → length (str_to_ascii_lowercase xs) ≡ length xs
small_length [] = refl
small_length (x ∷ xs) = omega (arith, small_length xs)

small_drop : (k : ℕ) (xs : List ℕ) → drop k (str_to_ascii_lowercase xs) ≡ str_to_ascii_lowercase (drop k xs)
small_drop zero xs = refl
small_drop (suc k) [] = refl
small_drop (suc k) (x ∷ xs) = small_drop k xs

all_drop : (k : ℕ) (xs : List ℕ) → list_all is_tag_byte xs ≡ true → list_all is_tag_byte (drop k xs) ≡ true
all_drop zero xs all = all
all_drop (suc k) [] all = refl
all_drop (suc k) (x ∷ xs) all = all_drop k xs (both_true (is_tag_byte x) (list_all is_tag_byte xs) all).1

nothing_at : (i : ℕ) → get_or {A = ℕ} [] i 0 ≡ 0
nothing_at i = get_or_past [] i 0 (omega arith)

all_low : (xs : List ℕ) → list_all is_tag_byte xs ≡ true → (i : ℕ) → get_or xs i 0 < 256
all_low [] all i = omega (arith, nothing_at i)
all_low (x ∷ xs) all zero = let low = low_byte x (both_true (is_tag_byte x) (list_all is_tag_byte xs) all).0 in omega arith
all_low (x ∷ xs) all (suc i) = all_low xs (both_true (is_tag_byte x) (list_all is_tag_byte xs) all).1 i

-- the first bytes, with zeros for those that lack
abbrev pub padded : ℕ → List ℕ → List ℕ
padded zero xs = []
padded (suc k) [] = 0 ∷ padded k []
padded (suc k) (x ∷ xs) = x ∷ padded k xs

padded-length : (k : ℕ) (xs : List ℕ) → length (padded k xs) ≡ k
padded-length zero xs = refl
padded-length (suc k) [] = omega (arith, padded-length k [])
padded-length (suc k) (x ∷ xs) = omega (arith, padded-length k xs)

padded-none : (k i : ℕ) → get_or (padded k []) i 0 ≡ 0
padded-none zero i = get_or_past [] i 0 (omega arith)
padded-none (suc k) zero = refl
padded-none (suc k) (suc i) = padded-none k i

padded-at : (k : ℕ) (xs : List ℕ) (i : ℕ) → i < k → get_or (padded k xs) i 0 ≡ get_or xs i 0
padded-at zero xs i within = absurd (omega arith)
padded-at (suc k) [] i within = padded-none (suc k) i ∙ sym (get_or_past [] i 0 (omega arith))
padded-at (suc k) (x ∷ xs) zero within = refl
padded-at (suc k) (x ∷ xs) (suc i) within = padded-at k xs i (omega arith)

padded-bytes : (xs : List ℕ) → ((i : ℕ) → get_or xs i 0 < 256) → AreBytes (padded 16 xs)
padded-bytes xs low i =
    elim (cases_lt i 16) as (λ _. get_or (padded 16 xs) i 0 < 256) [
      | inl within ↦ omega (arith, padded-at 16 xs i within, low i)
      | inr past ↦ omega (arith, get_or_past (padded 16 xs) i 0 (omega (arith, padded-length 16 xs)))
    ]

same_number : (xs ys : List ℕ) → ((i : ℕ) → i < 16 → get_or xs i 0 ≡ get_or ys i 0) → from_be_bytes w128 xs ≡ from_be_bytes w128 ys
same_number xs ys same =
    omega (
      arith,
      same 0 (omega arith),
      same 1 (omega arith),
      same 2 (omega arith),
      same 3 (omega arith),
      same 4 (omega arith),
      same 5 (omega arith),
      same 6 (omega arith),
      same 7 (omega arith),
      same 8 (omega arith),
      same 9 (omega arith),
      same 10 (omega arith),
      same 11 (omega arith),
      same 12 (omega arith),
      same 13 (omega arith),
      same 14 (omega arith),
      same 15 (omega arith),
    )

fits : (xs : List ℕ) → AreBytes xs → from_be_bytes w128 xs < 2 ^ 128
fits xs low =
    omega (arith, halves xs, below _ (front-bytes xs low), below _ (back-bytes xs low))

bytes-length : (k n : ℕ) → length (bytes_high_first k n) ≡ k
bytes-length zero n = refl
bytes-length (suc k) n = omega (arith, bytes-length k n)

byte-fits : (k n : ℕ) → byte_at k n < 256
byte-fits zero n = omega arith
byte-fits (suc k) n = omega arith

bytes-low : (k n i : ℕ) → get_or (bytes_high_first k n) i 0 < 256
bytes-low zero n i = omega (arith, nothing_at i)
bytes-low (suc k) n zero = byte-fits k n
bytes-low (suc k) n (suc i) = bytes-low k n i

-- what a buffer holds once a tag's first bytes were copied to its front, with zeros behind them
filled : (count : ℕ) (tag rest : List ℕ) (i : ℕ) → count ≤ length tag → (count ≤ i → length tag ≤ i) → ((j : ℕ) → get_or rest j 0 ≡ 0)
    → get_or (take count tag ++ rest) i 0 ≡ get_or tag i 0
filled zero tag rest i within past zeros = zeros i ∙ sym (get_or_past tag i 0 (past (omega arith)))
filled (suc count) [] rest i within past zeros = absurd (omega arith)
filled (suc count) (x ∷ xs) rest zero within past zeros = refl
filled (suc count) (x ∷ xs) rest (suc i) within past zeros = filled count xs rest i (omega arith) (λ low. omega (arith, past (omega arith))) zeros

small_at : (xs : List ℕ) (i : ℕ) → get_or (str_to_ascii_lowercase xs) i 0 ≡ to_ascii_lowercase (get_or xs i 0)
small_at [] i = get_or_past [] i 0 (omega arith) ∙ sym (ap to_ascii_lowercase (get_or_past [] i 0 (omega arith)))
small_at (x ∷ xs) zero = refl
small_at (x ∷ xs) (suc i) = small_at xs i

pub number_of_buffer : (tag front bytes : List ℕ) (count n : ℕ) → count ≡ min (length tag) 16 → front ≡ take count tag
    → bytes ≡ str_to_ascii_lowercase (front ++ drop count (padded 16 [])) → n ≡ from_be_bytes w128 bytes → n ≡ tag_number tag
unfolding tag_number
number_of_buffer tag front bytes count n least copied small is =
    is ∙ ap (from_be_bytes w128) (small ∙ ap (λ f. str_to_ascii_lowercase (f ++ drop count (padded 16 []))) copied)
    ∙ same_number (str_to_ascii_lowercase (take count tag ++ drop count (padded 16 []))) (str_to_ascii_lowercase tag) (λ i within.
    small_at (take count tag ++ drop count (padded 16 [])) i
    ∙ ap to_ascii_lowercase (filled count tag (drop count (padded 16 [])) i (omega (arith, least)) (λ past. omega (arith, least))
    (λ j. get_or-drop count (padded 16 []) j 0 ∙ padded-none 16 (count + j)))
    ∙ sym (small_at tag i))

-- the bytes of a number that was made of some
bytes_back : (xs : List ℕ) → ((i : ℕ) → get_or xs i 0 < 256) → to_be_bytes w128 (from_be_bytes w128 xs) ≡ padded 16 xs
bytes_back xs low =
    let bytes = padded-bytes xs low in
    let number : from_be_bytes w128 (padded 16 xs) ≡ from_be_bytes w128 xs = same_number (padded 16 xs) xs (padded-at 16 xs) in
    let small : from_be_bytes w128 xs < 2 ^ 128 = subst (λ n. n < 2 ^ 128) number (fits (padded 16 xs) bytes) in
    same_bytes (to_be_bytes w128 (from_be_bytes w128 xs)) (padded 16 xs) (bytes-length 16 (from_be_bytes w128 xs)) (padded-length 16 xs)
    (bytes-low 16 (from_be_bytes w128 xs)) bytes (from_be_bytes-to_be_bytes_16 (from_be_bytes w128 xs) small ∙ sym number)

kept : (k : ℕ) (xs : List ℕ) → list_all is_tag_byte xs ≡ true → filter is_tag_byte (padded k xs) ≡ take k xs
kept zero xs all = refl
kept (suc k) [] all = kept_none k
  where
    kept_none : (k : ℕ) → filter is_tag_byte (padded k []) ≡ []
    kept_none zero = refl
    kept_none (suc k) = kept_none k
kept (suc k) (x ∷ xs) all = let both = both_true (is_tag_byte x) (list_all is_tag_byte xs) all in rw (both.0, kept k xs both.1) refl

-- the bytes of a tag's number
one_number_back : (xs : List ℕ) → list_all is_tag_byte xs ≡ true → tag_bytes (tag_number xs) ≡ take 16 (str_to_ascii_lowercase xs)
unfolding tag_number tag_bytes
one_number_back xs all =
    ap (filter is_tag_byte) (bytes_back (str_to_ascii_lowercase xs) (all_low (str_to_ascii_lowercase xs) (all_small xs all)))
    ∙ kept 16 (str_to_ascii_lowercase xs) (all_small xs all)

pub take_all : (k : ℕ) (xs : List ℕ) → length xs ≤ k → take k xs ≡ xs
take_all zero [] short = refl
take_all zero (x ∷ xs) short = absurd (omega arith)
take_all (suc k) [] short = refl
take_all (suc k) (x ∷ xs) short = ap (λ ys. x ∷ ys) (take_all k xs (omega arith))

module _ (tag : List ℕ) (is : is_tag tag ≡ true) where
  tag-parts : (tag ≢ []) × (length tag ≤ 32) × (list_all is_tag_byte tag ≡ true)
  tag-parts = parts tag is
    where
      parts : (t : List ℕ) → is_tag t ≡ true → (t ≢ []) × (length t ≤ 32) × (list_all is_tag_byte t ≡ true)
      parts [] is = absurd (false≢true is)
      parts (b ∷ bs) is = (λ none. cc, grind (arith, nat_tests), grind (arith, nat_tests))

  -- a tag reads back in small letters
  pub tag_back : tag_bytes (tag_number tag) ++ tag_bytes (tag_number (drop 16 tag)) ≡ str_to_ascii_lowercase tag
  tag_back =
      let all = tag-parts.2 in
      let short = tag-parts.1 in
      let small = str_to_ascii_lowercase tag in
      ap (λ front. front ++ tag_bytes (tag_number (drop 16 tag))) (one_number_back tag all)
      ∙ ap (λ back. take 16 small ++ back) (one_number_back (drop 16 tag) (all_drop 16 tag all)
      ∙ take_all 16 (str_to_ascii_lowercase (drop 16 tag)) (omega (arith, small_length (drop 16 tag), length-drop 16 tag))
      ∙ sym (small_drop 16 tag))
      ∙ take-append-drop 16 small

  -- which is a tag
  pub small_is_tag : is_tag (str_to_ascii_lowercase tag) ≡ true
  small_is_tag = go tag is
    where
      go : (t : List ℕ) → is_tag t ≡ true → is_tag (str_to_ascii_lowercase t) ≡ true
      go [] is = is
      go (b ∷ bs) is =
          let all = all_small (b ∷ bs) (grind (arith, nat_tests)) in
          let long = small_length (b ∷ bs) in
          grind (arith, nat_tests)

  -- its first number isn't 0
  pub high_some : tag_number tag ≢ 0
  unfolding tag_bytes
  high_some none =
      let nothing : take 16 (str_to_ascii_lowercase tag) ≡ [] = sym (one_number_back tag tag-parts.2) ∙ ap tag_bytes none in
      absurd (some tag tag-parts.0 nothing)
    where
      some : (t : List ℕ) → t ≢ [] → take 16 (str_to_ascii_lowercase t) ≡ [] → ⊥
      some [] full none = full refl
      some (b ∷ bs) full none = cc

same_tag_number : (tag : List ℕ) → tag_number (str_to_ascii_lowercase tag) ≡ tag_number tag
unfolding tag_number
same_tag_number tag = ap (from_be_bytes w128) (small_twice tag)

-- the same source by small letters
pub named-small : (server : ℕ) (tag : List ℕ) → named server (str_to_ascii_lowercase tag) ≡ named server tag
named-small server tag =
    let highs = same_tag_number tag in
    let lows : tag_number (drop 16 (str_to_ascii_lowercase tag)) ≡ tag_number (drop 16 tag) = ap tag_number (small_drop 16 tag) ∙ same_tag_number (drop 16 tag) in
    λ i. record { server = server; high = highs i; low = lows i }

pub no_tag : tag_number [] ≡ 0
unfolding tag_number
no_tag = refl

pub untagged_is : (server : ℕ) → record { server = server; high = 0; low = 0 } ≡ named server []
untagged_is server = λ i. record { server = server; high = sym no_tag i; low = sym no_tag i }

number_fits : (tag : List ℕ) → list_all is_tag_byte tag ≡ true → tag_number tag < 2 ^ 128
unfolding tag_number
number_fits tag all =
    let small = str_to_ascii_lowercase tag in
    let low = all_low small (all_small tag all) in
    subst (λ n. n < 2 ^ 128) (same_number (padded 16 small) small (padded-at 16 small)) (fits (padded 16 small) (padded-bytes small low))

-- a whole number's bytes
pub all_bytes : (number count : ℕ) → 16 ≤ count → filter is_tag_byte (take count (to_be_bytes w128 number)) ≡ tag_bytes number
unfolding tag_bytes
all_bytes number count whole = ap (filter is_tag_byte) (take_all count (to_be_bytes w128 number) (omega (arith, bytes-length 16 number)))

-- a server without a tag, and with one
pub IsSource-untagged : (server : ℕ) → server < 2 ^ 128 → IsSource (named server [])
IsSource-untagged server small = record { server = small; high = number_fits [] refl; low = number_fits [] refl; tag = []; named = refl; valid = inl refl }

pub IsSource-tagged : (profile : Profile) (server : ℕ) (part : List ℕ) → server < 2 ^ 128 → names_tag profile part ≡ true → IsSource (named server part)
IsSource-tagged Strict server part small is = absurd (false≢true is)
IsSource-tagged Server server part small is =
    let all = (tag-parts part is).2 in
    record { server = small; high = number_fits part all; low = number_fits (drop 16 part) (all_drop 16 part all); tag = part; named = refl; valid = inr is }

-- a source whose first number is 0 has no tag
pub untagged_source : (source : Source) → IsSource source → source.high ≡ 0 → source ≡ named source.server []
untagged_source source is none =
    elim is.valid as (λ _. source ≡ named source.server []) [
      | inl empty ↦ is.named ∙ ap (named source.server) empty
      | inr tag ↦ absurd (high_some is.tag tag (sym (ap (λ (s : Source). s.high) is.named) ∙ none))
    ]

-- the bytes of a source's tag
abbrev pub tag_of : Source → List ℕ
tag_of source = tag_bytes source.high ++ tag_bytes source.low

-- read back, they name the source
pub tag_names : (source : Source) → IsSource source → (source.high ≡ 0 → ⊥) → (is_tag (tag_of source) ≡ true) × (named source.server (tag_of source) ≡ source)
tag_names source is some =
    elim is.valid as (λ _. (is_tag (tag_of source) ≡ true) × (named source.server (tag_of source) ≡ source)) [
      | inl empty ↦ absurd (some (ap (λ (s : Source). s.high) is.named ∙ ap tag_number empty ∙ no_tag))
      | inr tag ↦
          let own : tag_of source ≡ str_to_ascii_lowercase is.tag = ap tag_of is.named ∙ tag_back is.tag tag in
          (ap is_tag own ∙ small_is_tag is.tag tag, ap (named source.server) own ∙ named-small source.server is.tag ∙ sym is.named)
    ]

-- the bytes of a tag, one by one
pub tag_bytes-all : (P : ℕ → Type 0) → ((b : ℕ) → is_tag_byte b ≡ true → P b) → (number : ℕ) → All P (tag_bytes number)
unfolding tag_bytes
tag_bytes-all P each number = go (to_be_bytes w128 number)
  where
    go : (xs : List ℕ) → All P (filter is_tag_byte xs)
    go [] = All-nil P
    go (x ∷ xs) =
        elim (is_tag_byte x) as (λ b. is_tag_byte x ≡ b → All P (cond b (x ∷ filter is_tag_byte xs) (filter is_tag_byte xs))) [
          | true ↦ λ is. All-cons P x (filter is_tag_byte xs) (each x is) (go xs)
          | false ↦ λ is. go xs
        ] refl

-- ranks tell servers apart, and tags
IsSource-named : (server : ℕ) (tag : List ℕ) → server < 2 ^ 128 → IsTagOrNone tag → IsSource (named server tag)
IsSource-named server tag small (inl none) = subst (λ t. IsSource (named server t)) (sym none) (IsSource-untagged server small)
IsSource-named server tag small (inr is) = IsSource-tagged Server server tag small is

small_back : (server : ℕ) (tag : List ℕ) → IsTagOrNone tag → tag_of (named server tag) ≡ str_to_ascii_lowercase tag
small_back server tag (inr is) = tag_back tag is
small_back server tag (inl none) =
    ap (λ t. tag_of (named server t)) none ∙ ap (λ front. front ++ tag_bytes (tag_number [])) (one_number_back [] refl) ∙ one_number_back [] refl
    ∙ sym (ap str_to_ascii_lowercase none)

pub ranks_tell_apart : RanksTellApart
ranks_tell_apart server other tag also small also-small is also-is same =
    let one = same_source (named server tag) (named other also) (IsSource-named server tag small is) (IsSource-named other also also-small also-is) same in (
      ap (λ (s : Source). s.server) one,
      sym (small_back server tag is) ∙ ap tag_of one ∙ small_back other also also-is,
    )
