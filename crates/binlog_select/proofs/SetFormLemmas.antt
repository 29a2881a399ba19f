-- The written form of a set is read as the same intervals.
use Rattle.std.proofs.Common.{◌≡◌, ◌≢◌, ◌==◌, ℕ, zero, suc, ◌-◌, ◌<◌, ◌≤◌, ◌^◌, true, false, cond, ◌&&◌, eqb, ltb, List, [], ◌∷◌, ◌++◌, length, get_or, reverse, Option, Some, None, option_map, decimal, inl, sym, ap, ◌∙◌, refl, subst, append_assoc, arith}
use Rattle.std.specs.List.{All, onto_first}
use Rattle.std.specs.Int.{to_be_bytes, from_be_bytes, byte_at, bytes_high_first, w128}
use Rattle.std.proofs.lemmas.Bool.Decides.{nat_tests}
use Rattle.std.proofs.lemmas.List.{append-nil, reverse-reverse, get_or-reverse, length-reverse, length-append}
use Rattle.std.proofs.lemmas.List.Elements.{All-from_get_or, All-append, All-cons, All-nil, All-head, All-tail}
use Rattle.std.proofs.lemmas.List.Splits.{slice_split-cons_yes, length-slice_split}
use Rattle.std.proofs.lemmas.Str.Parse.{digit_at}
use Rattle.std.proofs.lemmas.Fmt.{decimal_nonempty, digits_decimal}
use Rattle.std.specs.Char.{is_ascii_digit}
use Rattle.uuid.specs.Text.{hyphenated_text, lower, is_hyphen_place, digit_place, hex_digit, nibble}
use Rattle.uuid.proofs.TextLemmas.{by_index_length, by_index_at, nibble_small}
use Rattle.uuid.proofs.RoundTrips.{parses_hyphenated_text}
use Rattle.uuid.proofs.OrderLemmas.{from_be_bytes-to_be_bytes_16}
use Rattle.binlog_select.specs.declared.interval.Interval.{Interval}
use Rattle.binlog_select.specs.Gtid.{source_number}
use Rattle.binlog_select.specs.Intervals.{HasNoTag, IsInterval, IsJoined, StandsApart}
use Rattle.binlog_select.specs.Parts.{parts}
use Rattle.binlog_select.specs.SetForm.{source_text, interval_text, next_source, next_text, next_texts, tag_text, written}
use Rattle.binlog_select.specs.SetText.{◌>>=◌, comma, colon, hyphen, is_blank, without_leading_blanks, trimmed, source_of, gtid_number, interval_of, interval_in, put_before, intervals_of, element_of, intervals_in, elements, reading, IsSetText, IsSetTextBy}
use Rattle.binlog_select.specs.Appending.{appended}
use Rattle.binlog_select.specs.Tags.{IsSource, is_tag_byte, named, names_tag, rank, tag_bytes}
use Rattle.binlog_select.specs.declared.source.Source.{Source}
use Rattle.binlog_profile.specs.declared.profile.Profile.{Profile}
use Rattle.binlog_profile.specs.declared.profile.Profile.TheVariants.{Server, Strict}
use Rattle.binlog_select.proofs.DecimalLemmas.{own_digits, number_of-decimal}
use Rattle.binlog_select.proofs.PartsLemmas.{Lacks, parts-none, parts-append}
use Rattle.binlog_select.proofs.TokenLemmas.{decimal-lacks}
use Rattle.binlog_select.proofs.AppendLemmas.{source_same, source_tag, source_other, tag_none, tag_some}
use Rattle.binlog_select.proofs.RankLemmas.{same_source}
use Rattle.binlog_select.proofs.ReadingLemmas.{elements-some, intervals_of-plain, intervals_of-tag}
use Rattle.binlog_select.proofs.TagLemmas.{no_tag, tag_bytes-all, tag_names, tag_of, untagged_source}
use Rattle.binlog_select.proofs.SetTextLemmas.{between, interval_of-cut, between-rising, no_digit_hyphen}
use Rattle.binlog_select.proofs.UniqueLemmas.{same_interval}

-- the bytes of sources and intervals: no blank, comma or colon
abbrev IsPlain : ℕ → Type 0
IsPlain b = (45 ≤ b) × (b ≢ colon)

decimal-plain : (n : ℕ) → n < 2 ^ 64 → All IsPlain (decimal n)
decimal-plain n fits =
    All-from_get_or IsPlain (decimal n) 0 (λ i below.
    let digit = digit_at (decimal n) i (own_digits.to (decimal n) (digits_decimal own_digits n fits)) below in
    (omega (arith, digit.0), λ same. absurd (omega (arith, digit.1))))

interval_text-plain : (i : Interval) → IsInterval i → All IsPlain (interval_text i)
interval_text-plain i is =
    let small = is.small in
    let rising = is.rising in
    elim (eqb i.first i.last) as (λ b. All IsPlain (cond b (decimal i.first) (decimal i.first ++ hyphen ∷ decimal i.last))) [
      | true ↦ decimal-plain i.first (omega arith)
      | false ↦ All-append IsPlain (decimal i.first) (hyphen ∷ decimal i.last) (decimal-plain i.first (omega arith))
          (All-cons IsPlain hyphen (decimal i.last) (omega arith, λ same. absurd (omega arith)) (decimal-plain i.last (omega arith)))
    ]

hex_digit-plain : (d : ℕ) → d < 16 → IsPlain (hex_digit lower d)
hex_digit-plain d small = (grind (arith, nat_tests), λ same. absurd (grind (arith, nat_tests)))

hyphenated-plain : (xs : List ℕ) → All IsPlain (hyphenated_text lower xs)
hyphenated-plain xs =
    let text = hyphenated_text lower xs in
    All-from_get_or IsPlain text 0 (λ k below.
    subst IsPlain (sym (by_index_at 36 (λ j. cond (is_hyphen_place j) hyphen (hex_digit lower (nibble xs (digit_place j)))) k 0 (omega (arith, by_index_length 36 (λ j. cond (is_hyphen_place j) hyphen (hex_digit lower (nibble xs (digit_place j))))))))
    (elim (is_hyphen_place k) as (λ b. IsPlain (cond b hyphen (hex_digit lower (nibble xs (digit_place k))))) [
      | true ↦ (omega arith, λ same. absurd (omega arith))
      | false ↦ hex_digit-plain (nibble xs (digit_place k)) (nibble_small xs (digit_place k))
    ]))

-- a source reads back
byte-fits : (k n : ℕ) → byte_at k n < 256
byte-fits zero n = omega arith
byte-fits (suc k) n = omega arith

bytes-fit : (k n : ℕ) → All (λ b. b < 256) (bytes_high_first k n)
bytes-fit zero n = All-nil (λ b. b < 256)
bytes-fit (suc k) n = All-cons (λ b. b < 256) (byte_at k n) (bytes_high_first k n) (byte-fits k n) (bytes-fit k n)

bytes-length : (k n : ℕ) → length (bytes_high_first k n) ≡ k
bytes-length zero n = refl
bytes-length (suc k) n = ap suc (bytes-length k n)

source_of-bytes : (xs : List ℕ) (source : ℕ) → length xs ≡ 16 → All (λ b. b < 256) xs → from_be_bytes w128 xs ≡ source → source_of (hyphenated_text lower xs) ≡ Some source
source_of-bytes xs source len fit is =
    ap (option_map source_number) (sym (parses_hyphenated_text lower xs (inl refl) len fit)) ∙ ap Some is

source_of-text : (source : ℕ) → source < 2 ^ 128 → source_of (source_text source) ≡ Some source
source_of-text source fits =
    source_of-bytes (to_be_bytes w128 source) source (bytes-length 16 source) (bytes-fit 16 source) (from_be_bytes-to_be_bytes_16 source fits)

-- an interval reads back
gtid_number-decimal : (n : ℕ) → 0 < n → n < 2 ^ 63 → gtid_number (decimal n) ≡ Some n
gtid_number-decimal n positive small =
    ap (λ o. o >>= (λ m. cond (ltb 0 m && ltb m (2 ^ 63)) (Some m) None)) (number_of-decimal n (omega arith))
    ∙ in_range n positive small
  where
    in_range : (n : ℕ) → 0 < n → n < 2 ^ 63 → cond (ltb 0 n && ltb n (2 ^ 63)) (Some n) None ≡ Some n
    in_range n positive small = grind (arith, nat_tests)

interval_of-text : (i : Interval) → IsInterval i → interval_in i.source (interval_text i) ≡ Some i
interval_of-text i is =
    let small = is.small in
    let rising = is.rising in
    let positive = is.positive in
    let first = gtid_number-decimal i.first positive (omega arith) in
    let last = gtid_number-decimal i.last (omega arith) small in
    elim (eqb i.first i.last) as (λ b. eqb i.first i.last ≡ b → interval_of i.source (parts hyphen (cond b (decimal i.first) (decimal i.first ++ hyphen ∷ decimal i.last))) ≡ Some i) [
      | true ↦ λ one.
          ap (interval_of i.source) (parts-none hyphen (decimal i.first) (decimal-lacks i.first hyphen (omega arith) no_digit_hyphen))
          ∙ ap (λ o. o >>= (λ n. Some (record { source = i.source; first = n; last = n }))) first
          ∙ ap Some (same_interval (record { source = i.source; first = i.first; last = i.first }) i refl refl (grind (arith, nat_tests)))
      | false ↦ λ two.
          ap (interval_of i.source) (parts-append hyphen (decimal i.first) (decimal i.last) (decimal-lacks i.first hyphen (omega arith) no_digit_hyphen))
          ∙ interval_of-cut i.source (decimal i.first) (decimal i.last)
          ∙ ap (λ o. between i.source o (gtid_number (decimal i.last))) first
          ∙ ap (between i.source (Some i.first)) last
          ∙ between-rising i.source i.first i.last rising
    ] refl

-- a text without blanks is trimmed already
leading-none : (text : List ℕ) → All (λ b. 33 ≤ b) text → without_leading_blanks text ≡ text
leading-none [] plain = refl
leading-none (b ∷ bs) plain =
    let high = All-head (λ b. 33 ≤ b) b bs plain in
    let no_blank : is_blank b ≡ false = grind (arith, nat_tests) in
    ap (λ t. cond t (without_leading_blanks bs) (b ∷ bs)) no_blank

All-reverse : (P : ℕ → Type 0) (text : List ℕ) → All P text → All P (reverse text)
All-reverse P text each k d below =
    let within : k < length text = omega (arith, length-reverse text) in
    subst P (sym (get_or-reverse text k d within)) (each (length text - 1 - k) d (omega arith))

pub trimmed-none : (text : List ℕ) → All (λ b. 33 ≤ b) text → trimmed text ≡ text
trimmed-none text plain =
    ap (λ t. reverse (without_leading_blanks (reverse t))) (leading-none text plain)
    ∙ ap reverse (leading-none (reverse text) (All-reverse (λ b. 33 ≤ b) text plain))
    ∙ reverse-reverse text

-- the parts of a text to which a separator and more are appended
onto_first-append : {X : Type 0} (x : X) (ps qs : List (List X)) → 0 < length ps → onto_first x (ps ++ qs) ≡ onto_first x ps ++ qs
onto_first-append x [] qs some = absurd (omega arith)
onto_first-append x (p ∷ ps) qs some = refl

parts-push : (c : ℕ) (xs ys : List ℕ) → parts c (xs ++ c ∷ ys) ≡ parts c xs ++ parts c ys
parts-push c [] ys = slice_split-cons_yes (λ b. eqb b c) c ys (grind (arith, nat_tests))
parts-push c (x ∷ xs) ys =
    elim (eqb x c) as (λ b. cond b ([] ∷ parts c (xs ++ c ∷ ys)) (onto_first x (parts c (xs ++ c ∷ ys))) ≡ cond b ([] ∷ parts c xs) (onto_first x (parts c xs)) ++ parts c ys) [
      | true ↦ ap (λ ps. [] ∷ ps) (parts-push c xs ys)
      | false ↦ ap (onto_first x) (parts-push c xs ys)
          ∙ onto_first-append x (parts c xs) (parts c ys) (omega (arith, length-slice_split (λ b. eqb b c) xs))
    ]

-- a profile that names tags, or a source without one
abbrev pub Reads : Profile → Source → Type 0
Reads Strict source = source.high ≡ 0
Reads Server source = Unit {0}

-- what begins with a digit is no tag
digit_first : (profile : Profile) (text more : List ℕ) → 0 < length text → 48 ≤ get_or text 0 0 → get_or text 0 0 ≤ 57 → names_tag profile (text ++ more) ≡ false
digit_first Strict text more some low high = refl
digit_first Server [] more some low high = absurd (omega arith)
digit_first Server (b ∷ bs) more some low high = let digit : is_ascii_digit b ≡ true = grind (arith, nat_tests) in rw digit refl

interval_text-no_tag : (profile : Profile) (i : Interval) → IsInterval i → names_tag profile (interval_text i) ≡ false
interval_text-no_tag profile i is =
    let small = is.small in
    let rising = is.rising in
    let fits : i.first < 2 ^ 64 = omega arith in
    let some = decimal_nonempty i.first fits in
    let digit = digit_at (decimal i.first) 0 (own_digits.to (decimal i.first) (digits_decimal own_digits i.first fits)) some in
    elim (eqb i.first i.last) as (λ b. names_tag profile (cond b (decimal i.first) (decimal i.first ++ hyphen ∷ decimal i.last)) ≡ false) [
      | true ↦ ap (names_tag profile) (sym (append-nil (decimal i.first))) ∙ digit_first profile (decimal i.first) [] some (omega (arith, digit.0)) (omega (arith, digit.1))
      | false ↦ digit_first profile (decimal i.first) (hyphen ∷ decimal i.last) some (omega (arith, digit.0)) (omega (arith, digit.1))
    ]

tag_of-names : (profile : Profile) (source : Source) → IsSource source → Reads profile source → (source.high ≡ 0 → ⊥) → names_tag profile (tag_of source) ≡ true
tag_of-names Strict source is reads some = absurd (some reads)
tag_of-names Server source is reads some = (tag_names source is some).0

lacks-comma : (text : List ℕ) → All (λ b. 45 ≤ b) text → Lacks text comma
lacks-comma text plain k d below same = absurd (omega (arith, plain k d below))

plain-no_colon : (text : List ℕ) → All IsPlain text → Lacks text colon
plain-no_colon text plain k d below = (plain k d below).1

plain-low : (text : List ℕ) → All IsPlain text → All (λ b. 45 ≤ b) text
plain-low text plain k d below = (plain k d below).0

low-no_blank : (text : List ℕ) → All (λ b. 45 ≤ b) text → All (λ b. 33 ≤ b) text
low-no_blank text plain k d below = let h = plain k d below in omega arith

source-plain : (source : ℕ) → All IsPlain (source_text source)
source-plain source = hyphenated-plain (to_be_bytes w128 source)

tag-plain : (source : Source) → All IsPlain (tag_of source)
tag-plain source =
    All-append IsPlain (tag_bytes source.high) (tag_bytes source.low) (tag_bytes-all IsPlain byte_plain source.high) (tag_bytes-all IsPlain byte_plain source.low)
  where
    byte_plain : (b : ℕ) → is_tag_byte b ≡ true → IsPlain b
    byte_plain b is = (grind (arith, nat_tests), λ same. absurd (grind (arith, nat_tests)))

-- an interval, and what is read behind it
put_before-some : (i : Interval) (others : Option (List Interval)) → put_before (Some i) others ≡ appended (i ∷ []) others
put_before-some i None = refl
put_before-some i (Some is) = refl

step : (profile : Profile) (i : Interval) (rest : List (List ℕ)) → IsInterval i
    → intervals_of profile i.source (interval_text i ∷ rest) ≡ appended (i ∷ []) (intervals_of profile i.source rest)
step profile i rest is =
    intervals_of-plain profile i.source (interval_text i) rest (interval_text-no_tag profile i is)
    ∙ ap (λ o. put_before o (intervals_of profile i.source rest)) (interval_of-text i is)
    ∙ put_before-some i (intervals_of profile i.source rest)

tag_step : (profile : Profile) (source : Source) (i : Interval) (rest : List (List ℕ)) → IsInterval i → Reads profile i.source → (i.source.high ≡ 0 → ⊥)
    → i.source.server ≡ source.server
    → intervals_of profile source (tag_of i.source ∷ interval_text i ∷ rest) ≡ appended (i ∷ []) (intervals_of profile i.source rest)
tag_step profile source i rest is reads some same =
    let own : named source.server (tag_of i.source) ≡ i.source = ap (λ s. named s (tag_of i.source)) (sym same) ∙ (tag_names i.source is.source some).1 in
    intervals_of-tag profile source (tag_of i.source) (interval_text i) rest (tag_of-names profile i.source is.source reads some)
    ∙ ap (λ s. put_before (interval_in s (interval_text i)) (intervals_of profile s rest)) own
    ∙ ap (λ o. put_before o (intervals_of profile i.source rest)) (interval_of-text i is)
    ∙ put_before-some i (intervals_of profile i.source rest)

appended_twice : (old : List Interval) (i : Interval) (others : Option (List Interval)) → appended old (appended (i ∷ []) others) ≡ appended (old ++ i ∷ []) others
appended_twice old i None = refl
appended_twice old i (Some is) = ap Some (sym (append_assoc old (i ∷ []) is))

appended-nothing : (others : Option (List Interval)) → others ≡ appended [] others
appended-nothing None = refl
appended-nothing (Some is) = refl

-- the text of an element, as far as it has been written behind its server, and how what stands behind it reads
record IsElement (profile : Profile) (text : List ℕ) (source : Source) (done : List Interval) (behind : List (List ℕ)) : Type 0 where
  small : source.server < 2 ^ 128
  plain : All (λ b. 45 ≤ b) text
  cut : parts colon text ≡ source_text source.server ∷ behind
  read : (rest : List (List ℕ)) → intervals_of profile (named source.server []) (behind ++ rest) ≡ appended done (intervals_of profile source rest)

intervals_in-element : (profile : Profile) (text : List ℕ) (source : Source) (done : List Interval) (first : List ℕ) (more : List (List ℕ))
    → IsElement profile text source done (first ∷ more) → intervals_in profile text ≡ Some done
intervals_in-element profile text source done first more is =
    ap (λ t. element_of profile (parts colon t)) (trimmed-none text (low-no_blank text is.plain))
    ∙ ap (element_of profile) is.cut
    ∙ ap (λ o. o >>= (λ n. intervals_of profile (named n []) (first ∷ more))) (source_of-text source.server is.small)
    ∙ ap (λ ps. intervals_of profile (named source.server []) ps) (sym (append-nil (first ∷ more)))
    ∙ is.read []
    ∙ ap Some (append-nil done)

-- a server alone
IsElement-server : (profile : Profile) (server : ℕ) → server < 2 ^ 128 → IsElement profile (source_text server) (named server []) [] []
IsElement-server profile server small = record {
  small = small;
  plain = plain-low (source_text server) (source-plain server);
  cut = parts-none colon (source_text server) (plain-no_colon (source_text server) (source-plain server));
  read = λ rest. appended-nothing (intervals_of profile (named server []) rest);
}

-- one interval more, of the same source and of one with a tag
module _ (profile : Profile) (text : List ℕ) (source : Source) (done : List Interval) (behind : List (List ℕ)) (i : Interval)
    (is : IsElement profile text source done behind) (also : IsInterval i) where
  abbrev number : List ℕ
  number = interval_text i

  abbrev label : List ℕ
  label = tag_of i.source

  number-cut : parts colon number ≡ number ∷ []
  number-cut = parts-none colon number (plain-no_colon number (interval_text-plain i also))

  number-low : All (λ b. 45 ≤ b) (colon ∷ number)
  number-low = All-cons (λ b. 45 ≤ b) colon number (omega arith) (plain-low number (interval_text-plain i also))

  IsElement-next : i.source ≡ source → IsElement profile (text ++ colon ∷ number) i.source (done ++ i ∷ []) (behind ++ number ∷ [])
  IsElement-next same = record {
    small = subst (λ (s : Source). s.server < 2 ^ 128) (sym same) is.small;
    plain = All-append (λ b. 45 ≤ b) text (colon ∷ number) is.plain number-low;
    cut = parts-push colon text number ∙ ap (λ ps. ps ++ parts colon number) is.cut ∙ ap (λ ps. source_text source.server ∷ (behind ++ ps)) number-cut
        ∙ ap (λ (s : Source). source_text s.server ∷ (behind ++ number ∷ [])) (sym same);
    read = λ rest.
        ap (λ ps. intervals_of profile (named i.source.server []) ps) (append_assoc behind (number ∷ []) rest)
        ∙ ap (λ (s : Source). intervals_of profile (named s.server []) (behind ++ number ∷ rest)) same
        ∙ is.read (number ∷ rest)
        ∙ ap (λ s. appended done (intervals_of profile s (number ∷ rest))) (sym same)
        ∙ ap (appended done) (step profile i rest also)
        ∙ appended_twice done i (intervals_of profile i.source rest);
  }

  IsElement-tag : Reads profile i.source → (i.source.high ≡ 0 → ⊥) → i.source.server ≡ source.server
      → IsElement profile (text ++ (colon ∷ label ++ colon ∷ number)) i.source (done ++ i ∷ []) (behind ++ label ∷ number ∷ [])
  IsElement-tag reads some same = record {
    small = subst (λ s. s < 2 ^ 128) (sym same) is.small;
    plain = All-append (λ b. 45 ≤ b) text (colon ∷ label ++ colon ∷ number) is.plain
        (All-cons (λ b. 45 ≤ b) colon (label ++ colon ∷ number) (omega arith)
        (All-append (λ b. 45 ≤ b) label (colon ∷ number) (plain-low label (tag-plain i.source)) number-low));
    cut = parts-push colon text (label ++ colon ∷ number) ∙ ap (λ ps. ps ++ parts colon (label ++ colon ∷ number)) is.cut
        ∙ ap (λ ps. source_text source.server ∷ (behind ++ ps)) (parts-append colon label number (plain-no_colon label (tag-plain i.source)) ∙ ap (λ ps. label ∷ ps) number-cut)
        ∙ ap (λ s. source_text s ∷ (behind ++ label ∷ number ∷ [])) (sym same);
    read = λ rest.
        ap (λ ps. intervals_of profile (named i.source.server []) ps) (append_assoc behind (label ∷ number ∷ []) rest)
        ∙ ap (λ s. intervals_of profile (named s []) (behind ++ label ∷ number ∷ rest)) same
        ∙ is.read (label ∷ number ∷ rest)
        ∙ ap (appended done) (tag_step profile source i rest also reads some same)
        ∙ appended_twice done i (intervals_of profile i.source rest);
  }

-- the first interval of a server, with its tag where it has one
record Begins (profile : Profile) (i : Interval) : Type 0 where
  first : List ℕ
  more : List (List ℕ)
  element : IsElement profile (source_text i.source.server ++ (tag_text i.source ++ colon ∷ interval_text i)) i.source (i ∷ []) (first ∷ more)

begins : (profile : Profile) (i : Interval) → IsInterval i → Reads profile i.source → Begins profile i
begins profile i is reads =
    let server = i.source.server in
    let alone = IsElement-server profile server is.source.server in
    elim (eqb i.source.high 0) as (λ b. eqb i.source.high 0 ≡ b → Begins profile i) [
      | true ↦ λ test.
          let none : i.source.high ≡ 0 = grind (arith, nat_tests) in
          record {
            first = interval_text i;
            more = [];
            element = subst (λ t. IsElement profile (source_text server ++ (t ++ colon ∷ interval_text i)) i.source (i ∷ []) (interval_text i ∷ [])) (sym (tag_none i.source none))
                (IsElement-next profile (source_text server) (named server []) [] [] i alone is (untagged_source i.source is.source none));
          }
      | false ↦ λ test.
          let some : i.source.high ≡ 0 → ⊥ = λ none. absurd (grind (arith, nat_tests)) in
          record {
            first = tag_of i.source;
            more = interval_text i ∷ [];
            element = subst (λ t. IsElement profile (source_text server ++ t) i.source (i ∷ []) (tag_of i.source ∷ interval_text i ∷ []))
                (sym (ap (λ t. t ++ colon ∷ interval_text i) (tag_some i.source some)))
                (IsElement-tag profile (source_text server) (named server []) [] [] i alone is reads some refl);
          }
    ] refl

-- each interval's source is read by the profile
abbrev pub AreRead : Profile → List Interval → Type 0
AreRead profile [] = Unit {0}
AreRead profile (i ∷ is) = Reads profile i.source × AreRead profile is

-- the next interval's source isn't below one
abbrev IsBelow : Source → List Interval → Type 0
IsBelow source [] = Unit {0}
IsBelow source (i ∷ is) = rank source ≤ rank i.source

apart-below : (i : Interval) (is : List Interval) → StandsApart i is → IsBelow i.source is
apart-below i [] apart = tt
apart-below i (next ∷ is) apart = apart.0

-- a source of a server behind another one of it has a tag
behind_tagged : (source next : Source) → IsSource next → rank source ≤ rank next → (rank next ≡ rank source → ⊥) → next.server ≡ source.server → next.high ≡ 0 → ⊥
unfolding rank
behind_tagged source next is above differ same none =
    let own = untagged_source next is none in
    let low : next.low ≡ 0 = ap (λ (s : Source). s.low) own ∙ no_tag in
    absurd (differ (omega (arith, above)))

-- the pieces behind a comma, put together
grouped : (text server tag number behind : List ℕ) → text ++ ((((comma ∷ server) ++ tag) ++ number) ++ behind) ≡ text ++ comma ∷ ((server ++ (tag ++ number)) ++ behind)
grouped text server tag number behind = ap (λ t. text ++ comma ∷ (t ++ behind)) (append_assoc server tag number)

-- what is written behind an element reads as the intervals that it was written from
reading-next : (profile : Profile) (text : List ℕ) (source : Source) (done : List Interval) (first : List ℕ) (more : List (List ℕ)) (is : List Interval)
    → IsElement profile text source done (first ∷ more) → IsBelow source is → IsSource source → IsJoined is → AreRead profile is
    → reading profile (parts comma (text ++ next_texts source is)) ≡ Some (done ++ is)
reading-next profile text source done first more [] element below own joined reads =
    ap (λ t. reading profile (parts comma t)) (append-nil text)
    ∙ ap (reading profile) (parts-none comma text (lacks-comma text element.plain))
    ∙ ap (λ o. o >>= (λ a. Some (a ++ []))) (intervals_in-element profile text source done first more element)
reading-next profile text source done first more (i ∷ is) element below own joined reads =
    let number = interval_text i in
    let next = apart-below i is joined.1 in
    elim (eqb (rank i.source) (rank source)) as (λ b. eqb (rank i.source) (rank source) ≡ b
    → reading profile (parts comma (text ++ ((next_source source i.source ++ colon ∷ number) ++ next_texts i.source is))) ≡ Some (done ++ i ∷ is)) [
      | true ↦ λ test.
          let ranks : rank i.source ≡ rank source = grind (arith, nat_tests) in
          ap (λ t. reading profile (parts comma (text ++ ((t ++ colon ∷ number) ++ next_texts i.source is)))) (source_same source i.source ranks)
          ∙ ap (λ t. reading profile (parts comma t)) (sym (append_assoc text (colon ∷ number) (next_texts i.source is)))
          ∙ reading-next profile (text ++ colon ∷ number) i.source (done ++ i ∷ []) first (more ++ number ∷ []) is
          (IsElement-next profile text source done (first ∷ more) i element joined.0 (same_source i.source source joined.0.source own ranks)) next joined.0.source joined.2 reads.1
          ∙ ap Some (append_assoc done (i ∷ []) is)
      | false ↦ λ test.
          let differ : rank i.source ≡ rank source → ⊥ = λ same. absurd (grind (arith, nat_tests)) in
          elim (eqb i.source.server source.server) as (λ b. eqb i.source.server source.server ≡ b
          → reading profile (parts comma (text ++ ((next_source source i.source ++ colon ∷ number) ++ next_texts i.source is))) ≡ Some (done ++ i ∷ is)) [
            | true ↦ λ also.
                let same : i.source.server ≡ source.server = grind (arith, nat_tests) in
                let some = behind_tagged source i.source joined.0.source below differ same in
                ap (λ t. reading profile (parts comma (text ++ ((t ++ colon ∷ number) ++ next_texts i.source is))))
                (source_tag source i.source differ same ∙ tag_some i.source some)
                ∙ ap (λ t. reading profile (parts comma t)) (sym (append_assoc text (colon ∷ tag_of i.source ++ colon ∷ number) (next_texts i.source is)))
                ∙ reading-next profile (text ++ (colon ∷ tag_of i.source ++ colon ∷ number)) i.source (done ++ i ∷ []) first (more ++ tag_of i.source ∷ number ∷ []) is
                (IsElement-tag profile text source done (first ∷ more) i element joined.0 reads.0 some same) next joined.0.source joined.2 reads.1
                ∙ ap Some (append_assoc done (i ∷ []) is)
            | false ↦ λ also.
                let other : i.source.server ≡ source.server → ⊥ = λ same. absurd (grind (arith, nat_tests)) in
                let begin = begins profile i joined.0 reads.0 in
                let front = source_text i.source.server ++ (tag_text i.source ++ colon ∷ number) in
                let rest = reading-next profile front i.source (i ∷ []) begin.first begin.more is begin.element next joined.0.source joined.2 reads.1 in
                ap (λ t. reading profile (parts comma (text ++ ((t ++ colon ∷ number) ++ next_texts i.source is)))) (source_other source i.source differ other)
                ∙ ap (λ t. reading profile (parts comma t)) (grouped text (source_text i.source.server) (tag_text i.source) (colon ∷ number) (next_texts i.source is))
                ∙ ap (reading profile) (parts-append comma text (front ++ next_texts i.source is) (lacks-comma text element.plain))
                ∙ ap (λ o. o >>= (λ a. reading profile (parts comma (front ++ next_texts i.source is)) >>= (λ r. Some (a ++ r))))
                (intervals_in-element profile text source done first more element)
                ∙ ap (λ o. o >>= (λ r. Some (done ++ r))) rest
          ] refl
    ] refl

-- nothing written is a blank
tag_text-no_blank : (source : Source) → All (λ b. 33 ≤ b) (tag_text source)
tag_text-no_blank source =
    elim (eqb source.high 0) as (λ b. All (λ c. 33 ≤ c) (cond b [] (colon ∷ tag_of source))) [
      | true ↦ All-nil (λ c. 33 ≤ c)
      | false ↦ All-cons (λ c. 33 ≤ c) colon (tag_of source) (omega arith) (low-no_blank (tag_of source) (plain-low (tag_of source) (tag-plain source)))
    ]

next_source-no_blank : (source next : Source) → All (λ b. 33 ≤ b) (next_source source next)
next_source-no_blank source next =
    let own = low-no_blank (source_text next.server) (plain-low (source_text next.server) (source-plain next.server)) in
    elim (eqb (rank next) (rank source)) as (λ b. All (λ c. 33 ≤ c) (cond b [] (cond (eqb next.server source.server) [] (comma ∷ source_text next.server) ++ tag_text next))) [
      | true ↦ All-nil (λ c. 33 ≤ c)
      | false ↦ All-append (λ c. 33 ≤ c) (cond (eqb next.server source.server) [] (comma ∷ source_text next.server)) (tag_text next)
          (elim (eqb next.server source.server) as (λ b. All (λ c. 33 ≤ c) (cond b [] (comma ∷ source_text next.server))) [
            | true ↦ All-nil (λ c. 33 ≤ c)
            | false ↦ All-cons (λ c. 33 ≤ c) comma (source_text next.server) (omega arith) own
          ]) (tag_text-no_blank next)
    ]

next_texts-no_blank : (source : Source) (is : List Interval) → IsJoined is → All (λ b. 33 ≤ b) (next_texts source is)
next_texts-no_blank source [] joined = All-nil (λ b. 33 ≤ b)
next_texts-no_blank source (i ∷ is) joined =
    let number = interval_text i in
    let behind : All (λ b. 33 ≤ b) (colon ∷ number) = All-cons (λ b. 33 ≤ b) colon number (omega arith) (low-no_blank number (plain-low number (interval_text-plain i joined.0))) in
    All-append (λ b. 33 ≤ b) (next_text source i) (next_texts i.source is)
    (All-append (λ b. 33 ≤ b) (next_source source i.source) (colon ∷ number) (next_source-no_blank source i.source) behind)
    (next_texts-no_blank i.source is joined.2)

-- the written form reads as the set's own intervals
pub reading-written : (profile : Profile) (set : List Interval) → IsJoined set → AreRead profile set → reading profile (elements (written set)) ≡ Some set
reading-written profile [] joined reads = refl
reading-written profile (i ∷ is) joined reads =
    let server = source_text i.source.server in
    let front = server ++ (tag_text i.source ++ colon ∷ interval_text i) in
    let begin = begins profile i joined.0 reads.0 in
    let whole : front ++ next_texts i.source is ≡ written (i ∷ is) =
    append_assoc server (tag_text i.source ++ colon ∷ interval_text i) (next_texts i.source is)
    ∙ ap (λ t. server ++ t) (append_assoc (tag_text i.source) (colon ∷ interval_text i) (next_texts i.source is)) in
    let dark : All (λ b. 33 ≤ b) (front ++ next_texts i.source is) =
    All-append (λ b. 33 ≤ b) front (next_texts i.source is) (low-no_blank front begin.element.plain) (next_texts-no_blank i.source is joined.2) in
    let some : 0 < length (front ++ next_texts i.source is) =
    omega (arith, length-append front (next_texts i.source is), length-append server (tag_text i.source ++ colon ∷ interval_text i), length-append (tag_text i.source) (colon ∷ interval_text i)) in
    ap (λ t. reading profile (elements t)) (sym whole)
    ∙ ap (reading profile) (elements-some (front ++ next_texts i.source is) (front ++ next_texts i.source is) (sym (trimmed-none (front ++ next_texts i.source is) dark)) (none_long (front ++ next_texts i.source is) some))
    ∙ reading-next profile front i.source (i ∷ []) begin.first begin.more is begin.element (apart-below i is joined.1) joined.0.source joined.2 reads.1
  where
    none_long : (t : List ℕ) → 0 < length t → false ≡ (length t == 0)
    none_long t some = grind (arith, nat_tests)

by_server : (set : List Interval) → AreRead Server set
by_server [] = tt
by_server (i ∷ is) = (tt, by_server is)

by_strict : (set : List Interval) → All HasNoTag set → AreRead Strict set
by_strict [] none = tt
by_strict (i ∷ is) none = (All-head HasNoTag i is none, by_strict is (All-tail HasNoTag i is none))

names : (profile : Profile) (set : List Interval) → IsJoined set → AreRead profile set → IsSetTextBy profile (written set) set
names profile set joined reads = record {
  named = set;
  reads = reading-written profile set joined reads;
  same = λ source number. (λ m. m, λ m. m);
}

pub names_itself : (set : List Interval) → IsJoined set → IsSetTextBy Server (written set) set
names_itself set joined = names Server set joined (by_server set)

pub strict_names_itself : (set : List Interval) → IsJoined set → All HasNoTag set → IsSetText (written set) set
strict_names_itself set joined none = names Strict set joined (by_strict set none)
