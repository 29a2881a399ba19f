-- What the strict profile reads of a set's text, the server's reads alike: a tag is no interval.
use Rattle.std.proofs.Common.{◌≡◌, ◌==◌, ◌⊎◌, ℕ, Bool, true, false, not, cond, List, [], ◌∷◌, ◌++◌, Option, Some, None, inl, inr, sym, ap, ◌∙◌, refl, subst}
use Rattle.std.specs.Char.{is_ascii_digit}
use Rattle.std.specs.List.{onto_first}
use Rattle.std.specs.Str.{all_ascii_digits}
use Rattle.std.proofs.lemmas.Bool.{false≢true}
use Rattle.binlog_profile.specs.declared.profile.Profile.TheVariants.{Server, Strict}
use Rattle.binlog_select.specs.declared.interval.Interval.{Interval}
use Rattle.binlog_select.specs.declared.source.Source.{Source}
use Rattle.binlog_select.specs.Decimal.{is_number}
use Rattle.binlog_select.specs.Parts.{parts}
use Rattle.binlog_select.specs.SetText.{◌>>=◌, IsSetTextBy, ProfilesReadSets, colon, element_of, elements, gtid_number, hyphen, interval_in, interval_of, intervals_in, intervals_of, put_before, reading, source_of, trimmed}
use Rattle.binlog_select.specs.Tags.{is_tag, named}
use Rattle.binlog_select.proofs.ReadingLemmas.{intervals_of-plain}
use Rattle.binlog_select.proofs.SetTextLemmas.{is_number-digits}
use Rattle.binlog_select.proofs.TagLemmas.{both_true}

-- a number begins with a digit
begins_with_digit : (b : ℕ) (bs : List ℕ) → is_number (b ∷ bs) ≡ true → is_ascii_digit b ≡ true
begins_with_digit b bs is = (both_true (is_ascii_digit b) (all_ascii_digits bs) (is_number-digits (b ∷ bs) is)).0

no_number : (b : ℕ) (bs : List ℕ) → is_ascii_digit b ≡ false → gtid_number (b ∷ bs) ≡ None
no_number b bs other =
    elim (is_number (b ∷ bs)) as (λ t. is_number (b ∷ bs) ≡ t → gtid_number (b ∷ bs) ≡ None) [
      | true ↦ λ is. absurd (false≢true (sym other ∙ begins_with_digit b bs is))
      | false ↦ λ is. rw is refl
    ] refl

interval_of-none : (source : Source) (n : List ℕ) (rest : List (List ℕ)) → gtid_number n ≡ None → interval_of source (n ∷ rest) ≡ None
interval_of-none source n [] none = rw none refl
interval_of-none source n (m ∷ []) none = rw none refl
interval_of-none source n (m ∷ more ∷ rest) none = refl

behind_byte : (source : Source) (b : ℕ) (ps : List (List ℕ)) → is_ascii_digit b ≡ false → interval_of source (onto_first b ps) ≡ None
behind_byte source b [] other = interval_of-none source (b ∷ []) [] (no_number b [] other)
behind_byte source b (p ∷ ps) other = interval_of-none source (b ∷ p) ps (no_number b p other)

no_interval : (source : Source) (b : ℕ) (bs : List ℕ) → is_ascii_digit b ≡ false → interval_in source (b ∷ bs) ≡ None
no_interval source b bs other =
    elim (b == hyphen) as (λ t. interval_of source (cond t ([] ∷ parts hyphen bs) (onto_first b (parts hyphen bs))) ≡ None) [
      | true ↦ interval_of-none source [] (parts hyphen bs) refl
      | false ↦ behind_byte source b (parts hyphen bs) other
    ]

negated : (b : Bool) → not b ≡ true → b ≡ false
negated true is = sym is
negated false is = refl

-- a tag is no interval
pub tag_no_interval : (source : Source) (part : List ℕ) → is_tag part ≡ true → interval_in source part ≡ None
tag_no_interval source [] is = absurd (false≢true is)
tag_no_interval source (b ∷ bs) is = no_interval source b bs (negated (is_ascii_digit b) (both_true _ _ is).0)

-- the first reading is none, or the second
abbrev IsNoneOr : Option (List Interval) → Option (List Interval) → Type 0
IsNoneOr strict server = (strict ≡ None) ⊎ (strict ≡ server)

put_before-alike : (first : Option Interval) (strict server : Option (List Interval)) → IsNoneOr strict server
    → IsNoneOr (put_before first strict) (put_before first server)
put_before-alike None strict server alike = inl refl
put_before-alike (Some i) strict server (inl none) = inl (ap (put_before (Some i)) none)
put_before-alike (Some i) strict server (inr same) = inr (ap (put_before (Some i)) same)

intervals_of-alike : (source : Source) (ps : List (List ℕ)) → IsNoneOr (intervals_of Strict source ps) (intervals_of Server source ps)
intervals_of-alike source [] = inr refl
intervals_of-alike source (part ∷ []) = inr refl
intervals_of-alike source (part ∷ next ∷ more) =
    elim (is_tag part) as (λ t. is_tag part ≡ t
    → IsNoneOr (intervals_of Strict source (part ∷ next ∷ more)) (intervals_of Server source (part ∷ next ∷ more))) [
      | true ↦ λ is. inl (ap (λ first. put_before first (intervals_of Strict source (next ∷ more))) (tag_no_interval source part is))
      | false ↦ λ is.
          subst (IsNoneOr (put_before (interval_in source part) (intervals_of Strict source (next ∷ more))))
          (sym (intervals_of-plain Server source part (next ∷ more) is))
          (put_before-alike (interval_in source part) (intervals_of Strict source (next ∷ more)) (intervals_of Server source (next ∷ more))
          (intervals_of-alike source (next ∷ more)))
    ] refl

element_of-alike : (ps : List (List ℕ)) → IsNoneOr (element_of Strict ps) (element_of Server ps)
element_of-alike [] = inr refl
element_of-alike (server ∷ []) = inr refl
element_of-alike (server ∷ part ∷ more) =
    elim (source_of server) as (λ o. IsNoneOr (o >>= (λ number. intervals_of Strict (named number []) (part ∷ more)))
    (o >>= (λ number. intervals_of Server (named number []) (part ∷ more)))) [
      | None ↦ inl refl
      | Some number ↦ intervals_of-alike (named number []) (part ∷ more)
    ]

-- the reading of one element and that of those behind it
abbrev both_read : Option (List Interval) → Option (List Interval) → Option (List Interval)
both_read first others = first >>= (λ is. others >>= (λ rest. Some (is ++ rest)))

both_read-none : (first others : Option (List Interval)) → others ≡ None → both_read first others ≡ None
both_read-none None others none = refl
both_read-none (Some is) others none = ap (both_read (Some is)) none

both_read-alike : (first others server rest : Option (List Interval)) → IsNoneOr first server → IsNoneOr others rest
    → IsNoneOr (both_read first others) (both_read server rest)
both_read-alike first others server rest (inl none) alike = inl (ap (λ o. both_read o others) none)
both_read-alike first others server rest (inr same) (inl none) = inl (both_read-none first others none)
both_read-alike first others server rest (inr same) (inr also) = inr (ap (λ o. both_read o others) same ∙ ap (both_read server) also)

reading-alike : (texts : List (List ℕ)) → IsNoneOr (reading Strict texts) (reading Server texts)
reading-alike [] = inr refl
reading-alike (element ∷ more) =
    both_read-alike (intervals_in Strict element) (reading Strict more) (intervals_in Server element) (reading Server more)
    (element_of-alike (parts colon (trimmed element))) (reading-alike more)

pub profiles_read_sets : ProfilesReadSets
profiles_read_sets text set names =
    elim (reading-alike (elements text)) as (λ _. IsSetTextBy Server text set) [
      | inl none ↦ absurd (let e = sym none ∙ names.reads in cc)
      | inr same ↦ record { named = names.named; reads = sym same ∙ names.reads; same = names.same }
    ]
