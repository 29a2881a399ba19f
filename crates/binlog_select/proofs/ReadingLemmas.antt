-- Reading the elements of a set's text one after another.
use Rattle.std.proofs.Common.{◌≡◌, ◌==◌, false, cond, ℕ, ◌+◌, ◌<◌, List, [], ◌∷◌, ◌++◌, length, get_or, take, drop, Option, Some, None, Result, Ok, Err, IsSome, true, option_map, sym, ap, ◌∙◌, refl, subst, append_assoc, arith}
use Rattle.std.proofs.lemmas.List.{append-nil, take-append-drop, length-drop, drop_more, take_more}
use Rattle.std.proofs.lemmas.List.Splits.{length-slice_split}
use Rattle.binlog_select.specs.declared.interval.Interval.{Interval}
use Rattle.binlog_select.specs.declared.set_fault.SetFault.{SetFault}
use Rattle.binlog_select.specs.declared.set_fault.SetFault.TheVariants.{BadSet, OutOfMemory}
use Rattle.binlog_select.specs.Appending.{appended, Appends, one_interval}
use Rattle.binlog_select.specs.Parts.{parts}
use Rattle.binlog_profile.specs.declared.profile.Profile.{Profile}
use Rattle.binlog_select.specs.SetText.{◌>>=◌, colon, source_of, put_before, interval_in, intervals_of, element_of, trimmed, intervals_in, elements, comma, reading, IsFirstBadBy}
use Rattle.binlog_select.specs.Tags.{named, names_tag}
use Rattle.binlog_select.specs.declared.source.Source.{Source}

-- the parts of an element behind its server
pub element_of-cut : (profile : Profile) (source texts : List ℕ) (number : ℕ) → source_of source ≡ Some number
    → element_of profile (source ∷ parts colon texts) ≡ intervals_of profile (named number []) (parts colon texts)
element_of-cut profile source texts number is =
    elim (parts colon texts) as (λ ps. parts colon texts ≡ ps → element_of profile (source ∷ ps) ≡ intervals_of profile (named number []) ps) [
      | [] ↦ λ none. absurd (omega (arith, length-slice_split (λ b. b == colon) texts, ap length none))
      | ◌∷◌ p more ↦ λ some. rw is refl
    ] refl

pub intervals_in-cut : (profile : Profile) (element source texts : List ℕ) (number : ℕ) → parts colon (trimmed element) ≡ source ∷ parts colon texts
    → Some number ≡ source_of source → intervals_in profile element ≡ intervals_of profile (named number []) (parts colon texts)
intervals_in-cut profile element source texts number cut is = ap (element_of profile) cut ∙ element_of-cut profile source texts number (sym is)

-- a part that is no tag, and one that is, with the interval behind it
pub intervals_of-plain : (profile : Profile) (source : Source) (part : List ℕ) (more : List (List ℕ)) → names_tag profile part ≡ false
    → intervals_of profile source (part ∷ more) ≡ put_before (interval_in source part) (intervals_of profile source more)
intervals_of-plain profile source part [] plain = refl
intervals_of-plain profile source part (next ∷ more) plain = rw plain refl

pub intervals_of-tag : (profile : Profile) (source : Source) (part next : List ℕ) (more : List (List ℕ)) → names_tag profile part ≡ true
    → intervals_of profile source (part ∷ next ∷ more)
    ≡ put_before (interval_in (named source.server part) next) (intervals_of profile (named source.server part) more)
intervals_of-tag profile source part next more tag = rw tag refl

-- what is read behind one interval more
appended-put_before : (old new : List Interval) (first : Option Interval) (others : Option (List Interval))
    → appended old (option_map (λ i. i ∷ []) first) ≡ Some new → appended new others ≡ appended old (put_before first others)
appended-put_before old new (Some i) (Some is) more = let one : new ≡ old ++ i ∷ [] = cc in ap (λ n. Some (n ++ is)) one ∙ ap Some (append_assoc old (i ∷ []) is)
appended-put_before old new (Some i) None more = refl
appended-put_before old new None others more = cc

-- one interval more of an element, by what is left of its parts
pub interval_read : (profile : Profile) (source : Source) (part rest more : List ℕ) (old new : List Interval) (whole : Option (List Interval))
    → parts colon rest ≡ part ∷ parts colon more → names_tag profile part ≡ false → appended old (one_interval source part) ≡ Some new
    → appended old (intervals_of profile source (parts colon rest)) ≡ whole → appended new (intervals_of profile source (parts colon more)) ≡ whole
interval_read profile source part rest more old new whole cut plain read left =
    appended-put_before old new (interval_in source part) (intervals_of profile source (parts colon more)) read
    ∙ ap (appended old) (sym (intervals_of-plain profile source part (parts colon more) plain))
    ∙ ap (λ ps. appended old (intervals_of profile source ps)) (sym cut) ∙ left

pub tagged_read : (profile : Profile) (source : Source) (part next rest more behind : List ℕ) (old new : List Interval) (whole : Option (List Interval))
    → parts colon rest ≡ part ∷ parts colon more → names_tag profile part ≡ true → parts colon more ≡ next ∷ parts colon behind
    → appended old (one_interval (named source.server part) next) ≡ Some new
    → appended old (intervals_of profile source (parts colon rest)) ≡ whole
    → appended new (intervals_of profile (named source.server part) (parts colon behind)) ≡ whole
tagged_read profile source part next rest more behind old new whole cut tag also read left =
    appended-put_before old new (interval_in (named source.server part) next) (intervals_of profile (named source.server part) (parts colon behind)) read
    ∙ ap (appended old) (sym (intervals_of-tag profile source part next (parts colon behind) tag))
    ∙ ap (λ ps. appended old (intervals_of profile source ps)) (sym (cut ∙ ap (λ ps. part ∷ ps) also)) ∙ left

put_before-last : (o : Option Interval) → put_before o (Some []) ≡ option_map (λ i. i ∷ []) o
put_before-last None = refl
put_before-last (Some i) = refl

put_before-none : (o : Option Interval) (others : Option (List Interval)) → option_map (λ i. i ∷ []) o ≡ None → put_before o others ≡ None
put_before-none None others none = refl
put_before-none (Some i) others none = cc

-- the last interval, alone and behind its tag
pub last_plain : (profile : Profile) (source : Source) (rest : List ℕ) → parts colon rest ≡ rest ∷ []
    → intervals_of profile source (parts colon rest) ≡ one_interval source rest
last_plain profile source rest cut = ap (intervals_of profile source) cut ∙ put_before-last (interval_in source rest)

pub last_tagged : (profile : Profile) (source : Source) (part rest more : List ℕ) → parts colon rest ≡ part ∷ parts colon more → names_tag profile part ≡ true
    → parts colon more ≡ more ∷ [] → intervals_of profile source (parts colon rest) ≡ one_interval (named source.server part) more
last_tagged profile source part rest more cut tag also =
    ap (intervals_of profile source) (cut ∙ ap (λ ps. part ∷ ps) also) ∙ intervals_of-tag profile source part more [] tag
    ∙ put_before-last (interval_in (named source.server part) more)

-- an interval without a reading, alone and behind its tag
pub bad_plain : (profile : Profile) (source : Source) (part rest more : List ℕ) → parts colon rest ≡ part ∷ parts colon more → names_tag profile part ≡ false
    → one_interval source part ≡ None → intervals_of profile source (parts colon rest) ≡ None
bad_plain profile source part rest more cut plain bad =
    ap (intervals_of profile source) cut ∙ intervals_of-plain profile source part (parts colon more) plain
    ∙ put_before-none (interval_in source part) (intervals_of profile source (parts colon more)) bad

pub bad_tagged : (profile : Profile) (source : Source) (part next rest more behind : List ℕ) → parts colon rest ≡ part ∷ parts colon more
    → names_tag profile part ≡ true → parts colon more ≡ next ∷ parts colon behind → one_interval (named source.server part) next ≡ None
    → intervals_of profile source (parts colon rest) ≡ None
bad_tagged profile source part next rest more behind cut tag also bad =
    ap (intervals_of profile source) (cut ∙ ap (λ ps. part ∷ ps) also) ∙ intervals_of-tag profile source part next (parts colon behind) tag
    ∙ put_before-none (interval_in (named source.server part) next) (intervals_of profile (named source.server part) (parts colon behind)) bad

appended-none : (old first : List Interval) (left whole : Option (List Interval)) → appended old left ≡ appended first whole → left ≡ None → whole ≡ None
appended-none old first left None same none = refl
appended-none old first left (Some is) same none = let e = ap (appended old) none in cc

-- what the last call says of the whole
pub Appends-last : (at : ℕ) (left whole : Option (List Interval)) (old first new : List Interval) (result : Result (Unit {0}) SetFault)
    → appended old left ≡ appended first whole → Appends at left old new result → Appends at whole first new result
Appends-last at left whole old first new (Ok _) same read = sym same ∙ read
Appends-last at left whole old first new (Err (BadSet k)) same read = (read.0, appended-none old first left whole same read.1)
Appends-last at left whole old first new (Err OutOfMemory) same read = tt

-- and what one says that is refused before the last
pub Appends-refused : (at : ℕ) (one left whole : Option (List Interval)) (old first new : List Interval) (fault : SetFault)
    → (one ≡ None → left ≡ None) → appended old left ≡ appended first whole → Appends at one old new (Err fault) → Appends at whole first new (Err fault)
Appends-refused at one left whole old first new (BadSet k) bad same read = (read.0, appended-none old first left whole same (bad read.1))
Appends-refused at one left whole old first new OutOfMemory bad same read = tt

bind_both : (a b r : Option (List Interval))
    → (a >>= (λ is. (b >>= (λ old. appended old r)) >>= (λ rest. Some (is ++ rest)))) ≡ ((a >>= (λ is. b >>= (λ rest. Some (is ++ rest)))) >>= (λ old. appended old r))
bind_both (Some is) (Some old) (Some new) = ap Some (sym (append_assoc is old new))
bind_both a b r = refl

one_read : (r : Option (List Interval)) → (r >>= (λ is. Some (is ++ []))) ≡ appended [] r
one_read None = refl
one_read (Some is) = ap Some (append-nil is)

-- one element more
pub reading-push : (profile : Profile) (es : List (List ℕ)) (e : List ℕ) → reading profile (es ++ e ∷ []) ≡ (reading profile es >>= (λ old. appended old (intervals_in profile e)))
reading-push profile [] e = one_read (intervals_in profile e)
reading-push profile (x ∷ es) e =
    ap (λ r. intervals_in profile x >>= (λ is. r >>= (λ rest. Some (is ++ rest)))) (reading-push profile es e)
    ∙ bind_both (intervals_in profile x) (reading profile es) (intervals_in profile e)

-- the element at a place, by what is left from there on
module _ (profile : Profile) (es : List (List ℕ)) (at : ℕ) (e : List ℕ) (rest : List (List ℕ)) (left : drop at es ≡ e ∷ rest) where
  pub place_within : at < length es
  place_within = omega (arith, length-drop at es, ap length left)

  opened : (d : List ℕ) → get_or es at d ∷ drop (at + 1) es ≡ e ∷ rest
  opened d = sym (drop_more es at d place_within) ∙ left

  pub place_is : (d : List ℕ) → get_or es at d ≡ e
  place_is d = let both = opened d in cc

  pub place_after : drop (at + 1) es ≡ rest
  place_after = let both = opened e in cc

  pub place_before : take (at + 1) es ≡ take at es ++ e ∷ []
  place_before = take_more es at e place_within ∙ ap (λ x. take at es ++ x ∷ []) (place_is e)

  -- one element more of those that were read
  pub reading-more : (old new : List Interval) → reading profile (take at es) ≡ Some old → appended old (intervals_in profile e) ≡ Some new
      → reading profile (take (at + 1) es) ≡ Some new
  reading-more old new read more =
      ap (reading profile) place_before ∙ reading-push profile (take at es) e ∙ ap (λ r. r >>= (λ o. appended o (intervals_in profile e))) read ∙ more

  -- an element without a reading behind those that were read
  pub first_bad : (k : ℕ) (old new : List Interval) (fault : SetFault) → reading profile (take at es) ≡ Some old
      → Appends at (intervals_in profile e) old new (Err fault) → fault ≡ BadSet k → IsFirstBadBy profile es k
  first_bad k old new fault read refused is =
      let bad : Appends at (intervals_in profile e) old new (Err (BadSet k)) = subst (λ f. Appends at (intervals_in profile e) old new (Err f)) is refused in
      subst (IsFirstBadBy profile es) (sym bad.0) (record {
        within = place_within;
        good = subst IsSome (sym read) refl;
        bad = λ d. ap (intervals_in profile) (place_is d) ∙ bad.1;
      })

  -- and the last one
  pub reading-last : (old new : List Interval) → rest ≡ [] → reading profile (take at es) ≡ Some old → appended old (intervals_in profile e) ≡ Some new
      → reading profile es ≡ Some new
  reading-last old new end read more =
      let whole : es ≡ take (at + 1) es = sym (take-append-drop (at + 1) es) ∙ ap (λ r. take (at + 1) es ++ r) (place_after ∙ end) ∙ append-nil (take (at + 1) es) in
      ap (reading profile) whole ∙ reading-more old new read more

-- the elements of a text that isn't all blanks
pub elements-some : (text t : List ℕ) → t ≡ trimmed text → false ≡ (length t == 0) → elements text ≡ parts comma text
elements-some text t is some =
    ap (λ b. cond b [] (parts comma text)) (sym (some ∙ ap (λ x. length x == 0) is))
