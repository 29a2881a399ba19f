-- Reading the elements of a set's text.
use Rattle.std.proofs.Common.{◌≡◌, ◌≢◌, ◌==◌, ℕ, ◌<◌, ◌≤◌, true, false, cond, nat_le, List, [], ◌∷◌, length, Option, Some, None, option_map, sym, ap, ◌∙◌, refl, arith}
use Rattle.std.specs.List.{join_with_byte}
use Rattle.std.specs.Int.{IsInRange}
use Rattle.std.specs.Str.{all_ascii_digits}
use Rattle.std.proofs.lemmas.Bool.Decides.{nat_tests}
use Rattle.std.proofs.lemmas.List.Splits.{length-slice_split}
use Rattle.std.proofs.lemmas.List.Elements.{All-from_get_or}
use Rattle.std.proofs.lemmas.Str.Parse.{not_in_digits}
use Rattle.binlog_select.specs.declared.interval.Interval.{Interval}
use Rattle.uuid.specs.Text.{parsed, parsed_hyphenated}
use Rattle.binlog_select.specs.Gtid.{source_number}
use Rattle.binlog_select.specs.Decimal.{is_number}
use Rattle.binlog_select.specs.Parts.{parts}
use Rattle.binlog_select.specs.declared.source.Source.{Source}
use Rattle.binlog_select.specs.SetText.{◌>>=◌, hyphen, source_of, gtid_number, interval_of}
use Rattle.binlog_select.proofs.DecimalLemmas.{own_digits}
use Rattle.binlog_select.proofs.PartsLemmas.{Lacks, parts-none, join-parts}

-- digits have no other byte
pub digits-lack : (ds : List ℕ) (c : ℕ) → all_ascii_digits ds ≡ true → ¬ (IsInRange 48 57 c) → Lacks ds c
digits-lack ds c digits outside = All-from_get_or (λ b. b ≢ c) ds 0 (not_in_digits own_digits ds c digits outside)

pub is_number-digits : (ds : List ℕ) → is_number ds ≡ true → all_ascii_digits ds ≡ true
is_number-digits ds is = grind (arith, nat_tests)

-- what has a byte besides digits is no number
gtid_number-parted : (c : ℕ) (ds : List ℕ) → ¬ (IsInRange 48 57 c) → parts c ds ≢ ds ∷ [] → gtid_number ds ≡ None
gtid_number-parted c ds outside parted =
    elim (is_number ds) as (λ b. is_number ds ≡ b → gtid_number ds ≡ None) [
      | true ↦ λ is. absurd (parted (parts-none c ds (digits-lack ds c (is_number-digits ds is) outside)))
      | false ↦ λ is. rw is refl
    ] refl

pub no_digit_hyphen : ¬ (IsInRange 48 57 hyphen)
no_digit_hyphen h = absurd (omega arith)

-- an interval of two numbers
abbrev pub between : Source → Option ℕ → Option ℕ → Option Interval
between source None last = None
between source (Some first) None = None
between source (Some first) (Some last) = cond (nat_le first last) (Some (record { source = source; first = first; last = last })) None

pub between-none : (source : Source) (first : Option ℕ) → between source first None ≡ None
between-none source None = refl
between-none source (Some first) = refl

between-is : (source : Source) (a b : Option ℕ)
    → (a >>= (λ first. b >>= (λ last. cond (nat_le first last) (Some (record { source = source; first = first; last = last })) None))) ≡ between source a b
between-is source (Some first) None = refl
between-is source a b = refl

interval_of-two : (source : Source) (n m : List ℕ) → interval_of source (n ∷ m ∷ []) ≡ between source (gtid_number n) (gtid_number m)
interval_of-two source n m = between-is source (gtid_number n) (gtid_number m)

pub interval_of-cut : (source : Source) (n m : List ℕ) → interval_of source (n ∷ parts hyphen m) ≡ between source (gtid_number n) (gtid_number m)
interval_of-cut source n m =
    elim (parts hyphen m) as (λ ps. parts hyphen m ≡ ps → interval_of source (n ∷ ps) ≡ between source (gtid_number n) (gtid_number m)) [
      | [] ↦ λ is. absurd (omega (arith, length-slice_split (λ b. b == hyphen) m, ap length is))
      | ◌∷◌ p rest ↦ λ is. elim rest as (λ r. parts hyphen m ≡ p ∷ r → interval_of source (n ∷ p ∷ r) ≡ between source (gtid_number n) (gtid_number m)) [
        | [] ↦ λ one. let same : m ≡ p = sym (join-parts hyphen m) ∙ ap (join_with_byte hyphen) one in interval_of-two source n p ∙ ap (λ x. between source (gtid_number n) (gtid_number x)) (sym same)
        | ◌∷◌ q more ↦ λ many.
            sym (ap (between source (gtid_number n)) (gtid_number-parted hyphen m no_digit_hyphen (λ one. let e = sym one ∙ many in cc)) ∙ between-none source (gtid_number n))
      ] is
    ] refl

-- what two numbers round a hyphen read as
pub interval_of-read : (source : Source) (text n m : List ℕ) (a b : Option ℕ) → parts hyphen text ≡ n ∷ parts hyphen m
    → a ≡ gtid_number n → b ≡ gtid_number m → between source a b ≡ interval_of source (parts hyphen text)
interval_of-read source text n m a b cut first last =
    ap (λ x. between source x b) first ∙ ap (between source (gtid_number n)) last ∙ sym (ap (interval_of source) cut ∙ interval_of-cut source n m)

pub between-rising : (source : Source) (first last : ℕ) → first ≤ last → between source (Some first) (Some last) ≡ Some (record { source = source; first = first; last = last })
between-rising source first last rising = grind (arith, nat_tests)

pub between-falling : (source : Source) (first last : ℕ) → last < first → None ≡ between source (Some first) (Some last)
between-falling source first last falling = grind (arith, nat_tests)

-- a text of 36 characters without a reading is no source
pub source_of-none : (text : List ℕ) → length text ≡ 36 → ((uuid : List ℕ) → parsed text ≡ Some uuid → ⊥) → None ≡ source_of text
source_of-none text len unread =
    let same : parsed text ≡ parsed_hyphenated text = rw len refl in
    elim (parsed_hyphenated text) as (λ o. parsed_hyphenated text ≡ o → None ≡ option_map source_number o) [
      | None ↦ λ is. refl
      | Some uuid ↦ λ is. absurd (unread uuid (same ∙ is))
    ] refl
