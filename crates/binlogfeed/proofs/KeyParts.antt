-- A key of the command line has no float.
use Rattle.std.proofs.Common.{◌≡◌, List, [], ◌∷◌, ℕ, suc, length, ◌==◌, Bool, true, false, true≢false, ◌&&◌, ◌||◌, Option, Some, None, String, BTreeMap, Global, codes, refl, sym, ap, ◌∙◌, subst, ◌⊎◌, inl, inr, arith}
use Rattle.std.proofs.lemmas.Bool.{ne_eqb, or_from, and_parts}
use Rattle.std.proofs.lemmas.Map.Lookups.{exact_bytes}
use Rattle.std.specs.Prelude.{option_and_then, is_some}
use Rattle.std.specs.Ordering.{match_ordering, nat_cmp}
use Rattle.std.specs.Cmp.Lexicographic.{slice_cmp}
use Rattle.std.specs.declared.cmp.Ordering.{Ordering}
use Rattle.std.specs.declared.cmp.Ordering.TheVariants.{Equal}
use Rattle.serde_json.specs.Data.{Data, number, string, array, object, float, Items, no_items, item, Members, no_members, member}
use Rattle.serde_json.specs.Events.{members_len}
use Rattle.serde_json.specs.Find.{as_str}
use Rattle.serde_json.specs.View.{view, members_view}
use Rattle.serde_json.specs.Written.{has_float, items_have_float, members_have_float}
use Rattle.serde_json.specs.declared.value.Value.{Value, Object}
use Rattle.serde_json.proofs.Views.{Entry, view-Object}
use Rattle.binlog_json.specs.declared.style.Style.{Style}
use Rattle.binlog_json.specs.declared.style.Style.TheVariants.{Plain, Full}
use Rattle.binlogfeed.specs.KeyWords.{has_text, is_coded, is_in_charset, is_key_object, is_key_part, are_key_parts, is_key}

either_true : (a b c : Bool) → (a || b) ≡ true → (a ≡ true → c ≡ false) → (b ≡ true → c ≡ false) → c ≡ false
either_true true b c h f g = f refl
either_true false b c h f g = g h

text_float : (d : Data) → is_some (as_str d) ≡ true → has_float d ≡ false
text_float (string s) h = refl
text_float other h = absurd cc

text_behind : (p : Ordering) (e : Data) → is_some (option_and_then as_str (match_ordering p None (Some e) None)) ≡ true → (p ≡ Equal) × (has_float e ≡ false)
text_behind Equal e h = (refl, text_float e h)
text_behind other e h = absurd cc

two_are_more : (n : ℕ) → (suc (suc n) == 1) ≡ true → ⊥
two_are_more n h = true≢false (sym h ∙ ne_eqb (suc (suc n)) 1 (λ e. omega (arith, e)))

three_are_more : (n : ℕ) → (suc (suc (suc n)) == 2) ≡ true → ⊥
three_are_more n h = true≢false (sym h ∙ ne_eqb (suc (suc (suc n))) 2 (λ e. omega (arith, e)))

coded_float : (ms : Members) → is_coded (members_len ms) (object ms) ≡ true → members_have_float ms ≡ false
coded_float no_members h = absurd cc
coded_float (member name d no_members) h =
    let alone = object (member name d no_members) in
    or_from (has_float d) false
    (either_true (has_text (codes "base64") alone) (has_text (codes "raw") alone) (has_float d) h
    (λ k. (text_behind (slice_cmp nat_cmp (codes "base64") name) d k).1) (λ k. (text_behind (slice_cmp nat_cmp (codes "raw") name) d k).1))
    refl
coded_float (member name d (member other e ms)) h = absurd (two_are_more (members_len ms) (and_parts (members_len (member name d (member other e ms)) == 1) _ h).0)

-- ---- two members

-- what is found of two members, by how the name compares with theirs
abbrev found_of : Ordering → Ordering → Data → Data → Option Data
found_of o p d e = match_ordering o (match_ordering p None (Some e) None) (Some d) (match_ordering p None (Some e) None)

-- a text that is found is the one or the other
text_at : (o p : Ordering) (d e : Data) → is_some (option_and_then as_str (found_of o p d e)) ≡ true → ((o ≡ Equal) × (has_float d ≡ false)) ⊎ ((p ≡ Equal) × (has_float e ≡ false))
text_at Equal p d e h = inl (refl, text_float d h)
text_at other p d e h = inr (text_behind p e h)

-- two that are found by different names are both
both_texts : (o p q r : Ordering) (d e : Data) → (o ≡ Equal → q ≡ Equal → ⊥) → (p ≡ Equal → r ≡ Equal → ⊥)
    → ((o ≡ Equal) × (has_float d ≡ false)) ⊎ ((p ≡ Equal) × (has_float e ≡ false)) → ((q ≡ Equal) × (has_float d ≡ false)) ⊎ ((r ≡ Equal) × (has_float e ≡ false))
    → (has_float d || (has_float e || false)) ≡ false
both_texts o p q r d e first second (inl (a, x)) (inl (b, y)) = absurd (first a b)
both_texts o p q r d e first second (inl (a, x)) (inr (b, y)) = or_from (has_float d) (has_float e || false) x (or_from (has_float e) false y refl)
both_texts o p q r d e first second (inr (a, y)) (inl (b, x)) = or_from (has_float d) (has_float e || false) x (or_from (has_float e) false y refl)
both_texts o p q r d e first second (inr (a, x)) (inr (b, y)) = absurd (second a b)

different_names : (name : List ℕ) → slice_cmp nat_cmp (codes "base64") name ≡ Equal → slice_cmp nat_cmp (codes "charset") name ≡ Equal → ⊥
different_names name h k =
    let same : codes "base64" ≡ codes "charset" = exact_bytes (codes "base64") name h ∙ sym (exact_bytes (codes "charset") name k) in
    let lengths : 6 ≡ 7 = ap length same in
    omega (arith, lengths)

in_charset_float : (ms : Members) → is_in_charset (members_len ms) (object ms) ≡ true → members_have_float ms ≡ false
in_charset_float no_members h = absurd cc
in_charset_float (member name d no_members) h = absurd cc
in_charset_float (member name d (member other e no_members)) h =
    let both = object (member name d (member other e no_members)) in
    let texts = and_parts (has_text (codes "base64") both) (has_text (codes "charset") both) h in
    let o = slice_cmp nat_cmp (codes "base64") name in
    let p = slice_cmp nat_cmp (codes "base64") other in
    let q = slice_cmp nat_cmp (codes "charset") name in
    let r = slice_cmp nat_cmp (codes "charset") other in
    both_texts o p q r d e (different_names name) (different_names other) (text_at o p d e texts.0) (text_at q r d e texts.1)
in_charset_float (member name d (member other e (member third f ms))) h =
    let all = object (member name d (member other e (member third f ms))) in
    let count = members_len (member name d (member other e (member third f ms))) == 2 in
    absurd (three_are_more (members_len ms) (and_parts count (has_text (codes "base64") all) (and_parts (count && has_text (codes "base64") all) (has_text (codes "charset") all) h).0).0)

object_float : (style : Style) (ms : Members) → is_key_object style (members_len ms) (object ms) ≡ true → members_have_float ms ≡ false
object_float Plain ms h = coded_float ms h
object_float Full ms h =
    either_true (is_coded (members_len ms) (object ms)) (is_in_charset (members_len ms) (object ms)) (members_have_float ms) h (coded_float ms) (in_charset_float ms)

part_float : (style : Style) (d : Data) → is_key_part style d ≡ true → has_float d ≡ false
part_float style (number (float x)) h = absurd cc
part_float style (array ds) h = absurd cc
part_float style (object ms) h = object_float style ms h
part_float style other h = refl

parts_float : (style : Style) (ds : Items) → are_key_parts style ds ≡ true → items_have_float ds ≡ false
parts_float style no_items h = refl
parts_float style (item d ds) h =
    let each = and_parts (is_key_part style d) (are_key_parts style ds) h in
    or_from (has_float d) (items_have_float ds) (part_float style d each.0) (parts_float style ds each.1)

pub key_float : (style : Style) (d : Data) → is_key style d ≡ true → has_float d ≡ false
key_float style (array ds) h = parts_float style ds h
key_float style other h = absurd cc

-- ---- an object, as the code looks at it

members_counted : (es : List Entry) → members_len (members_view es) ≡ length es
members_counted [] = refl
members_counted (e ∷ es) = ap suc (members_counted es)

pub object_part : (style : Style) (value : Value) (members : BTreeMap (String Global) Value) (len : ℕ) → value ≡ Object members → len ≡ length members.entries
    → is_key_part style (view value) ≡ is_key_object style len (view value)
object_part style value members len e n =
    let seen : view value ≡ object (members_view members.entries) = ap view e ∙ view-Object members in
    let counted : members_len (members_view members.entries) ≡ len = members_counted members.entries ∙ sym n in
    subst (λ (d : Data). is_key_part style d ≡ is_key_object style len d) (sym seen)
    (ap (λ (count : ℕ). is_key_object style count (object (members_view members.entries))) counted)
