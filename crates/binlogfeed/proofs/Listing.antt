-- The words of a list, and the kinds that they name.
use Rattle.std.proofs.Common.{◌≡◌, ◌≢◌, ℕ, suc, ◌+◌, ◌<◌, ◌==◌, true, false, refl, List, [], ◌∷◌, ◌++◌, All, Some, None, map, take, drop, length, get_or, sym, ap, ap₂, subst, ◌∙◌, take-append-drop, drop-cons, String, Global}
use Rattle.std.proofs.lemmas.Bool.{eqb-true, eqb-false}
use Rattle.std.proofs.lemmas.List.{map-append, nil_from_length, take_more}
use Rattle.std.proofs.lemmas.List.Elements.{All-push}
use Rattle.std.specs.Prelude.{string_bytes}
use Rattle.std.specs.Borrow.{Bor}
use Rattle.clap.specs.Words.{Text}
use Rattle.binlog_select.specs.declared.kind.ChangeKind.{ChangeKind}
use Rattle.binlog_json.specs.Line.{kind_text}
use Rattle.binlog_profile.specs.declared.profile.Profile.{Profile}
use Rattle.binlogfeed.specs.Options.{words_in, gives, AreNames, IsKindOf, IsFirstBadWord}
use Rattle.binlogfeed.specs.Words.{texts}

-- the words at a place and around it
texts_around : (items : List (Bor Text)) (at : ℕ) (none : Bor Text) → at < length items
    → texts items ≡ texts (take at items) ++ (get_or items at none).now ∷ texts (drop (suc at) items)
texts_around items at none within =
    ap texts (sym (take-append-drop at items)) ∙ map-append (λ word. word.now) (take at items) (drop at items)
    ∙ ap (λ rest. texts (take at items) ++ texts rest) (drop-cons items at none within)

texts_more : (items : List (Bor Text)) (at : ℕ) (none : Bor Text) → at < length items → texts (take (at + 1) items) ≡ texts (take at items) ++ (get_or items at none).now ∷ []
texts_more items at none within = ap texts (take_more items at none within) ∙ map-append (λ word. word.now) (take at items) (get_or items at none ∷ [])

-- one word more, and its kind
kind_more : (items : List (Bor Text)) (at : ℕ) (none : Bor Text) (kinds more : List ChangeKind) (kind : ChangeKind) → at < length items
    → texts (take at items) ≡ map kind_text kinds → (get_or items at none).now ≡ kind_text kind → more ≡ kinds ++ kind ∷ [] → texts (take (at + 1) items) ≡ map kind_text more
kind_more items at none kinds more kind within before is longer =
    texts_more items at none within ∙ ap₂ (λ front last. front ++ last ∷ []) before is
    ∙ sym (ap (map kind_text) longer ∙ map-append kind_text kinds (kind ∷ []))

given_more : (profile : Profile) (kinds more : List ChangeKind) (kind : ChangeKind) → All (λ one. gives profile one ≡ true) kinds → gives profile kind ≡ true → more ≡ kinds ++ kind ∷ [] → All (λ one. gives profile one ≡ true) more
given_more profile kinds more kind before is longer =
    subst (All (λ one. gives profile one ≡ true)) (sym longer) (All-push (λ one. gives profile one ≡ true) kinds kind before is)

pub kinds_more : (profile : Profile) (items : List (Bor Text)) (at : ℕ) (none : Bor Text) (kinds more : List ChangeKind) (kind : ChangeKind) → at < length items
    → AreNames profile (texts (take at items)) kinds → IsKindOf profile (get_or items at none).now (Some kind) → more ≡ kinds ++ kind ∷ [] → AreNames profile (texts (take (at + 1) items)) more
kinds_more profile items at none kinds more kind within before is longer = record {
  names = kind_more items at none kinds more kind within before.names is.0 longer;
  given = given_more profile kinds more kind before.given is.1 longer;
}

-- one word more, and its text
pub names_more : (items : List (Bor Text)) (at : ℕ) (none : Bor Text) (names more : List (String Global)) (name : String Global) → at < length items
    → map string_bytes names ≡ texts (take at items) → string_bytes name ≡ (get_or items at none).now → more ≡ names ++ name ∷ [] → map string_bytes more ≡ texts (take (at + 1) items)
names_more items at none names more name within before is longer =
    ap (map string_bytes) longer ∙ map-append string_bytes names (name ∷ []) ∙ ap₂ (λ front last. front ++ last ∷ []) before is
    ∙ sym (texts_more items at none within)

-- a word that names no kind, behind words that do
pub first_bad_word : (profile : Profile) (list : Text) (items : List (Bor Text)) (at : ℕ) (none : Bor Text) (kinds : List ChangeKind) (word : Text)
    → texts items ≡ words_in list → AreNames profile (texts (take at items)) kinds → at < length items
    → word ≡ (get_or items at none).now → IsKindOf profile (get_or items at none).now None → IsFirstBadWord profile list word
first_bad_word profile list items at none kinds word whole before within same bad = record {
  kinds = kinds;
  behind = texts (drop (suc at) items);
  split = sym whole ∙ texts_around items at none within
      ∙ ap₂ (λ front middle. front ++ middle ∷ texts (drop (suc at) items)) before.names (sym same);
  given = before.given;
  bad = λ kind is e. bad kind is (sym same ∙ e);
}

-- ---- copies and loans of texts

-- one loan more
pub loans_more : (items : List (String Global)) (at : ℕ) (none : String Global) (loans more : List (Bor Text)) (word : Bor Text) → at < length items
    → texts loans ≡ map string_bytes (take at items) → word.now ≡ string_bytes (get_or items at none) → more ≡ loans ++ word ∷ [] → texts more ≡ map string_bytes (take (at + 1) items)
loans_more items at none loans more word within before is longer =
    ap texts longer ∙ map-append (λ loan. loan.now) loans (word ∷ []) ∙ ap₂ (λ front last. front ++ last ∷ []) before is
    ∙ sym (ap (map string_bytes) (take_more items at none within) ∙ map-append string_bytes (take at items) (get_or items at none ∷ []))

-- by the length of a list
pub no_texts : (items : List (String Global)) (len : ℕ) → len ≡ length items → (len == 0) ≡ true → map string_bytes items ≡ []
no_texts [] len is test = refl
no_texts (item ∷ more) len is test = let none : length (item ∷ more) ≡ 0 = sym is ∙ eqb-true len 0 test in ap (map string_bytes) (nil_from_length (item ∷ more) none)

pub some_texts : (items : List (String Global)) (len : ℕ) → len ≡ length items → (len == 0) ≡ false → map string_bytes items ≢ []
some_texts [] len is test = λ e. eqb-false len 0 test is
some_texts (item ∷ more) len is test = λ e. cc

-- words of which there are some
pub some_words : (words : List (Bor Text)) → (length words == 0) ≡ false → texts words ≢ []
some_words [] test = λ e. eqb-false 0 0 test refl
some_words (word ∷ more) test = λ e. cc
