-- Lines of an input, and lists of them.
use Rattle.std.proofs.Common.{◌≡◌, ◌≢◌, ℕ, List, [], ◌∷◌, ◌++◌, ◌+◌, append_assoc, length, Bool, true, false, if◌then◌else◌, ◌==◌, nat_eq, Option, Some, None, refl, sym, ap, ◌∙◌, subst}
use Rattle.std.specs.List.{flat_map}
use Rattle.std.specs.Option.{option_eq, option_to_list}
use Rattle.std.specs.Prelude.{IfSome, MatchOption}
use Rattle.std.proofs.lemmas.List.{append-nil, nil_from_length}
use Rattle.std.specs.Io.BufRead.{take_through, drop_through, DropsThrough}
use Rattle.std.proofs.lemmas.Bool.{eqb-true, eqb-false}
use Rattle.std.proofs.lemmas.List.Concat.{flat_map-append}
use Rattle.clap.specs.Words.{Text}
use Rattle.binlog_units.specs.Units.{Each}
use Rattle.binlog_units.proofs.Lists.{each_append}
use Rattle.binlogfeed.specs.Lists.{HasNoLineFeed, IsPath, ReadsLine, ReadsList, line_text}

-- ---- a line of bytes

parts_by : (b : Bool) (x : ℕ) (xs through behind : List ℕ) → through ++ behind ≡ xs → (if b then x ∷ [] else x ∷ through) ++ (if b then xs else behind) ≡ x ∷ xs
parts_by true x xs through behind e = refl
parts_by false x xs through behind e = ap (λ (l : List ℕ). x ∷ l) e

through_parts : (xs : List ℕ) → take_through 10 xs ++ drop_through 10 xs ≡ xs
through_parts [] = refl
through_parts (x ∷ xs) = parts_by (x == 10) x xs (take_through 10 xs) (drop_through 10 xs) (through_parts xs)

-- a line feed stands at the end of what was taken, and nowhere before that
none_behind : (x : ℕ) (front : List ℕ) → x ∷ [] ≡ front ++ 10 ∷ [] → HasNoLineFeed front
none_behind x [] e = tt
none_behind x (y ∷ []) e = cc
none_behind x (y ∷ (z ∷ more)) e = cc

ended_by : (b : Bool) (x : ℕ) (through front : List ℕ) → (x == 10) ≡ b → ((front : List ℕ) → through ≡ front ++ 10 ∷ [] → HasNoLineFeed front)
    → (if b then x ∷ [] else x ∷ through) ≡ front ++ 10 ∷ [] → HasNoLineFeed front
ended_by true x through front test later e = none_behind x front e
ended_by false x through [] test later e = tt
ended_by false x through (y ∷ more) test later e =
    let same : x ≡ y = cc in
    let rest : through ≡ more ++ 10 ∷ [] = cc in
    (subst (λ (n : ℕ). n ≢ 10) same (eqb-false x 10 test), later more rest)

line_ended : (xs front : List ℕ) → take_through 10 xs ≡ front ++ 10 ∷ [] → HasNoLineFeed front
line_ended [] [] e = tt
line_ended [] (y ∷ more) e = cc
line_ended (x ∷ xs) front e = ended_by (x == 10) x (take_through 10 xs) front refl (line_ended xs) e

-- where something else stands there, or nothing, no line feed is ahead
taken_by : (b : Bool) (x : ℕ) (xs through : List ℕ) → (if b then x ∷ [] else x ∷ through) ≡ [] → x ∷ xs ≡ []
taken_by true x xs through e = cc
taken_by false x xs through e = cc

none_taken : (xs : List ℕ) → take_through 10 xs ≡ [] → xs ≡ []
none_taken [] e = refl
none_taken (x ∷ xs) e = taken_by (x == 10) x xs (take_through 10 xs) e

unended_by : (b : Bool) (x : ℕ) (xs through front : List ℕ) (last : ℕ) → (x == 10) ≡ b → last ≢ 10 → (through ≡ [] → xs ≡ []) → ((front : List ℕ) → through ≡ front ++ last ∷ [] → HasNoLineFeed xs)
    → (if b then x ∷ [] else x ∷ through) ≡ front ++ last ∷ [] → HasNoLineFeed (x ∷ xs)
unended_by true x xs through [] last test other none later e = let same : last ≡ x = cc in absurd (other (same ∙ eqb-true x 10 test))
unended_by true x xs through (y ∷ []) last test other none later e = absurd (cc)
unended_by true x xs through (y ∷ (z ∷ more)) last test other none later e = absurd (cc)
unended_by false x xs through [] last test other none later e =
    let nothing : through ≡ [] = cc in
    (eqb-false x 10 test, subst HasNoLineFeed (sym (none nothing)) tt)
unended_by false x xs through (y ∷ more) last test other none later e =
    let rest : through ≡ more ++ last ∷ [] = cc in
    (eqb-false x 10 test, later more rest)

line_unended : (xs front : List ℕ) (last : ℕ) → last ≢ 10 → take_through 10 xs ≡ front ++ last ∷ [] → HasNoLineFeed xs
line_unended [] [] last other e = tt
line_unended [] (y ∷ more) last other e = tt
line_unended (x ∷ xs) front last other e = unended_by (x == 10) x xs (take_through 10 xs) front last refl other (none_taken xs) (λ f. line_unended xs f last other) e

-- ---- a line of a reader

abbrev Taken : Option (List ℕ) → List ℕ → List ℕ → Type 0
Taken old none taken = IfSome old (λ (bytes : List ℕ). taken ≡ none ++ take_through 10 bytes)

-- a byte, or none
is_line_feed : (last : Option ℕ) → option_eq nat_eq last (Some 10) ≡ true → last ≡ Some 10
is_line_feed None e = absurd (cc)
is_line_feed (Some byte) e = ap (λ (n : ℕ). Some n) (eqb-true byte 10 e)

pub reads_line : (old new : Option (List ℕ)) (none taken line : List ℕ) (last : Option ℕ) → none ≡ [] → Taken old none taken → DropsThrough old new 10 → taken ≡ line ++ option_to_list last
    → option_eq nat_eq last (Some 10) ≡ true → ReadsLine old new (Some line)
reads_line None new none taken line last empty t d e is = tt
reads_line (Some bytes) new none taken line last empty t d e is =
    let through : take_through 10 bytes ≡ line ++ 10 ∷ [] =
    ap (λ (l : List ℕ). l ++ take_through 10 bytes) (sym empty) ∙ sym t ∙ e ∙ ap (λ (o : Option ℕ). line ++ option_to_list o) (is_line_feed last is) in
    (drop_through 10 bytes, line_ended bytes line through, sym (ap (λ (l : List ℕ). l ++ drop_through 10 bytes) (sym through) ∙ through_parts bytes), d)

unended : (bytes front : List ℕ) (last : Option ℕ) → take_through 10 bytes ≡ front ++ option_to_list last → (last ≡ None → take_through 10 bytes ≡ []) → option_eq nat_eq last (Some 10) ≡ false → HasNoLineFeed bytes
unended bytes front None e none is = subst HasNoLineFeed (sym (none_taken bytes (none refl))) tt
unended bytes front (Some last) e none is = line_unended bytes front last (eqb-false last 10 is) e

pub reads_no_line : (old new : Option (List ℕ)) (none taken front : List ℕ) (last : Option ℕ) → none ≡ [] → Taken old none taken → taken ≡ front ++ option_to_list last → (last ≡ None → taken ≡ [])
    → option_eq nat_eq last (Some 10) ≡ false → ReadsLine old new None
reads_no_line None new none taken front last empty t e nothing is = tt
reads_no_line (Some bytes) new none taken front last empty t e nothing is =
    let through : take_through 10 bytes ≡ taken = ap (λ (l : List ℕ). l ++ take_through 10 bytes) (sym empty) ∙ sym t in
    unended bytes front last (through ∙ e) (λ h. through ∙ nothing h) is

-- nothing was popped of a list that is empty
pub none_popped : (len later : ℕ) (items : List ℕ) (last : Option ℕ) → len ≡ length items → MatchOption last ((len ≡ 0) × (later ≡ 0)) (λ _. later + 1 ≡ len) → last ≡ None → items ≡ []
none_popped len later items None is h e = nil_from_length items (sym is ∙ h.0)
none_popped len later items (Some byte) is h e = absurd (cc)

-- ---- lists of lines

-- of the bytes that are known these paths were read, and the list has no end yet
abbrev pub ReadsPaths : Option (List ℕ) → Option (List ℕ) → List Text → Type 0
ReadsPaths None later paths = Unit {0}
ReadsPaths (Some bytes) later paths = (left : List ℕ) × Each IsPath paths × (bytes ≡ flat_map line_text paths ++ left) × (later ≡ Some left)

-- a line more
text_more : (paths : List Text) (line left : List ℕ) → flat_map line_text paths ++ (line_text line ++ left) ≡ flat_map line_text (paths ++ line ∷ []) ++ left
text_more paths line left =
    sym (append_assoc (flat_map line_text paths) (line_text line) left)
    ∙ ap (λ (l : List ℕ). (flat_map line_text paths ++ l) ++ left) (sym (append-nil (line_text line)))
    ∙ ap (λ (l : List ℕ). l ++ left) (sym (flat_map-append line_text paths (line ∷ [])))

pub paths_more : (old mid new : Option (List ℕ)) (paths : List Text) (line : Text) → ReadsPaths old mid paths → ReadsLine mid new (Some line) → line ≢ [] → ReadsPaths old new (paths ++ line ∷ [])
paths_more None mid new paths line h read some = tt
paths_more (Some bytes) mid new paths line (left, each, parts, is) read some =
    let (behind, plain, split, now) = subst (λ (o : Option (List ℕ)). ReadsLine o new (Some line)) is read in
    (behind, each_append IsPath paths (line ∷ []) each ((some, plain), tt), parts ∙ ap (λ (l : List ℕ). flat_map line_text paths ++ l) split ∙ text_more paths line behind, now)

pub list_read : (old mid new : Option (List ℕ)) (paths : List Text) (line : Text) → ReadsPaths old mid paths → ReadsLine mid new (Some line) → line ≡ [] → ReadsList old new (Some paths)
list_read None mid new paths line h read e = tt
list_read (Some bytes) mid new paths line (left, each, parts, is) read e =
    let (behind, plain, split, now) = subst (λ (o : Option (List ℕ)). ReadsLine o new (Some line)) is read in
    let empty : left ≡ 10 ∷ behind = split ∙ ap (λ (l : List ℕ). line_text l ++ behind) e in
    (behind, record { paths = each; parts = parts ∙ ap (λ (l : List ℕ). flat_map line_text paths ++ l) empty ∙ sym (append_assoc (flat_map line_text paths) (10 ∷ []) behind) }, now)

-- a line that isn't empty, by its length
pub some_line : (len : ℕ) (line : Text) → len ≡ length line → (len == 0) ≡ false → line ≢ []
some_line len line is test e = eqb-false len 0 test (is ∙ ap (λ (l : List ℕ). length l) e)
