-- Texts that pieces are appended to, one behind another.
use Rattle.std.proofs.Common.{◌≡◌, ◌∙◌, ℕ, ◌+◌, ◌<◌, ◌≤◌, cond, eqb, true, List, [], ◌∷◌, ◌++◌, length, get_or, drop, decimal, Result, Ok, Err, is_ok, OnOk, OnErr, sym, ap, append_assoc, arith}
use Rattle.std.proofs.lemmas.Bool.{ne_eqb}
use Rattle.std.proofs.lemmas.Bool.Decides.{nat_tests}
use Rattle.std.proofs.lemmas.List.{append-nil, at_drop_all, at_drop_more}
use Rattle.binlog_select.specs.declared.interval.Interval.{Interval}
use Rattle.binlog_select.specs.SetForm.{interval_text, next_source, next_text, next_texts, source_text, tag_text}
use Rattle.binlog_select.specs.Tags.{rank, tag_bytes}
use Rattle.binlog_select.specs.declared.source.Source.{Source}
use Rattle.binlog_select.specs.SetText.{colon, comma, hyphen}
use Rattle.binlog_select.specs.Text.{BeginsWith}
use Rattle.binlog_select.specs.Token.{token_text, dot, at_sign}

pub OnErr-from : {T E P : Type 0} (r : Result T E) → P → OnErr r P
OnErr-from (Ok x) p = tt
OnErr-from (Err y) p = p

pub BeginsWith-same : (text front : List ℕ) → text ≡ front → BeginsWith text front
BeginsWith-same text front is = record { rest = []; is = is ∙ sym (append-nil front) }

pub BeginsWith-more : (front piece text more : List ℕ) → BeginsWith text front → more ≡ text ++ piece → BeginsWith more front
BeginsWith-more front piece text more begins is =
    record { rest = begins.rest ++ piece; is = is ∙ ap (λ t. t ++ piece) begins.is ∙ append_assoc front begins.rest piece }

pub BeginsWith-trans : (front text more : List ℕ) → BeginsWith text front → BeginsWith more text → BeginsWith more front
BeginsWith-trans front text more begins also = BeginsWith-more front also.rest text more begins also.is

-- two pieces, one behind the other, are appended as one
pub two_pieces : (text a b one two : List ℕ) → one ≡ text ++ a → two ≡ one ++ b → two ≡ text ++ (a ++ b)
two_pieces text a b one two first second = second ∙ ap (λ t. t ++ b) first ∙ append_assoc text a b

-- what a call that appends a text says of its outcome
pub OnOk-appended : {T E : Type 0} (r : Result T E) (old piece new : List ℕ) → new ≡ cond (is_ok r) (old ++ piece) old → OnOk r (new ≡ old ++ piece)
OnOk-appended (Ok x) old piece new is = is
OnOk-appended (Err y) old piece new is = tt

pub OnErr-kept : {T E : Type 0} (r : Result T E) (old piece new : List ℕ) → new ≡ cond (is_ok r) (old ++ piece) old → OnErr r (new ≡ old)
OnErr-kept (Ok x) old piece new is = tt
OnErr-kept (Err y) old piece new is = is

-- a text begins with what it held before one piece, or more, were appended
pub begins_1 : (front one text a : List ℕ) → one ≡ front ++ a → text ≡ one → BeginsWith text front
begins_1 front one text a first is = record { rest = a; is = is ∙ first }

pub begins_2 : (front one two text a b : List ℕ) → one ≡ front ++ a → two ≡ one ++ b → text ≡ two → BeginsWith text front
begins_2 front one two text a b first second = begins_1 front two text (a ++ b) (two_pieces front a b one two first second)

pub begins_3 : (front one two three text a b d : List ℕ) → one ≡ front ++ a → two ≡ one ++ b → three ≡ two ++ d → text ≡ three → BeginsWith text front
begins_3 front one two three text a b d first second = begins_2 front two three text (a ++ b) d (two_pieces front a b one two first second)

pub begins_4 : (front one two three four text a b d e : List ℕ) → one ≡ front ++ a → two ≡ one ++ b → three ≡ two ++ d → four ≡ three ++ e → text ≡ four → BeginsWith text front
begins_4 front one two three four text a b d e first second = begins_3 front two three four text (a ++ b) d e (two_pieces front a b one two first second)

eqb-same : (a b : ℕ) → a ≡ b → eqb a b ≡ true
eqb-same a b same = grind (arith, nat_tests)

pub one_number : (i : Interval) (text one two : List ℕ) → i.first ≡ i.last → one ≡ text ++ (colon ∷ []) → two ≡ one ++ decimal i.first → two ≡ text ++ colon ∷ interval_text i
one_number i text one two same first second =
    two_pieces text (colon ∷ []) (decimal i.first) one two first second
    ∙ ap (λ b. text ++ colon ∷ cond b (decimal i.first) (decimal i.first ++ hyphen ∷ decimal i.last)) (sym (eqb-same i.first i.last same))

pub more_numbers : (i : Interval) (text one two three four : List ℕ) → (i.first ≡ i.last → ⊥) → one ≡ text ++ (colon ∷ []) → two ≡ one ++ decimal i.first
    → three ≡ two ++ (hyphen ∷ []) → four ≡ three ++ decimal i.last → four ≡ text ++ colon ∷ interval_text i
more_numbers i text one two three four differ first second third fourth =
    two_pieces text (colon ∷ decimal i.first) (hyphen ∷ decimal i.last) two four
    (two_pieces text (colon ∷ []) (decimal i.first) one two first second) (two_pieces two (hyphen ∷ []) (decimal i.last) three four third fourth)
    ∙ ap (λ b. text ++ colon ∷ cond b (decimal i.first) (decimal i.first ++ hyphen ∷ decimal i.last)) (sym (ne_eqb i.first i.last differ))

-- a source's tag: none, or a colon and its two numbers' bytes
pub tag_none : (source : Source) → source.high ≡ 0 → tag_text source ≡ []
tag_none source none = ap (λ b. cond b [] (colon ∷ tag_bytes source.high ++ tag_bytes source.low)) (eqb-same source.high 0 none)

pub tag_some : (source : Source) → (source.high ≡ 0 → ⊥) → tag_text source ≡ colon ∷ tag_bytes source.high ++ tag_bytes source.low
tag_some source some = ap (λ b. cond b [] (colon ∷ tag_bytes source.high ++ tag_bytes source.low)) (ne_eqb source.high 0 some)

pub tag_written : (source : Source) (text one two three : List ℕ) → (source.high ≡ 0 → ⊥) → one ≡ text ++ (colon ∷ []) → two ≡ one ++ tag_bytes source.high
    → three ≡ two ++ tag_bytes source.low → three ≡ text ++ tag_text source
tag_written source text one two three some first second third =
    two_pieces text (colon ∷ []) (tag_bytes source.high ++ tag_bytes source.low) one three first (two_pieces one (tag_bytes source.high) (tag_bytes source.low) two three second third)
    ∙ ap (λ t. text ++ t) (sym (tag_some source some))

-- what names a source behind the same one, one of the same server, and another one
pub source_same : (source next : Source) → rank next ≡ rank source → next_source source next ≡ []
source_same source next same =
    ap (λ b. cond b [] (cond (eqb next.server source.server) [] (comma ∷ source_text next.server) ++ tag_text next)) (eqb-same (rank next) (rank source) same)

pub source_tag : (source next : Source) → (rank next ≡ rank source → ⊥) → next.server ≡ source.server → next_source source next ≡ tag_text next
source_tag source next differ same =
    ap (λ b. cond b [] (cond (eqb next.server source.server) [] (comma ∷ source_text next.server) ++ tag_text next)) (ne_eqb (rank next) (rank source) differ)
    ∙ ap (λ b. cond b [] (comma ∷ source_text next.server) ++ tag_text next) (eqb-same next.server source.server same)

pub source_other : (source next : Source) → (rank next ≡ rank source → ⊥) → (next.server ≡ source.server → ⊥)
    → next_source source next ≡ (comma ∷ source_text next.server) ++ tag_text next
source_other source next differ other =
    ap (λ b. cond b [] (cond (eqb next.server source.server) [] (comma ∷ source_text next.server) ++ tag_text next)) (ne_eqb (rank next) (rank source) differ)
    ∙ ap (λ b. cond b [] (comma ∷ source_text next.server) ++ tag_text next) (ne_eqb next.server source.server other)

pub other_written : (source next : Source) (text one two here more : List ℕ) → (rank next ≡ rank source → ⊥) → (next.server ≡ source.server → ⊥) → one ≡ text ++ (comma ∷ [])
    → two ≡ one ++ source_text next.server → here ≡ two → more ≡ here ++ tag_text next → more ≡ text ++ next_source source next
other_written source next text one two here more differ other first second is appends =
    two_pieces text (comma ∷ source_text next.server) (tag_text next) here more
    (is ∙ two_pieces text (comma ∷ []) (source_text next.server) one two first second) appends
    ∙ ap (λ t. text ++ t) (sym (source_other source next differ other))

pub tag_behind : (source next : Source) (text here more : List ℕ) → (rank next ≡ rank source → ⊥) → next.server ≡ source.server → here ≡ text → more ≡ here ++ tag_text next
    → more ≡ text ++ next_source source next
tag_behind source next text here more differ same is appends =
    appends ∙ ap (λ t. t ++ tag_text next) is ∙ ap (λ t. text ++ t) (sym (source_tag source next differ same))

-- the last interval is appended
pub next_texts-all : (source : Source) (rest : List Interval) (at : ℕ) (text whole : List ℕ) → length rest ≤ at → text ++ next_texts source (drop at rest) ≡ whole → text ≡ whole
next_texts-all source rest at text whole past is = sym (append-nil text) ∙ ap (λ t. text ++ t) (sym (at_drop_all (next_texts source) rest at past)) ∙ is

-- one interval more is appended
pub next_texts-more : (source : Source) (rest : List Interval) (at : ℕ) (d : Interval) (text more : List ℕ) → at < length rest → more ≡ text ++ next_text source (get_or rest at d)
    → more ++ next_texts (get_or rest at d).source (drop (at + 1) rest) ≡ text ++ next_texts source (drop at rest)
next_texts-more source rest at d text more below appends =
    let left = next_texts (get_or rest at d).source (drop (at + 1) rest) in
    ap (λ t. t ++ left) appends ∙ append_assoc text (next_text source (get_or rest at d)) left
    ∙ ap (λ t. text ++ t) (sym (at_drop_more (next_texts source) rest at d below))

pub token_pieces : (position count : ℕ) (file text one two three four five : List ℕ) → one ≡ text ++ decimal position → two ≡ one ++ (dot ∷ []) → three ≡ two ++ decimal count
    → four ≡ three ++ (at_sign ∷ []) → five ≡ four ++ file → five ≡ text ++ token_text position count file
token_pieces position count file text one two three four five first second third fourth fifth =
    two_pieces text (decimal position ++ dot ∷ decimal count) (at_sign ∷ file) three five
    (two_pieces text (decimal position) (dot ∷ decimal count) one three first (two_pieces one (dot ∷ []) (decimal count) two three second third))
    (two_pieces three (at_sign ∷ []) file four five fourth fifth)
