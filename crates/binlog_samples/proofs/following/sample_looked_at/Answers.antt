use Rattle.std.proofs.Common.{rules, ◌≡◌, ◌≤◌, ℕ, List, [], ◌∷◌, ◌++◌, length, length-append, drop, refl, sym, ap, ◌∙◌, subst, inl, inr, arith}
use Rattle.std.specs.Prelude.{◌≢◌, codes, slice_index}
use Rattle.std.specs.List.{flat_map}
use Rattle.clap.specs.Words.{Text}
use Rattle.binlog_frame.specs.Files.{AreLastParts, IsLastPart}
use Rattle.binlog_units.specs.Units.{Each}
use Rattle.binlogfeed.specs.Lists.{HasNoLineFeed, IsPath, line_text, list_text}
use Rattle.binlogfeed.specs.Turns.{Turns, lists_text}
use Rattle.binlogfeed.specs.Turns.Turns.{Waiting, Given, Blank, Again, Other}
use Rattle.binlog_samples.specs.Following.{a_path, b_path, a_names}
use Rattle.binlog_samples.specs.FollowEnds.{bare_path}
use Rattle.binlog_samples.proofs.Paths.{no_slash, first_of, some_last_parts}
use Rattle.binlog_samples.proofs.following.sample_looked_at.Goals as goal

-- the last part of each of the paths of the first list
a_part : AreLastParts (a_path ∷ []) a_names
a_part = (refl, first_of (λ i. IsLastPart _ _) (no_slash (codes "a") refl, inr (codes "d", refl)))

a_turn : Turns [] ((a_path ∷ []) ∷ []) 0 (a_path ∷ []) (a_names ∷ [])
a_turn = Other [] 0 [] [] (a_path ∷ []) a_names (Waiting refl) (λ e. search rules) a_part

bare_part : IsLastPart bare_path []
bare_part = (no_slash [] refl, inr ([], refl))

pub returns-clause-next_is_refused : goal.returns-clause-next_is_refused
returns-clause-next_is_refused c = (
  b_path ∷ bare_path ∷ [],
  (omega arith, (refl, [], bare_part, refl), first_of _ (codes "b", (no_slash (codes "b") refl, inl refl), refl)),
  λ names parts. (
    [],
    record {
      lists = (b_path ∷ bare_path ∷ []) ∷ ((a_path ∷ []) ∷ []);
      each = search rules;
      parts = refl;
      turns = Other ((a_path ∷ []) ∷ []) 0 (a_path ∷ []) (a_names ∷ []) (b_path ∷ bare_path ∷ []) names a_turn (λ e. search rules) parts;
    },
  ),
)

-- ---- how many bytes lists have that were looked at

-- a list with a path has two bytes for it, and its empty line
list_long : (list : List Text) → Each IsPath list → list ≢ [] → 3 ≤ length (list_text list)
list_long [] each some = absurd (some refl)
list_long ([] ∷ more) each some = absurd (each.0.0 refl)
list_long ((byte ∷ path) ∷ more) each some =
    omega (arith, length-append (flat_map line_text ((byte ∷ path) ∷ more)) (10 ∷ []), length-append (line_text (byte ∷ path)) (flat_map line_text more), length-append (byte ∷ path) (10 ∷ []))

one_look : (lists : List (List Text)) (paths : List Text) (names : List (List ℕ)) → Turns [] lists 0 paths (names ∷ []) → Each (Each IsPath) lists → 3 ≤ length (lists_text lists)
one_look lists paths names (Given same some parts) each = absurd (some refl)
one_look lists paths names (Again earlier blanks same looks known (Waiting e) some parts) each = absurd (some refl)
one_look lists paths names (Other earlier blanks before looks list known turns some parts) each =
    omega (arith, length-append (lists_text earlier) (list_text list), list_long list each.0 some)

two_looks : (lists : List (List Text)) (paths : List Text) (first second : List (List ℕ)) → Turns [] lists 0 paths (first ∷ second ∷ []) → Each (Each IsPath) lists → 4 ≤ length (lists_text lists)
two_looks lists paths first second (Again earlier blanks same looks known turns some parts) each =
    omega (arith, length-append (lists_text earlier) (list_text []), one_look earlier same second turns each.1)
two_looks lists paths first second (Other earlier blanks before looks list known turns some parts) each =
    omega (arith, length-append (lists_text earlier) (list_text list), one_look earlier before second turns each.1, length-append (flat_map line_text list) (10 ∷ []))

pub returns-clause-looked_at_is_not_refused : goal.returns-clause-looked_at_is_not_refused
returns-clause-looked_at_is_not_refused c = (
  (
    bare_path ∷ [],
    (omega arith, (refl, [], bare_part, refl), λ k lt. absurd (omega (arith, lt))),
    λ names parts. (
      [],
      record {
        lists = (bare_path ∷ []) ∷ [];
        each = search rules;
        parts = refl;
        turns = Other [] 0 [] [] (bare_path ∷ []) names (Waiting refl) (λ e. search rules) parts;
      },
    ),
  ),
  λ refuses.
      let (names, parts) = some_last_parts refuses.0 in
      let (left, lists) = refuses.2 names parts in
      let long = two_looks lists.lists refuses.0 names ([] ∷ []) lists.turns lists.each in
      let n = ap length lists.parts in
      omega (arith, n, long, length-append (lists_text lists.lists) left),
)

pub returns-clause-all_lists_looked_at : goal.returns-clause-all_lists_looked_at
returns-clause-all_lists_looked_at c = (
  ([], ([], record { lists = []; each = tt; parts = refl; turns = Waiting refl }), record { paths = []; unfinished = []; each = tt; open_line = tt; parts = refl }),
  (
    [],
    ([], record { lists = [] ∷ []; each = (tt, tt); parts = refl; turns = Blank [] 0 (Waiting refl) }),
    record { paths = []; unfinished = []; each = tt; open_line = tt; parts = refl },
  ),
  (
    [],
    (a_path ∷ [], record { lists = []; each = tt; parts = refl; turns = Given a_names (λ e. search rules) a_part }),
    record { paths = []; unfinished = []; each = tt; open_line = tt; parts = refl },
  ),
  (
    codes "b" ++ 10 ∷ [],
    (
      a_path ∷ [],
      record {
        lists = [] ∷ ((a_path ∷ []) ∷ []);
        each = search rules;
        parts = refl;
        turns = Again ((a_path ∷ []) ∷ []) 0 (a_path ∷ []) (a_names ∷ []) a_names a_turn (λ e. search rules) a_part;
      },
    ),
    record { paths = b_path ∷ []; unfinished = []; each = search rules; open_line = tt; parts = refl },
  ),
)

-- ---- a list that is left

-- an empty line is a list
empty_line : (paths : List Text) (unfinished : List ℕ) → Each IsPath paths → HasNoLineFeed unfinished → 10 ∷ [] ≡ flat_map line_text paths ++ unfinished → ⊥
empty_line [] unfinished each none e = (subst HasNoLineFeed (sym e) none).0 refl
empty_line ([] ∷ more) unfinished each none e = each.0.0 refl
empty_line ((byte ∷ path) ∷ more) unfinished each none e = each.0.1.0 (sym (ap (λ (bytes : List ℕ). slice_index bytes 0) e))

one_line : (paths : List Text) (unfinished : List ℕ) → Each IsPath paths → HasNoLineFeed unfinished → 98 ∷ 10 ∷ 10 ∷ [] ≡ flat_map line_text paths ++ unfinished → ⊥
one_line [] unfinished each none e = (subst HasNoLineFeed (sym e) none).1.0 refl
one_line ([] ∷ more) unfinished each none e = each.0.0 refl
one_line ((byte ∷ []) ∷ more) unfinished each none e = empty_line more unfinished each.1 none (ap (drop 2) e)
one_line ((byte ∷ (next ∷ path)) ∷ more) unfinished each none e = each.0.1.1.0 (sym (ap (λ (bytes : List ℕ). slice_index bytes 1) e))

-- the files that were given are looked at before any list
only_given : (file : Text) (lists : List (List Text)) (paths : List Text) (names : List (List ℕ)) → Turns (file ∷ []) lists 0 paths (names ∷ []) → lists ≡ []
only_given file lists paths names (Given same some parts) = refl
only_given file lists paths names (Again earlier blanks same looks known (Waiting e) some parts) = absurd (some refl)
only_given file lists paths names (Other earlier blanks before looks list known (Waiting e) some parts) = absurd (cc)

none_given : (lists : List (List Text)) (paths : List Text) → Turns [] lists 0 paths [] → lists ≡ []
none_given lists paths (Waiting e) = refl

pub returns-clause-list_left : goal.returns-clause-list_left
returns-clause-list_left c = (
  (λ ends.
      let none = only_given a_path ends.1.1.lists ends.1.0 a_names ends.1.1.turns in
      let left = ends.1.1.parts ∙ ap (λ (lists : List (List Text)). lists_text lists ++ ends.0) none in
      empty_line ends.2.paths ends.2.unfinished ends.2.each ends.2.open_line (left ∙ ends.2.parts)),
  (λ ends.
      let none = none_given ends.1.1.lists ends.1.0 ends.1.1.turns in
      let left = ends.1.1.parts ∙ ap (λ (lists : List (List Text)). lists_text lists ++ ends.0) none in
      one_line ends.2.paths ends.2.unfinished ends.2.each ends.2.open_line (left ∙ ends.2.parts)),
)
