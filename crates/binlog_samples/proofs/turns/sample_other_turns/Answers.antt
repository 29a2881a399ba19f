use Rattle.std.proofs.Common.{rules, ◌≡◌, ℕ, suc, List, [], ◌∷◌, ◌++◌, length, drop, refl, sym, ap, subst, arith}
use Rattle.std.specs.Prelude.{◌≢◌, codes, slice_index}
use Rattle.std.specs.List.{flat_map}
use Rattle.clap.specs.Words.{Text}
use Rattle.binlog_frame.specs.Files.{AreLastParts}
use Rattle.binlog_units.specs.Units.{Each}
use Rattle.binlogfeed.specs.Lists.{HasNoLineFeed, IsPath, line_text}
use Rattle.binlogfeed.specs.Turns.{Turns}
use Rattle.binlogfeed.specs.Turns.Turns.{Waiting, Given, Blank, Again, Other}
use Rattle.binlog_samples.specs.Following.{a_path, b_path, a_names, b_names}
use Rattle.binlog_samples.proofs.Paths.{ends_so}
use Rattle.binlog_samples.proofs.turns.sample_other_turns.Goals as goal

-- ---- how many looks

-- behind no file and no blank, one list is looked at once
one_list : (lists : List (List Text)) (paths : List Text) (names : List (List ℕ)) → Turns [] lists 0 paths (names ∷ []) → length lists ≡ 1
one_list lists paths names (Given same some parts) = absurd (some refl)
one_list lists paths names (Again earlier blanks same looks known (Waiting e) some parts) = absurd (some refl)
one_list lists paths names (Other earlier blanks before looks list known (Waiting e) some parts) = refl

two_lists : (lists : List (List Text)) (paths : List Text) (first second : List (List ℕ)) → Turns [] lists 0 paths (first ∷ second ∷ []) → length lists ≡ 2
two_lists lists paths first second (Again earlier blanks same looks known turns some parts) = ap suc (one_list earlier same second turns)
two_lists lists paths first second (Other earlier blanks before looks list known turns some parts) = ap suc (one_list earlier before second turns)

-- without a look no list has a path, and no file was given
none_asked : (files : List Text) (lists : List (List Text)) (blanks : ℕ) (paths : List Text) → Turns files lists blanks paths [] → (files ≡ []) × (paths ≡ []) × (length lists ≡ blanks)
none_asked files lists blanks paths (Waiting e) = (e, refl, refl)
none_asked files lists blanks paths (Blank earlier before turns) = let (e, same, n) = none_asked files earlier before [] turns in (e, refl, ap suc n)

pub returns-clause-looks_missing : goal.returns-clause-looks_missing
returns-clause-looks_missing c = (
  (λ turns. let n = one_list ((b_path ∷ []) ∷ (a_path ∷ []) ∷ []) (b_path ∷ []) b_names turns in omega (arith, n)),
  (λ turns. let n = (none_asked [] ((a_path ∷ []) ∷ []) 0 (a_path ∷ []) turns).2 in omega (arith, n)),
  (λ turns. let none = (none_asked (a_path ∷ []) [] 0 (a_path ∷ []) turns).0 in cc),
  (λ turns. let none = (none_asked (a_path ∷ []) [] 0 [] turns).0 in cc),
)

pub returns-clause-looks_too_many : goal.returns-clause-looks_too_many
returns-clause-looks_too_many c = (
  (λ turns. let n = one_list [] [] [] turns in omega (arith, n)),
  (λ turns. let n = two_lists ((a_path ∷ []) ∷ []) (a_path ∷ []) a_names a_names turns in omega (arith, n)),
)

-- ---- at which files

-- the newest look is at the paths that are meant
newest_parts : (files : List Text) (lists : List (List Text)) (blanks : ℕ) (paths : List Text) (names : List (List ℕ)) (looks : List (List (List ℕ)))
    → Turns files lists blanks paths (names ∷ looks) → AreLastParts paths names
newest_parts files lists blanks paths names looks (Given same some parts) = parts
newest_parts files lists blanks paths names looks (Again earlier before same more known turns some parts) = parts
newest_parts files lists blanks paths names looks (Other earlier before meant more list known turns some parts) = parts

not_b : AreLastParts (a_path ∷ []) b_names → ⊥
not_b parts = let first = ap (λ (name : List ℕ). slice_index name 0) (ends_so a_path (codes "b") (parts.1 0 (omega arith))) in omega (arith, first)

-- the paths of the newest list are meant
list_meant : (list : List Text) (more : List (List Text)) (paths : List Text) (looks : List (List (List ℕ))) → Turns [] (list ∷ more) 0 paths looks → list ≢ [] → paths ≡ list
list_meant list more paths looks (Again earlier before same known names turns some parts) is = absurd (is refl)
list_meant list more paths looks (Other earlier before meant known same names turns some parts) is = refl

pub returns-clause-other_files : goal.returns-clause-other_files
returns-clause-other_files c = (
  (λ turns. not_b (newest_parts [] ((a_path ∷ []) ∷ []) 0 (a_path ∷ []) b_names [] turns)),
  (λ turns. not_b (newest_parts (a_path ∷ []) [] 0 (a_path ∷ []) b_names [] turns)),
  (λ turns. not_b (newest_parts [] ([] ∷ (a_path ∷ []) ∷ []) 0 (a_path ∷ []) b_names (a_names ∷ []) turns)),
  (λ turns.
      let same = list_meant (a_path ∷ []) [] (b_path ∷ []) (a_names ∷ []) turns (λ e. search rules) in
      let n = ap (λ (paths : List Text). length (slice_of paths)) same in
      omega (arith, n)),
  (λ turns.
      let same = list_meant (b_path ∷ []) ((a_path ∷ []) ∷ []) (a_path ∷ []) (a_names ∷ a_names ∷ []) turns (λ e. search rules) in
      let n = ap (λ (paths : List Text). length (slice_of paths)) same in
      omega (arith, n)),
)
  where
    -- the first path
    slice_of : List Text → Text
    slice_of [] = []
    slice_of (path ∷ more) = path

-- ---- blanks

-- an empty list behind another one, with a blank and a look: the other one is empty, too
one_blank : (list : List Text) (blanks : ℕ) (paths : List Text) (names : List (List ℕ)) → Turns [] ([] ∷ list ∷ []) (suc blanks) paths (names ∷ []) → ⊥
one_blank list blanks paths names (Again earlier before same looks known (Blank more left turns) some parts) = some refl
one_blank list blanks paths names (Other earlier before meant looks same known turns some parts) = some refl

-- where an empty list is the only one, nothing is looked at
only_empty : (paths : List Text) (names : List (List ℕ)) → Turns [] ([] ∷ []) 0 paths (names ∷ []) → ⊥
only_empty paths names (Again earlier before same looks known (Waiting e) some parts) = some refl
only_empty paths names (Other earlier before meant looks same known turns some parts) = some refl

-- a file that was given is looked at before an empty list, which asks for another look
given_twice : (file : Text) (blanks : ℕ) (paths : List Text) (names : List (List ℕ)) → Turns (file ∷ []) ([] ∷ []) blanks paths (names ∷ []) → ⊥
given_twice file blanks paths names (Again earlier before same looks known turns some parts) = let none = (none_asked (file ∷ []) [] blanks paths turns).0 in cc
given_twice file blanks paths names (Other earlier before meant looks same known turns some parts) = some refl

pub returns-clause-other_blanks : goal.returns-clause-other_blanks
returns-clause-other_blanks c = (
  (λ turns. one_blank (a_path ∷ []) 0 (a_path ∷ []) a_names turns),
  (λ turns. let n = (none_asked [] ([] ∷ []) 0 [] turns).2 in omega (arith, n)),
  (λ turns. only_empty [] [] turns),
  (λ turns. given_twice a_path 1 (a_path ∷ []) a_names turns),
)

-- ---- bytes with a list

-- an empty line, and whatever stands behind it
empty_line : (paths : List Text) (unfinished behind : List ℕ) → Each IsPath paths → HasNoLineFeed unfinished → 10 ∷ behind ≡ flat_map line_text paths ++ unfinished → ⊥
empty_line [] unfinished behind each none e = (subst HasNoLineFeed (sym e) none).0 refl
empty_line ([] ∷ more) unfinished behind each none e = each.0.0 refl
empty_line ((byte ∷ path) ∷ more) unfinished behind each none e = each.0.1.0 (sym (ap (λ (bytes : List ℕ). slice_index bytes 0) e))

-- a path of three bytes, and an empty line
a_list : (paths : List Text) (unfinished behind : List ℕ) → Each IsPath paths → HasNoLineFeed unfinished → codes "d/a" ++ 10 ∷ 10 ∷ behind ≡ flat_map line_text paths ++ unfinished → ⊥
a_list [] unfinished behind each none e = (subst HasNoLineFeed (sym e) none).1.1.1.0 refl
a_list ([] ∷ more) unfinished behind each none e = each.0.0 refl
a_list ((first ∷ []) ∷ more) unfinished behind each none e = let second = ap (λ (bytes : List ℕ). slice_index bytes 1) e in omega (arith, second)
a_list ((first ∷ second ∷ []) ∷ more) unfinished behind each none e = let third = ap (λ (bytes : List ℕ). slice_index bytes 2) e in omega (arith, third)
a_list ((first ∷ second ∷ third ∷ []) ∷ more) unfinished behind each none e = empty_line more unfinished behind each.1 none (ap (drop 4) e)
a_list ((first ∷ second ∷ third ∷ fourth ∷ path) ∷ more) unfinished behind each none e = each.0.1.1.1.1.0 (sym (ap (λ (bytes : List ℕ). slice_index bytes 3) e))

pub returns-clause-lists_stand_there : goal.returns-clause-lists_stand_there
returns-clause-lists_stand_there c = (
  (λ none. a_list none.paths none.unfinished [] none.each none.open_line none.parts),
  (λ none. a_list none.paths none.unfinished (codes "b") none.each none.open_line none.parts),
  (λ none. empty_line none.paths none.unfinished [] none.each none.open_line none.parts),
  (λ none. empty_line none.paths none.unfinished (codes "b") none.each none.open_line none.parts),
)
