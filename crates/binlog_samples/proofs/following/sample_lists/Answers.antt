use Rattle.std.proofs.Common.{rules, ℕ, List, [], ◌∷◌, ◌≡◌, ◌<◌, zero, suc, length, refl, arith, inl, inr, subst}
use Rattle.std.specs.Prelude.{codes, ◌≢◌}
use Rattle.binlog_frame.specs.Files.{AreLastParts, IsLastPart}
use Rattle.binlog_units.specs.Units.{Each}
use Rattle.binlogfeed.specs.Lists.{IsPath}
use Rattle.binlogfeed.specs.Turns.{Turns}
use Rattle.binlogfeed.specs.Turns.Turns.{Waiting, Given, Blank, Again, Other}
use Rattle.binlog_samples.specs.Following.{a_path, b_path, a_names, b_names}
use Rattle.binlog_samples.proofs.Paths.{no_slash, first_of}
use Rattle.binlog_samples.proofs.following.sample_lists.Goals as goal

pub returns-clause-cut_lists : goal.returns-clause-cut_lists
returns-clause-cut_lists c = (
  record { paths = []; unfinished = []; each = tt; open_line = tt; parts = refl },
  record { paths = []; unfinished = codes "d/a"; each = tt; open_line = search rules; parts = refl },
  record { paths = a_path ∷ []; unfinished = b_path; each = search rules; open_line = search rules; parts = refl },
  record { paths = a_path ∷ []; unfinished = []; each = search rules; open_line = tt; parts = refl },
)

-- the last part of each of the two paths
a_part : AreLastParts (a_path ∷ []) a_names
a_part = (refl, first_of (λ i. IsLastPart _ _) (no_slash (codes "a") refl, inr (codes "d", refl)))

pub returns-clause-turns_of_files : goal.returns-clause-turns_of_files
returns-clause-turns_of_files c = (Given a_names (λ e. search rules) a_part, Again [] 0 (a_path ∷ []) (a_names ∷ []) a_names (Given a_names (λ e. search rules) a_part) (λ e. search rules) a_part)

b_part : AreLastParts (b_path ∷ []) b_names
b_part = (refl, first_of (λ i. IsLastPart _ _) (no_slash (codes "b") refl, inl refl))

pub returns-clause-turns_of_lists : goal.returns-clause-turns_of_lists
returns-clause-turns_of_lists c =
    let waiting = Waiting refl in
    let blank = Blank [] 0 waiting in
    let a_first = Other ([] ∷ []) 1 [] [] (a_path ∷ []) a_names blank (λ e. search rules) a_part in
    let a_again = Again _ 1 (a_path ∷ []) _ a_names a_first (λ e. search rules) a_part in
    let b_first = Other _ 1 (a_path ∷ []) _ (b_path ∷ []) b_names a_again (λ e. search rules) b_part in
    (Blank ([] ∷ []) 1 blank, Again _ 1 (b_path ∷ []) _ b_names b_first (λ e. search rules) b_part)

-- the second byte of that path is a line feed
pub returns-clause-two_lists : goal.returns-clause-two_lists
returns-clause-two_lists c bytes left paths looks lists is =
    let each = subst (Each (Each IsPath)) is lists.each in
    each.0.0.1.1.0 refl
