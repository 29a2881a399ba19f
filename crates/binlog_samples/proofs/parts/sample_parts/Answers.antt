use Rattle.std.proofs.Common.{◌≡◌, ◌+◌, ℕ, List, [], ◌∷◌, ◌++◌, Bool, length, length-append, refl, sym, ap, ◌∙◌, subst, inl, inr, arith}
use Rattle.binlog_feed.specs.Changes.{RowChange}
use Rattle.binlog_feed.specs.ChangeMachine.{RemainingChanges}
use Rattle.binlog_feed.specs.Continues.{in_files}
use Rattle.binlog_feed.specs.Feeds.{feed}
use Rattle.binlog_units.specs.Parsing.{LogFile}
use Rattle.binlog_feed.specs.declared.start.Start.{Start}
use Rattle.binlog_feed.specs.declared.start.Start.TheVariants.{Beginning}
use Rattle.binlogfeed.specs.Looks.{AreParts, BeginsFollowing, Look, files_at}
use Rattle.binlog_samples.specs.Following.{all, both_files, given, look_at, one_file}
use Rattle.binlog_samples.proofs.OnBytes.{on_bytes}
use Rattle.binlog_samples.proofs.parts.sample_parts.Goals as goal

-- the newest part, behind what was given before, is as long as the newest feed
newest_long : (passes : RowChange → Bool) (start : Start) (first : List RowChange) (newest before : Look) (older : List Look) (part : List RowChange) (earlier : List (List RowChange))
    → AreParts passes start first newest (before ∷ older) (part ∷ earlier)
    → length (in_files (files_at newest) (feed (files_at before) passes)) + length part ≡ length (feed (files_at newest) passes)
newest_long passes start first newest before older part earlier (found, more, is, joins, rest) =
    let same : part ≡ found = cc in
    let joined = subst (λ (changes : List RowChange). in_files (files_at newest) (feed (files_at before) passes) ++ changes ≡ feed (files_at newest) passes) (sym same) joins in
    sym (length-append (in_files (files_at newest) (feed (files_at before) passes)) part) ∙ ap length joined

pub returns-clause-parts_of_two : goal.returns-clause-parts_of_two
unfolding on_bytes
returns-clause-parts_of_two c = (
  (_, given one_file ∷ [], refl, refl, ((_, inl (refl, refl), refl), refl)),
  (λ parts. let n : 1 + 0 ≡ 2 = newest_long all Beginning (given one_file) (look_at both_files) (look_at one_file) [] [] (given one_file ∷ []) parts in omega (arith, n)),
  (λ parts. let n : 1 + 2 ≡ 2 = newest_long all Beginning (given one_file) (look_at both_files) (look_at one_file) [] (given both_files) (given one_file ∷ []) parts in omega (arith, n)),
)

-- from the beginning all is to come
all_to_come : (files : List LogFile) (passes : RowChange → Bool) (remaining : RemainingChanges) → BeginsFollowing files passes Beginning remaining → remaining.changes ≡ feed files passes
all_to_come files passes remaining (inl (fits, is)) = ap (λ (r : RemainingChanges). r.changes) is
all_to_come files passes remaining (inr never) = absurd never

first_is_all : (passes : RowChange → Bool) (first : List RowChange) (newest : Look) (parts : List (List RowChange)) → AreParts passes Beginning first newest [] parts
    → (first ≡ feed (files_at newest) passes) × (parts ≡ first ∷ [])
first_is_all passes first newest parts ((remaining, begins, is), only) = (is ∙ all_to_come (files_at newest) passes remaining begins, only)

abbrev newest_length : List (List RowChange) → ℕ
newest_length [] = 0
newest_length (part ∷ more) = length part

pub returns-clause-part_of_first : goal.returns-clause-part_of_first
unfolding on_bytes
returns-clause-part_of_first c = (
  ((_, inl (refl, refl), refl), refl),
  (λ parts. let n : 0 ≡ 1 = ap (λ (changes : List RowChange). length changes) (first_is_all all [] (look_at one_file) ([] ∷ []) parts).0 in omega (arith, n)),
  (λ parts. let n : 0 ≡ 1 = ap newest_length (first_is_all all (given one_file) (look_at one_file) ([] ∷ []) parts).1 in omega (arith, n)),
)

-- two looks give two parts
two_parts : (passes : RowChange → Bool) (first : List RowChange) (newest before : Look) (parts : List (List RowChange)) → AreParts passes Beginning first newest (before ∷ []) parts → length parts ≡ 2
two_parts passes first newest before parts (part, earlier, is, joins, rest) = ap length is ∙ ap (λ (more : List (List RowChange)). length (part ∷ more)) (first_is_all passes first before earlier rest).1

pub returns-clause-parts_counted : goal.returns-clause-parts_counted
returns-clause-parts_counted c = (
  (λ parts. let n = ap length (first_is_all all (given one_file) (look_at one_file) (given one_file ∷ [] ∷ []) parts).1 in omega (arith, n)),
  (λ parts. let n = ap length (first_is_all all (given one_file) (look_at one_file) [] parts).1 in omega (arith, n)),
  (λ parts. let n = two_parts all (given one_file) (look_at both_files) (look_at one_file) (given both_files ∷ []) parts in omega (arith, n)),
)
