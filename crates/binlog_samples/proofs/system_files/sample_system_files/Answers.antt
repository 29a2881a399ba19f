use Rattle.std.proofs.Common.{◌≡◌, ◌<◌, ◌+◌, ℕ, zero, suc, List, [], ◌∷◌, length, refl, sym, ap, arith, inl, inr}
use Rattle.std.specs.Prelude.{codes, get_or, slice_index}
use Rattle.binlog_frame.specs.Files.{IsLastPart}
use Rattle.binlog_frame.specs.Honesty.{Agrees}
use Rattle.binlog_frame.specs.Logs.{item_at}
use Rattle.binlog_samples.specs.Sources.{read_of}
use Rattle.binlog_samples.specs.SystemFiles.{both_paths}
use Rattle.binlog_samples.proofs.Paths.{no_slash, is_whole, ends_so, first_of}
use Rattle.binlog_samples.proofs.system_files.sample_system_files.Goals as goal

-- ---- names

a_part : IsLastPart (codes "d/a") (codes "a")
a_part = (no_slash (codes "a") refl, inr (codes "d", refl))

b_part : IsLastPart (codes "b") (codes "b")
b_part = (no_slash (codes "b") refl, inl refl)

both : (i : ℕ) → i < 2 → IsLastPart (item_at both_paths i) (item_at (codes "a" ∷ codes "b" ∷ []) i)
both zero lt = a_part
both (suc zero) lt = b_part
both (suc (suc i)) lt = absurd (omega (arith, lt))

pub returns-clause-names_of_paths : goal.returns-clause-names_of_paths
returns-clause-names_of_paths c = ((refl, both), (refl, λ i lt. absurd (omega (arith, lt))))

-- the names of the first path and of the second one, by their first byte
is_a : (byte : ℕ) → IsLastPart (codes "d/a") (byte ∷ []) → byte ≡ 97
is_a byte part = sym (ap (λ (name : List ℕ). slice_index name 0) (ends_so (codes "d/a") (byte ∷ []) part))

is_b : (name : List ℕ) → IsLastPart (codes "b") name → slice_index name 0 ≡ 98
is_b name part = sym (ap (λ (name : List ℕ). slice_index name 0) (is_whole (codes "b") name refl part))

pub returns-clause-no_names_of_paths : goal.returns-clause-no_names_of_paths
returns-clause-no_names_of_paths c = (
  (λ parts. let n = parts.0 in omega (arith, n)),
  (λ parts. let n = parts.0 in omega (arith, n)),
  (λ parts. let n = parts.0 in omega (arith, n)),
  (λ parts. let first = is_a 98 (parts.1 0 (omega arith)) in omega (arith, first)),
  (λ parts. let first = is_a 99 (parts.1 0 (omega arith)) in omega (arith, first)),
  (λ parts. let second = is_b (codes "c") (parts.1 1 (omega arith)) in omega (arith, second)),
  (λ parts. let n = parts.0 in omega (arith, n)),
)

-- ---- reads

one_byte : (file : List ℕ) (number offset byte : ℕ) → offset < length file → byte ≡ get_or file (offset + 0) 0 → Agrees file (read_of number offset (byte ∷ []))
one_byte file number offset byte inside is = first_of (λ i. (offset + i < length file) × (get_or (byte ∷ []) i 0 ≡ get_or file (offset + i) 0)) (omega (arith, inside), is)

pub returns-clause-reads_agree : goal.returns-clause-reads_agree
returns-clause-reads_agree c = (one_byte (codes "abc") 0 1 98 (omega arith) refl, λ i lt. absurd (omega (arith, lt)))

pub returns-clause-reads_disagree : goal.returns-clause-reads_disagree
returns-clause-reads_disagree c = (
  (λ agrees. let byte = (agrees 0 (omega arith)).1 in omega (arith, byte)),
  (λ agrees. let byte = (agrees 1 (omega arith)).1 in omega (arith, byte)),
  (λ agrees. let inside = (agrees 0 (omega arith)).0 in omega (arith, inside)),
)

pub returns-clause-files_tell_true : goal.returns-clause-files_tell_true
returns-clause-files_tell_true c = (
  (refl, tt),
  (refl, (one_byte (codes "de") 1 1 101 (omega arith) refl, (one_byte (codes "abc") 0 1 98 (omega arith) refl, tt))),
  (refl, tt),
)

pub returns-clause-lengths_are_wrong : goal.returns-clause-lengths_are_wrong
returns-clause-lengths_are_wrong c = (
  (λ true. let second = ap (λ (lengths : List ℕ). slice_index lengths 1) true.0 in omega (arith, second)),
  (λ true. let first = ap (λ (lengths : List ℕ). slice_index lengths 0) true.0 in omega (arith, first)),
  (λ true. let n = ap (λ (lengths : List ℕ). length lengths) true.0 in omega (arith, n)),
  (λ true. let n = ap (λ (lengths : List ℕ). length lengths) true.0 in omega (arith, n)),
)

pub returns-clause-reads_are_wrong : goal.returns-clause-reads_are_wrong
returns-clause-reads_are_wrong c = (
  (λ true. let byte = (true.1.0 0 (omega arith)).1 in omega (arith, byte)),
  (λ true. let byte = (true.1.1.0 0 (omega arith)).1 in omega (arith, byte)),
  (λ true. let byte = (true.1.0 0 (omega arith)).1 in omega (arith, byte)),
  (λ true. let inside = (true.1.0 0 (omega arith)).0 in omega (arith, inside)),
  (λ true. let inside = (true.1.0 0 (omega arith)).0 in omega (arith, inside)),
)
