-- The loops over the names of columns, and over the names of a column's values.
use Rattle.std.proofs.Common.{◌≡◌, ℕ, suc, ◌+◌, ◌-◌, ◌<◌, ◌≤◌, List, [], ◌∷◌, ◌++◌, Result, Ok, refl, sym, ◌∙◌, arith, append-nil}
use Rattle.binlog_table.specs.declared.fault.MapFault.{MapFault}
use Rattle.binlog_table.specs.MapResult.{◌>>=◌}
use Rattle.binlog_table.specs.Fields.{text_of, string_at}
use Rattle.binlog_table.specs.Names.{names_at, strings_at}
use Rattle.binlog_table.proofs.FirstFaults.{bind_same, bind_assoc}
use Rattle.binlog_table.proofs.Prepended.{prepended, prepended-step}

abbrev Read : Type 0
Read = Result (List (List ℕ) × List ℕ) MapFault

pub names-step : (count i : ℕ) (front : List (List ℕ)) (rest : List ℕ) (total : Read) → i < count → prepended front (names_at (count - i) rest) ≡ total
    → (string_at rest >>= λ s. text_of s.0 >>= λ name. prepended (front ++ name ∷ []) (names_at (count - (i + 1)) s.1)) ≡ total
unfolding names_at
names-step count i front rest total lt so_far =
    let n = count - (i + 1) in
    let k : count - i ≡ suc n = omega arith in
    let one : prepended front (names_at (count - i) rest) ≡ (string_at rest >>= λ s. text_of s.0 >>= λ name. prepended (front ++ name ∷ []) (names_at n s.1)) =
    rw k (bind_assoc (string_at rest) _ _ ∙ bind_same (string_at rest) _ _ (λ s is. prepended-step front (text_of s.0) (λ (name : List ℕ). name) (λ (name : List ℕ). names_at n s.1))) in
    sym one ∙ so_far

pub names-done : (count i : ℕ) (front : List (List ℕ)) (rest : List ℕ) (total : Read) → count ≤ i → prepended front (names_at (count - i) rest) ≡ total → total ≡ Ok (front, rest)
unfolding names_at
names-done count i front rest total le so_far =
    let k : count - i ≡ 0 = omega arith in
    let one : prepended front (names_at (count - i) rest) ≡ Ok (front, rest) = rw (k, append-nil front) refl in
    sym so_far ∙ one

pub strings-step : (count i : ℕ) (front : List (List ℕ)) (rest : List ℕ) (total : Read) → i < count → prepended front (strings_at (count - i) rest) ≡ total
    → (string_at rest >>= λ s. prepended (front ++ s.0 ∷ []) (strings_at (count - (i + 1)) s.1)) ≡ total
unfolding strings_at
strings-step count i front rest total lt so_far =
    let n = count - (i + 1) in
    let k : count - i ≡ suc n = omega arith in
    let one : prepended front (strings_at (count - i) rest) ≡ (string_at rest >>= λ s. prepended (front ++ s.0 ∷ []) (strings_at n s.1)) = rw k (prepended-step front (string_at rest) (λ (s : List ℕ × List ℕ). s.0) (λ (s : List ℕ × List ℕ). strings_at n s.1)) in
    sym one ∙ so_far

pub strings-done : (count i : ℕ) (front : List (List ℕ)) (rest : List ℕ) (total : Read) → count ≤ i → prepended front (strings_at (count - i) rest) ≡ total → total ≡ Ok (front, rest)
unfolding strings_at
strings-done count i front rest total le so_far =
    let k : count - i ≡ 0 = omega arith in
    let one : prepended front (strings_at (count - i) rest) ≡ Ok (front, rest) = rw (k, append-nil front) refl in
    sym so_far ∙ one
