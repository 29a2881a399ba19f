-- The loop over optional fields.
use Rattle.std.proofs.Common.{◌≡◌, ℕ, zero, suc, ◌-◌, ◌<◌, ◌≤◌, List, [], ◌∷◌, length, get_or, take, drop, Result, Ok, sym, ap, arith}
use Rattle.std.proofs.lemmas.List.{length-append, length-drop, take_rest}
use Rattle.binlog_table.specs.declared.fault.MapFault.{MapFault}
use Rattle.binlog_table.specs.MapResult.{◌>>=◌}
use Rattle.binlog_table.specs.Fields.{Fields, string_at, with_field, fields_from}
use Rattle.binlog_table.proofs.FirstFaults.{goes_first}
use Rattle.binlog_table.proofs.MapBodies.{string-found}

-- the fields so far, and the bytes of those that are still to be read, for which there is enough fuel
abbrev pub FieldsLeft : Fields → List ℕ → Result Fields MapFault → Type 0
FieldsLeft f rest total = (fuel : ℕ) × (length rest ≤ fuel) × (fields_from fuel f rest ≡ total)

-- the field at the front, and what follows
pub fields-step : (f : Fields) (rest : List ℕ) (total : Result Fields MapFault) → 1 ≤ length rest → (l : FieldsLeft f rest total)
    → (string_at (take (length rest - 1) (drop 1 rest)) >>= λ v. with_field f (get_or rest 0 0) v.0 >>= λ g. fields_from (l.0 - 1) g v.1) ≡ total
unfolding fields_from
fields-step f [] total h l = absurd (omega arith)
fields-step f (t ∷ bytes) total h (zero, enough, so_far) = absurd (omega arith)
fields-step f (t ∷ bytes) total h (suc n, enough, so_far) = let k : suc n - 1 ≡ n = omega arith in rw (take_rest (t ∷ bytes) 1, k) so_far

pub fields-shorter : (rest : List ℕ) (v : List ℕ × List ℕ) → 1 ≤ length rest → string_at (take (length rest - 1) (drop 1 rest)) ≡ Ok v → length v.1 < length rest
fields-shorter rest v h is =
    let f = string-found (drop 1 rest) v (rw (take_rest rest 1) at is) in
    omega (arith, ap length f.2, length-append f.0 v.1, length-drop 1 rest)

pub fields-more : (f g : Fields) (rest : List ℕ) (total : Result Fields MapFault) (v : List ℕ × List ℕ) → 1 ≤ length rest → FieldsLeft f rest total → string_at (take (length rest - 1) (drop 1 rest)) ≡ Ok v → with_field f (get_or rest 0 0) v.0 ≡ Ok g
    → FieldsLeft g v.1 total
fields-more f g rest total v h l is put =
    (l.0 - 1, omega (arith, l.1, fields-shorter rest v h is), goes_first (with_field f (get_or rest 0 0) v.0) g _ total put (goes_first (string_at (take (length rest - 1) (drop 1 rest))) v _ total is (fields-step f rest total h l)))

pub fields-end : (f : Fields) (rest : List ℕ) (total : Result Fields MapFault) → length rest < 1 → FieldsLeft f rest total → total ≡ Ok f
unfolding fields_from
fields-end f (t ∷ bytes) total h l = absurd (omega arith)
fields-end f [] total h (zero, enough, so_far) = sym so_far
fields-end f [] total h (suc n, enough, so_far) = sym so_far
