-- A list that is read one item at a time, with the items in front of those that are still to be read.
use Rattle.std.proofs.Common.{◌≡◌, List, [], ◌∷◌, ◌++◌, Result, Ok, Err, refl, sym, ap, append_assoc}
use Rattle.binlog_table.specs.declared.fault.MapFault.{MapFault}
use Rattle.binlog_table.specs.MapResult.{◌>>=◌}

abbrev pub prepended : {A B : Type 0} → List A → Result (List A × B) MapFault → Result (List A × B) MapFault
prepended front read = read >>= λ x. Ok (front ++ x.0, x.1)

-- one item more in front
pub prepended-more : {A B : Type 0} (front : List A) (a : A) (read : Result (List A × B) MapFault) → prepended front (read >>= λ x. Ok (a ∷ x.0, x.1)) ≡ prepended (front ++ a ∷ []) read
prepended-more {A = A} front a (Ok x) = ap (λ (xs : List A). Ok (xs, x.1)) (sym (append_assoc front (a ∷ []) x.0))
prepended-more front a (Err e) = refl

-- a step, and then an item more
pub prepended-step : {A B C : Type 0} (front : List A) (r : Result C MapFault) (item : C → A) (next : C → Result (List A × B) MapFault)
    → prepended front (r >>= λ c. next c >>= λ x. Ok (item c ∷ x.0, x.1)) ≡ (r >>= λ c. prepended (front ++ item c ∷ []) (next c))
prepended-step front (Ok c) item next = prepended-more front (item c) (next c)
prepended-step front (Err e) item next = refl
