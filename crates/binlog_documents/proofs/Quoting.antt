-- Strings as they are written.
use Rattle.std.proofs.Common.{◌≡◌, ℕ, ◌∷◌, [], List, ◌++◌, Result, Ok, Err, OnOk, append-nil}
use Rattle.json.specs.Print.{escape, quoted, print, print_from}
use Rattle.json.specs.Token.{string}

pub print_string : (s : List ℕ) → print (string s ∷ []) ≡ quoted s
unfolding print_from
print_string s = append-nil (quoted s)

-- a text that needs no escape, between quotation marks
pub in_quotes : {E : Type 0} (r : Result (Unit {0}) E) (old new text shown : List ℕ) → shown ≡ text → escape text ≡ text → OnOk r (new ≡ old ++ 34 ∷ (shown ++ 34 ∷ [])) → OnOk r (new ≡ old ++ quoted text)
in_quotes (Ok u) old new text shown same is p = rw (is, ← same) p
in_quotes (Err x) old new text shown same is p = tt
