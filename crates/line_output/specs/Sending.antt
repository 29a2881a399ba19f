-- What a writer has received of a text.
use Rattle.std.specs.Prelude.{◌≡◌, ℕ, List, ◌++◌, Option, Result, Ok, Err}
use Rattle.std.specs.Io.KnownBytes.{Appends}
use Rattle.line_output.specs.declared.fault.AddFault.{AddFault}
use Rattle.line_output.specs.declared.fault.AddFault.TheVariants.{Write, OutOfMemory}

-- So many bytes, 64 KiB, are enough to be sent: what waits behind a line is fewer.
abbrev pub enough_waits : ℕ
enough_waits = 65536

-- a beginning of the text
pub record AppendsBeginning (old new : Option (List ℕ)) (text : List ℕ) : Type 0 where
  pub sent : List ℕ
  pub rest : List ℕ
  pub parts : text ≡ sent ++ rest
  pub received : Appends old new sent

-- all of the text but what waits
pub record IsSending (old new : Option (List ℕ)) (waiting text : List ℕ) : Type 0 where
  pub sent : List ℕ
  pub parts : text ≡ sent ++ waiting
  pub received : Appends old new sent

-- of a beginning of the text, all but what waits
pub record IsSendingBeginning (old new : Option (List ℕ)) (waiting text : List ℕ) : Type 0 where
  pub sent : List ℕ
  pub rest : List ℕ
  pub parts : text ≡ sent ++ (waiting ++ rest)
  pub received : Appends old new sent

-- A line is added to what waited. A failed write has sent a beginning of that; without memory nothing is changed.
abbrev pub Adds : {T : Type 0} → Option (List ℕ) → Option (List ℕ) → List ℕ → List ℕ → List ℕ → Result T AddFault → Type 0
Adds old new before later line (Ok done) = IsSending old new later (before ++ line)
Adds old new before later line (Err Write) = AppendsBeginning old new (before ++ line)
Adds old new before later line (Err OutOfMemory) = (new ≡ old) × (later ≡ before)
