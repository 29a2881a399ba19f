-- What calls say of a writer, by the members of its `Write`.
use Rattle.std.specs.Prelude.{ℕ, List, Result, Vec}
use Rattle.std.specs.Io.KnownBytes.{Appends}
use Rattle.std.specs.declared.io.Write.{Ghosts}
use Rattle.line_output.specs.Sending.{Adds, AppendsBeginning, IsSending}
use Rattle.line_output.specs.declared.fault.AddFault.{AddFault}

module _ {S : Type 0} (W : Ghosts S) where
  -- it has received the whole text
  abbrev pub Receives : S → S → List ℕ → Type 0
  Receives old new text = Appends (W.contents old) (W.contents new) text

  -- or a beginning of it
  abbrev pub ReceivesBeginning : S → S → List ℕ → Type 0
  ReceivesBeginning old new text = AppendsBeginning (W.contents old) (W.contents new) text

  -- all of the text but what waits
  abbrev pub ReceivesAllBut : {A : Type 0} → S → S → Vec ℕ A → List ℕ → Type 0
  ReceivesAllBut old new waiting text = IsSending (W.contents old) (W.contents new) waiting.items text

  -- a line is added to what waits
  abbrev pub AddsLine : {A T : Type 0} → S → S → Vec ℕ A → Vec ℕ A → List ℕ → Result T AddFault → Type 0
  AddsLine old new before later line result = Adds (W.contents old) (W.contents new) before.items later.items line result
