-- Steps of a text that goes out by parts.
use Rattle.std.proofs.Common.{◌≡◌, ℕ, List, [], ◌++◌, Option, Some, None, refl, sym, ap, ◌∙◌, append_assoc, append-nil, take, drop, take-append-drop, length, ◌-◌, Result, Ok, Err, subst}
use Rattle.std.specs.Prelude.{IsErrAnd}
use Rattle.std.proofs.lemmas.List.{take_rest}
use Rattle.std.specs.Io.KnownBytes.{Appends, Keeps}
use Rattle.std.proofs.KnownBytes.{Appends-trans}
use Rattle.line_output.specs.Sending.{AppendsBeginning, IsSending, IsSendingBeginning, Adds}
use Rattle.line_output.specs.declared.fault.AddFault.{AddFault}
use Rattle.line_output.specs.declared.fault.AddFault.TheVariants.{Write}

pub appends_none : (old : Option (List ℕ)) → Appends old old []
appends_none None = tt
appends_none (Some xs) = sym (append-nil xs)

pub appends_kept : (old mid new : Option (List ℕ)) (bs : List ℕ) → Appends old mid bs → Keeps mid new → Appends old new bs
appends_kept None mid new bs h k = tt
appends_kept (Some xs) None new bs h k = absurd h
appends_kept (Some xs) (Some ys) None bs h k = absurd k
appends_kept (Some xs) (Some ys) (Some zs) bs h k = k ∙ h

pub beginning_taken : (old new : Option (List ℕ)) (text : List ℕ) (n : ℕ) → Appends old new (take n text) → AppendsBeginning old new text
beginning_taken old new text n h = record { sent = take n text; rest = drop n text; parts = sym (take-append-drop n text); received = h }

pub beginning_more : (old new : Option (List ℕ)) (text : List ℕ) (w n : ℕ) → Appends old new (take w text ++ take n (take (length text - w) (drop w text))) → AppendsBeginning old new text
beginning_more old new text w n h =
    let tail = take (length text - w) (drop w text) in
    record {
      sent = take w text ++ take n tail;
      rest = drop n tail;
      parts = sym (take-append-drop w text) ∙ ap (λ t. take w text ++ t) (sym (take_rest text w) ∙ sym (take-append-drop n tail)) ∙ sym (append_assoc (take w text) (take n tail) (drop n tail));
      received = h;
    }

pub beginning_longer : (old new : Option (List ℕ)) (text more : List ℕ) → AppendsBeginning old new text → AppendsBeginning old new (text ++ more)
beginning_longer old new text more h = record {
  sent = h.sent;
  rest = h.rest ++ more;
  parts = ap (λ t. t ++ more) h.parts ∙ append_assoc h.sent h.rest more;
  received = h.received;
}

-- nothing of the text yet
pub sending_all : (old : Option (List ℕ)) (text : List ℕ) → IsSending old old text text
sending_all old text = record { sent = []; parts = refl; received = appends_none old }

pub sending_more : (old mid new : Option (List ℕ)) (waiting later text more : List ℕ) → IsSending old mid waiting text → IsSending mid new later (waiting ++ more) → IsSending old new later (text ++ more)
sending_more old mid new waiting later text more h k = record {
  sent = h.sent ++ k.sent;
  parts = ap (λ t. t ++ more) h.parts ∙ append_assoc h.sent waiting more ∙ ap (λ t. h.sent ++ t) k.parts ∙ sym (append_assoc h.sent k.sent later);
  received = Appends-trans _ _ _ _ _ h.received k.received;
}

pub sending_fails : (old mid new : Option (List ℕ)) (waiting text more : List ℕ) → IsSending old mid waiting text → AppendsBeginning mid new (waiting ++ more) → AppendsBeginning old new (text ++ more)
sending_fails old mid new waiting text more h k = record {
  sent = h.sent ++ k.sent;
  rest = k.rest;
  parts = ap (λ t. t ++ more) h.parts ∙ append_assoc h.sent waiting more ∙ ap (λ t. h.sent ++ t) k.parts ∙ sym (append_assoc h.sent k.sent k.rest);
  received = Appends-trans _ _ _ _ _ h.received k.received;
}

-- a text that goes on behind what was sent and what waits
pub sending_beginning : (old new : Option (List ℕ)) (waiting text more : List ℕ) → IsSending old new waiting text → IsSendingBeginning old new waiting (text ++ more)
sending_beginning old new waiting text more h = record {
  sent = h.sent;
  rest = more;
  parts = ap (λ t. t ++ more) h.parts ∙ append_assoc h.sent waiting more;
  received = h.received;
}

-- a line isn't added, since a write failed
pub add_failed : {T : Type 0} (old new : Option (List ℕ)) (before later line : List ℕ) (result : Result T AddFault) → AppendsBeginning old new (before ++ line)
    → IsErrAnd result (λ why. why ≡ Write) → Adds old new before later line result
add_failed {T} old new before later line (Ok done) h k = absurd k
add_failed {T} old new before later line (Err why) h k = subst (λ (fault : AddFault). Adds {T = T} old new before later line (Err fault)) (sym k) h
