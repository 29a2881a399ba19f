use Rattle.std.proofs.Common.{◌≡◌, ◌+◌, ◌++◌, ◌∙◌, ℕ, suc, List, [], ◌∷◌, drop, get_or, drop-cons, drop_of_length-le, add-one, ap, sym, append-nil, lit<, string_bytes}
use Rattle.std.specs.Borrow.{Bor}
use Rattle.binlog_json.specs.Encodings.{decoded, all_decoded, texts_of}
use Rattle.binlog_json.proofs.Joined.{between_if, read_more, read_end}
use Rattle.binlog_json.proofs.full_sets.read_all.Goals as goal
use Rattle.binlog_json.proofs.full_sets.read_all.Goals.{then-later+in_ok-push, else-later}

pub loop-name-preserved : goal.loop-name-preserved
loop-name-preserved c =
    let text : string_bytes c.if-later.text ≡ string_bytes c.loop-name.text ++ between_if c.loop-name.later (44 ∷ []) =
    elim c.if-later.branch [
      | then-later+in_ok-push w ↦ rw (w.text-is, w.if-later.true) (w.in_ok-push.ensures.bytes ∙ ap (λ (bytes : List ℕ). string_bytes c.loop-name.text ++ bytes) (w.in_ok-push.ensures.ascii (lit< tt)))
      | else-later w ↦ rw (w.text-is, w.if-later.false) (sym (append-nil (string_bytes c.loop-name.text)))
    ] in
    let members = c.args.members.now in
    let at = c.loop-name.name-index in
    let name : Bor (List ℕ) = get_or members at (record { ref_ptr = (0, 0); now = [] }) in
    let first : drop at members ≡ name ∷ drop (suc at) members = drop-cons members at (record { ref_ptr = (0, 0); now = [] }) c.loop-name-test.true in
    let next : at + 1 ≡ suc at = add-one at in
    let read = rw c.if-not-branch.false at c.in_ok-append.ensures in
    rw next
    (read_more (string_bytes c.loop-name.text) (string_bytes c.if-later.text) (string_bytes c.append.new.text) c.loop-name.later (decoded c.args.encoding name.now) (all_decoded c.args.encoding (texts_of (drop (suc at) members))) _
    text read (rw first at c.loop-name.invariant))

pub returns : goal.returns
returns c =
    let none = drop_of_length-le c.args.members.now c.loop-name-test.false in
    read_end (string_bytes c.args.text.now) (string_bytes c.loop-name.text) (all_decoded c.args.encoding (texts_of c.args.members.now)) (rw none at c.loop-name.invariant)
