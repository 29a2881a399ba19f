-- Going over the elements of an array and the members of an object, as a loop does: what stands there and what is still to come are
-- together the whole.
use Rattle.std.proofs.Common.{◌≡◌, ℕ, zero, suc, ◌+◌, ◌-◌, ◌*◌, ◌<◌, ◌≤◌, Bool, true, false, List, [], ◌∷◌, ◌++◌, Option, Some, None, option_map, unwrap_or, nat_lt, refl, sym, ap, append_assoc, append-nil, ◌∙◌, arith}
use Rattle.std.proofs.lemmas.Bool.Decides.{nat_tests}
use Rattle.json.specs.Print.{quoted}
use Rattle.binlog_documents.specs.Document.{Document, Elements, element, Members, member}
use Rattle.binlog_documents.specs.Scalars.{◌>>=◌, Reading}
use Rattle.binlog_documents.specs.Containers.{value_in, key_in, elements_in, members_in}
use Rattle.binlog_documents.specs.Texts.{comma_if, document_text, elements_text, members_text}
use Rattle.binlog_documents.specs.Appended.{behind, key_behind, IsAppended, IsKeyAppended, IsRead}

same_some : {A : Type 0} (x y : A) → Some x ≡ Some y → x ≡ y
same_some {A = A} x y e = ap (λ (o : Option A). unwrap_or o x) e

-- ---- elements

abbrev pub elements_behind : List ℕ → Bool → Option Elements → Option (List ℕ)
elements_behind front later ds = option_map (λ e. front ++ elements_text later e) ds

-- what is left of the elements, behind what stands there
abbrev pub elements_ahead : (ℕ → List ℕ → Reading) → ℕ → List ℕ → ℕ → ℕ → ℕ → Bool → List ℕ → Option (List ℕ)
elements_ahead value width bytes n entry from later front = elements_behind front later (elements_in value width bytes n entry from)

elements-turn : (value : ℕ → List ℕ → Reading) (width : ℕ) (bytes : List ℕ) (n entry from : ℕ) → 0 < n
    → elements_in value width bytes n entry from
    ≡ (value_in value width bytes entry from >>= λ x. option_map (element x.0) (elements_in value width bytes (n - 1) (entry + (width + 1)) x.1))
unfolding elements_in
elements-turn value width bytes zero entry from some = absurd (omega arith)
elements-turn value width bytes (suc n) entry from some =
    let less : n ≡ suc n - 1 = omega arith in
    ap (λ (k : ℕ). value_in value width bytes entry from >>= λ x. option_map (element x.0) (elements_in value width bytes k (entry + (width + 1)) x.1)) less

elements-more : (front : List ℕ) (later : Bool) (d : Document) (ds : Option Elements)
    → elements_behind front later (option_map (element d) ds) ≡ elements_behind ((front ++ comma_if later) ++ document_text d) true ds
elements-more front later d None = refl
elements-more front later d (Some ds) = ap Some (simp append_assoc)

element-goes : (front middle new : List ℕ) (later : Bool) (end : ℕ) (r : Reading) (next : ℕ → Option Elements) → middle ≡ front ++ comma_if later → Some (new, end) ≡ behind middle r
    → elements_behind front later (r >>= λ x. option_map (element x.0) (next x.1)) ≡ elements_behind new true (next end)
element-goes front middle new later end None next is read = absurd cc
element-goes front middle new later end (Some x) next is read =
    elements-more front later x.0 (next x.1) ∙ ap (λ (text : List ℕ). elements_behind (text ++ document_text x.0) true (next x.1)) (sym is)
    ∙ sym (ap (λ (p : List ℕ × ℕ). elements_behind p.0 true (next p.1)) (same_some (new, end) (middle ++ document_text x.0, x.1) read))

pub elements-go : (value : ℕ → List ℕ → Reading) (width : ℕ) (bytes : List ℕ) (n more step entry from : ℕ) (front middle new : List ℕ) (later again : Bool) (r : Option ℕ) (end : ℕ) (whole : Option (List ℕ))
    → n ≡ more + 1 → step ≡ width + 1 → again ≡ true → middle ≡ front ++ comma_if later → IsAppended middle new (value_in value width bytes entry from) r → r ≡ Some end
    → elements_ahead value width bytes n entry from later front ≡ whole → elements_ahead value width bytes more (entry + step) end again new ≡ whole
elements-go value width bytes n more step entry from front middle new later again r end whole left stride is_later is read ends so_far =
    let less : n - 1 ≡ more = omega arith in
    rw (stride, is_later, ← less)
    (sym (element-goes front middle new later end (value_in value width bytes entry from) (elements_in value width bytes (n - 1) (entry + (width + 1))) is (rw ends at read))
    ∙ sym (ap (elements_behind front later) (elements-turn value width bytes n entry from (omega arith))) ∙ so_far)

element-stops : (front middle new : List ℕ) (later : Bool) (r : Reading) (next : ℕ → Option Elements) → None ≡ behind middle r
    → elements_behind front later (r >>= λ x. option_map (element x.0) (next x.1)) ≡ None
element-stops front middle new later None next read = refl
element-stops front middle new later (Some x) next read = absurd cc

none-read : (old new : List ℕ) (later : Bool) (ds : Option Elements) → None ≡ elements_behind old later ds → IsRead old new (option_map (elements_text later) ds) false
none-read old new later None e = refl
none-read old new later (Some ds) e = absurd cc

pub elements-stop : (value : ℕ → List ℕ → Reading) (width : ℕ) (bytes : List ℕ) (n entry from : ℕ) (front middle new old : List ℕ) (later : Bool) (r : Option ℕ) (whole : Option Elements) → 0 < n
    → IsAppended middle new (value_in value width bytes entry from) r → r ≡ None → elements_ahead value width bytes n entry from later front ≡ elements_behind old false whole
    → IsRead old new (option_map (elements_text false) whole) false
elements-stop value width bytes n entry from front middle new old later r whole some read stops so_far =
    none-read old new false whole
    (sym (element-stops front middle new later (value_in value width bytes entry from) (elements_in value width bytes (n - 1) (entry + (width + 1))) (rw stops at read))
    ∙ sym (ap (elements_behind front later) (elements-turn value width bytes n entry from some)) ∙ so_far)

some-read : (old new : List ℕ) (later : Bool) (ds : Option Elements) → Some new ≡ elements_behind old later ds → IsRead old new (option_map (elements_text later) ds) true
some-read old new later None e = absurd cc
some-read old new later (Some ds) e = (refl, cc)

pub elements-end : (value : ℕ → List ℕ → Reading) (width : ℕ) (bytes : List ℕ) (n entry from : ℕ) (front old : List ℕ) (later : Bool) (whole : Option Elements) → n ≡ 0
    → elements_ahead value width bytes n entry from later front ≡ elements_behind old false whole → IsRead old front (option_map (elements_text false) whole) true
unfolding elements_in
elements-end value width bytes zero entry from front old later whole none so_far =
    some-read old front false whole (ap Some (sym (append-nil front)) ∙ so_far)
elements-end value width bytes (suc n) entry from front old later whole none so_far = absurd (omega arith)

-- ---- members

abbrev pub members_behind : List ℕ → Bool → Option Members → Option (List ℕ)
members_behind front later ms = option_map (λ m. front ++ members_text later m) ms

-- what is left of the members, behind what stands there
abbrev pub members_ahead : (ℕ → List ℕ → Reading) → ℕ → List ℕ → ℕ → ℕ → ℕ → ℕ → ℕ → Bool → List ℕ → Option (List ℕ)
members_ahead value width bytes n key_entry keys entry from later front = members_behind front later (members_in value width bytes n key_entry keys entry from)

-- what follows a key and a value
abbrev pub member_then : Option (List ℕ × ℕ) → Reading → (ℕ → ℕ → Option Members) → Option Members
member_then key r next = key >>= λ k. r >>= λ x. option_map (member k.0 x.0) (next k.1 x.1)

abbrev pub members_from : (ℕ → List ℕ → Reading) → ℕ → List ℕ → ℕ → ℕ → ℕ → ℕ → ℕ → Option Members
members_from value width bytes n key_entry entry keys from = members_in value width bytes n (key_entry + (width + 2)) keys (entry + (width + 1)) from

members-turn : (value : ℕ → List ℕ → Reading) (width : ℕ) (bytes : List ℕ) (n key_entry keys entry from : ℕ) → 0 < n
    → members_in value width bytes n key_entry keys entry from
    ≡ member_then (key_in width bytes key_entry keys) (value_in value width bytes entry from) (members_from value width bytes (n - 1) key_entry entry)
unfolding members_in
members-turn value width bytes zero key_entry keys entry from some = absurd (omega arith)
members-turn value width bytes (suc n) key_entry keys entry from some =
    let less : n ≡ suc n - 1 = omega arith in
    ap (λ (k : ℕ). member_then (key_in width bytes key_entry keys) (value_in value width bytes entry from) (members_from value width bytes k key_entry entry)) less

members-more : (front key : List ℕ) (later : Bool) (d : Document) (ms : Option Members)
    → members_behind front later (option_map (member key d) ms) ≡ members_behind (((front ++ comma_if later) ++ (quoted key ++ 58 ∷ [])) ++ document_text d) true ms
members-more front key later d None = refl
members-more front key later d (Some ms) = ap Some (simp append_assoc)

member-goes : (front middle named new : List ℕ) (later : Bool) (key_end end : ℕ) (key : Option (List ℕ × ℕ)) (r : Reading) (next : ℕ → ℕ → Option Members)
    → middle ≡ front ++ comma_if later → Some (named, key_end) ≡ key_behind middle key → Some (new, end) ≡ behind named r
    → members_behind front later (member_then key r next) ≡ members_behind new true (next key_end end)
member-goes front middle named new later key_end end None r next is name read = absurd cc
member-goes front middle named new later key_end end (Some k) None next is name read = absurd cc
member-goes front middle named new later key_end end (Some k) (Some x) next is name read =
    members-more front k.0 later x.0 (next k.1 x.1)
    ∙ ap (λ (text : List ℕ). members_behind ((text ++ (quoted k.0 ++ 58 ∷ [])) ++ document_text x.0) true (next k.1 x.1)) (sym is)
    ∙ sym (ap (λ (p : List ℕ × ℕ). members_behind (p.0 ++ document_text x.0) true (next p.1 x.1)) (same_some (named, key_end) (middle ++ (quoted k.0 ++ 58 ∷ []), k.1) name))
    ∙ sym (ap (λ (p : List ℕ × ℕ). members_behind p.0 true (next key_end p.1)) (same_some (new, end) (named ++ document_text x.0, x.1) read))

pub members-go : (value : ℕ → List ℕ → Reading) (width : ℕ) (bytes : List ℕ) (n more key_step step key_entry keys entry from : ℕ) (front middle named new : List ℕ) (later again : Bool) (key r : Option ℕ) (key_end end : ℕ) (whole : Option (List ℕ))
    → n ≡ more + 1 → key_step ≡ width + 2 → step ≡ width + 1 → again ≡ true → middle ≡ front ++ comma_if later
    → IsKeyAppended middle named (key_in width bytes key_entry keys) key → key ≡ Some key_end → IsAppended named new (value_in value width bytes entry from) r → r ≡ Some end
    → members_ahead value width bytes n key_entry keys entry from later front ≡ whole → members_ahead value width bytes more (key_entry + key_step) key_end (entry + step) end again new ≡ whole
members-go value width bytes n more key_step step key_entry keys entry from front middle named new later again key r key_end end whole left key_stride stride is_later is name key_ends read ends so_far =
    let less : n - 1 ≡ more = omega arith in
    rw (key_stride, stride, is_later, ← less)
    (sym (member-goes front middle named new later key_end end (key_in width bytes key_entry keys) (value_in value width bytes entry from) (members_from value width bytes (n - 1) key_entry entry) is (rw key_ends at name) (rw ends at read))
    ∙ sym (ap (members_behind front later) (members-turn value width bytes n key_entry keys entry from (omega arith))) ∙ so_far)

no-member : (old new : List ℕ) (later : Bool) (ms : Option Members) → None ≡ members_behind old later ms → IsRead old new (option_map (members_text later) ms) false
no-member old new later None e = refl
no-member old new later (Some ms) e = absurd cc

member-stops_at_key : (front middle named : List ℕ) (later : Bool) (key : Option (List ℕ × ℕ)) (r : Reading) (next : ℕ → ℕ → Option Members) → None ≡ key_behind middle key
    → members_behind front later (member_then key r next) ≡ None
member-stops_at_key front middle named later None r next read = refl
member-stops_at_key front middle named later (Some k) r next read = absurd cc

member-stops : (front named : List ℕ) (later : Bool) (key : Option (List ℕ × ℕ)) (r : Reading) (next : ℕ → ℕ → Option Members) → None ≡ behind named r
    → members_behind front later (member_then key r next) ≡ None
member-stops front named later None r next read = refl
member-stops front named later (Some k) None next read = refl
member-stops front named later (Some k) (Some x) next read = absurd cc

pub members-stop_at_key : (value : ℕ → List ℕ → Reading) (width : ℕ) (bytes : List ℕ) (n key_entry keys entry from : ℕ) (front middle named old : List ℕ) (later : Bool) (key : Option ℕ) (whole : Option Members) → 0 < n
    → IsKeyAppended middle named (key_in width bytes key_entry keys) key → key ≡ None → members_ahead value width bytes n key_entry keys entry from later front ≡ members_behind old false whole
    → IsRead old named (option_map (members_text false) whole) false
members-stop_at_key value width bytes n key_entry keys entry from front middle named old later key whole some read stops so_far =
    no-member old named false whole
    (sym (member-stops_at_key front middle named later (key_in width bytes key_entry keys) (value_in value width bytes entry from) (members_from value width bytes (n - 1) key_entry entry) (rw stops at read))
    ∙ sym (ap (members_behind front later) (members-turn value width bytes n key_entry keys entry from some)) ∙ so_far)

pub members-stop : (value : ℕ → List ℕ → Reading) (width : ℕ) (bytes : List ℕ) (n key_entry keys entry from : ℕ) (front named new old : List ℕ) (later : Bool) (r : Option ℕ) (whole : Option Members) → 0 < n
    → IsAppended named new (value_in value width bytes entry from) r → r ≡ None → members_ahead value width bytes n key_entry keys entry from later front ≡ members_behind old false whole
    → IsRead old new (option_map (members_text false) whole) false
members-stop value width bytes n key_entry keys entry from front named new old later r whole some read stops so_far =
    no-member old new false whole
    (sym (member-stops front named later (key_in width bytes key_entry keys) (value_in value width bytes entry from) (members_from value width bytes (n - 1) key_entry entry) (rw stops at read))
    ∙ sym (ap (members_behind front later) (members-turn value width bytes n key_entry keys entry from some)) ∙ so_far)

some-members : (old new : List ℕ) (later : Bool) (ms : Option Members) → Some new ≡ members_behind old later ms → IsRead old new (option_map (members_text later) ms) true
some-members old new later None e = absurd cc
some-members old new later (Some ms) e = (refl, cc)

pub members-end : (value : ℕ → List ℕ → Reading) (width : ℕ) (bytes : List ℕ) (n key_entry keys entry from : ℕ) (front old : List ℕ) (later : Bool) (whole : Option Members) → n ≡ 0
    → members_ahead value width bytes n key_entry keys entry from later front ≡ members_behind old false whole → IsRead old front (option_map (members_text false) whole) true
unfolding members_in
members-end value width bytes zero key_entry keys entry from front old later whole none so_far =
    some-members old front false whole (ap Some (sym (append-nil front)) ∙ so_far)
members-end value width bytes (suc n) key_entry keys entry from front old later whole none so_far = absurd (omega arith)

-- ---- entries

room-more : (entry n step len : ℕ) → entry + (n + 1) * step ≤ len → (entry + step ≤ len) × (entry + step + n * step ≤ len)
room-more entry n step len room = (omega arith, omega arith)

-- the entry at hand has room, and so have those behind it
pub entry-room : (entry count i step len : ℕ) → i < count → entry + (count - i) * step ≤ len → (entry + step ≤ len) × (entry + step + (count - (i + 1)) * step ≤ len)
entry-room entry count i step len lt room =
    let left : count - i ≡ (count - (i + 1)) + 1 = omega arith in
    room-more entry (count - (i + 1)) step len (rw left at room)

pub is-later : (i : ℕ) → nat_lt 0 (i + 1) ≡ true
is-later i = grind (arith, nat_tests)
