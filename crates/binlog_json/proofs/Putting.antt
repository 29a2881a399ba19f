-- Members that are put in any order.
use Rattle.std.proofs.Common.{◌≡◌, ℕ, List, Ordering, Less, Equal, Greater, refl, ap, sym, subst, ◌∙◌}
use Rattle.std.specs.Ordering.{nat_cmp, ordering_reverse}
use Rattle.std.specs.Cmp.Lexicographic.{slice_cmp}
use Rattle.std.proofs.lemmas.Cmp.{nat_list_cmp_total, tied_itself}
use Rattle.std.proofs.lemmas.Map.Lookups.{exact_bytes}
use Rattle.binlog_json.specs.Json.{Data, Members, member, no_members, put}

abbrev cmp : List ℕ → List ℕ → Ordering
cmp = slice_cmp nat_cmp

flipped : (k l : List ℕ) (o : Ordering) → cmp k l ≡ o → cmp l k ≡ ordering_reverse o
flipped k l o e = nat_list_cmp_total.antisymm l k ∙ ap ordering_reverse e

pub below_above : (k l : List ℕ) → cmp k l ≡ Less → cmp l k ≡ Greater
below_above k l e = flipped k l Less e

pub above_below : (k l : List ℕ) → cmp k l ≡ Greater → cmp l k ≡ Less
above_below k l e = flipped k l Greater e

pub exact : (k l : List ℕ) → cmp k l ≡ Equal → k ≡ l
exact k l e = exact_bytes k l e

less_trans : (x y z : List ℕ) → cmp x y ≡ Less → cmp y z ≡ Less → cmp x z ≡ Less
less_trans x y z = nat_list_cmp_total.trans x y z

-- two names, of which the first is below, put before or behind a member
before : (q : Ordering) (k l m : List ℕ) (d e g : Data) (ms : Members) → cmp k l ≡ Less → cmp k m ≡ Less → cmp l m ≡ q
    → put l e (put k d (member m g ms)) ≡ put k d (put l e (member m g ms))
before Less k l m d e g ms kl km lm = rw (km, lm, below_above k l kl, kl) refl
before Equal k l m d e g ms kl km lm = rw (km, lm, below_above k l kl, km) refl
before Greater k l m d e g ms kl km lm = rw (km, lm, below_above k l kl, km) refl

above_both : (k l m : List ℕ) → cmp k l ≡ Less → cmp k m ≡ Greater → cmp l m ≡ Greater
above_both k l m kl km = below_above m l (less_trans m k l (above_below k m km) kl)

turn_at : (p : Ordering) (k l m : List ℕ) (d e g : Data) (ms : Members) → cmp k l ≡ Less → cmp k m ≡ p
    → put l e (put k d ms) ≡ put k d (put l e ms) → put l e (put k d (member m g ms)) ≡ put k d (put l e (member m g ms))
turn_at Less k l m d e g ms kl km rest = before (cmp l m) k l m d e g ms kl km refl
turn_at Equal k l m d e g ms kl km rest =
    let lm : cmp l m ≡ Greater = subst (λ n. cmp l n ≡ Greater) (exact k m km) (below_above k l kl) in
    rw (km, lm, km) refl
turn_at Greater k l m d e g ms kl km rest =
    let lm : cmp l m ≡ Greater = above_both k l m kl km in
    rw (km, lm, km) (ap (member m g) rest)

turn_below : (k l : List ℕ) (d e : Data) (ms : Members) → cmp k l ≡ Less → put l e (put k d ms) ≡ put k d (put l e ms)
turn_below k l d e no_members kl = rw (kl, below_above k l kl) refl
turn_below k l d e (member m g ms) kl = turn_at (cmp k m) k l m d e g ms kl refl (turn_below k l d e ms kl)

by_order : (o : Ordering) (k l : List ℕ) (d e : Data) (ms : Members) → cmp k l ≡ o → (k ≡ l → d ≡ e) → put l e (put k d ms) ≡ put k d (put l e ms)
by_order Less k l d e ms kl same = turn_below k l d e ms kl
by_order Equal k l d e ms kl same =
    let name = exact k l kl in
    let value = same name in
    cc
by_order Greater k l d e ms kl same = sym (turn_below l k e d ms (above_below k l kl))

-- values of two names may be put in either order, where those of one name are the same
pub put_turn : (k l : List ℕ) (d e : Data) (ms : Members) → (k ≡ l → d ≡ e) → put l e (put k d ms) ≡ put k d (put l e ms)
put_turn k l d e ms same = by_order (cmp k l) k l d e ms refl same

pub not_below_itself : (k : List ℕ) → cmp k k ≡ Less → ⊥
not_below_itself k less = let same : cmp k k ≡ Equal = tied_itself nat_list_cmp_total k in cc
