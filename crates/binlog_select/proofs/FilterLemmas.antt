-- The condition of a filter as a test, and copies of its lists.
use Rattle.std.proofs.Common.{◌≡◌, ℕ, Bool, true, not, List, [], ◌∷◌, Option, Some, None, refl, sym, ap, ◌∙◌, arith, Decides, IfSome, IsTrue, Contains}
use Rattle.std.specs.FinSet as set
use Rattle.std.specs.List.{list_any}
use Rattle.std.proofs.lemmas.Bool.{false≢true}
use Rattle.std.proofs.lemmas.Bool.Decides.{Decides-and, Decides-or, Decides-not, Decides-by_or, same_from_decides, nat_tests}
use Rattle.std.proofs.lemmas.List.Elements.{Decides-contains}
use Rattle.binlog_select.specs.declared.filter.Filter.{Filter}
use Rattle.binlog_select.specs.declared.interval.Interval.{Interval}
use Rattle.binlog_select.specs.declared.kind.ChangeKind.{ChangeKind}
use Rattle.binlog_select.specs.declared.kind.ChangeKind.TheVariants.{Insert, Update, Delete, Statement}
use Rattle.binlog_select.specs.Gtid.{HasGtid, source_rank}
use Rattle.binlog_select.specs.Intervals.{Holds, IsMember}
use Rattle.binlog_select.specs.Filter.{Passes, PassesTable, same_kind, holds, has_gtid, if_given, if_statement, passes, passes_kind, passes_table}

same_kind-true : (x y : ChangeKind) → same_kind x y ≡ true → x ≡ y
same_kind-true Insert Insert e = refl
same_kind-true Update Update e = refl
same_kind-true Delete Delete e = refl
same_kind-true Statement Statement e = refl
same_kind-true x y e = cc

same_kind_decides : (x y : ChangeKind) → Decides (same_kind x y) (x ≡ y)
same_kind_decides x y = (same_kind-true x y, λ e. ap (λ (k : ChangeKind). same_kind x k) (sym e) ∙ same_kind-self x)
  where
    same_kind-self : (k : ChangeKind) → same_kind k k ≡ true
    same_kind-self Insert = refl
    same_kind-self Update = refl
    same_kind-self Delete = refl
    same_kind-self Statement = refl

has_kind : (kinds : List ChangeKind) (kind : ChangeKind) → Decides (list_any (λ one. same_kind one kind) kinds) (Contains kinds kind)
has_kind kinds kind =
    Decides-contains kinds kind (list_any (λ one. same_kind one kind) kinds)
    (Decides-by_or (λ one. same_kind one kind) (λ one. one ≡ kind) (λ l. list_any (λ one. same_kind one kind) l) (λ one. same_kind_decides one kind) refl (λ _ _. refl) kinds)

holds_decides : (source number : ℕ) (i : Interval) → Decides (holds source number i) (Holds i source number)
holds_decides source number i = (λ e. grind (arith, nat_tests), λ h. grind (arith, nat_tests))

-- membership as a test, which doesn't depend on the order
pub is_member : (source number : ℕ) (set : List Interval) → Decides (list_any (holds source number) set) (IsMember set source number)
is_member source number [] = (λ e. absurd (false≢true e), λ h. absurd h)
is_member source number (i ∷ is) = Decides-or (holds source number i) (list_any (holds source number) is) (holds_decides source number i) (is_member source number is)

given_decides : {X : Type 0} (given : Option X) (test : X → Bool) (P : X → Type 0) → ((x : X) → Decides (test x) (P x)) → Decides (if_given given test) (IfSome given P)
given_decides None test P d = (λ e. tt, λ h. refl)
given_decides (Some x) test P d = d x

is_test : (b : Bool) → Decides b (IsTrue b)
is_test b = (λ e. e, λ h. h)

-- ---- all six lists

table_decides : (filter : Filter) (schema table : List ℕ) → Decides (passes_table filter schema table) (PassesTable filter schema table)
table_decides filter schema table =
    let b = given_decides filter.only_tables (λ names. set.contains names table) (λ names. IsTrue (set.contains names table)) (λ names. is_test (set.contains names table)) in
    let c = given_decides filter.ignored_tables (λ names. not (set.contains names table)) (λ names. ¬ (IsTrue (set.contains names table))) (λ names. Decides-not (set.contains names table) (is_test (set.contains names table))) in
    let d = given_decides filter.only_schemas (λ names. set.contains names schema) (λ names. IsTrue (set.contains names schema)) (λ names. is_test (set.contains names schema)) in
    let e = given_decides filter.ignored_schemas (λ names. not (set.contains names schema)) (λ names. ¬ (IsTrue (set.contains names schema))) (λ names. Decides-not (set.contains names schema) (is_test (set.contains names schema))) in
    let all = Decides-and _ _ b (Decides-and _ _ c (Decides-and _ _ d e)) in (
      λ t. let p = all.0 t in record { only_tables = p.0; ignored_tables = p.1.0; only_schemas = p.1.1.0; ignored_schemas = p.1.1.1 },
      λ p. all.1 (p.only_tables, (p.ignored_tables, (p.only_schemas, p.ignored_schemas))),
    )

kind_decides : (kind : ChangeKind) (told row : Bool) (P Q : Type 0) → Decides told P → Decides row Q → Decides (passes_kind kind told row) (if_statement kind P Q)
kind_decides Statement told row P Q p q = p
kind_decides Insert told row P Q p q = q
kind_decides Update told row P Q p q = q
kind_decides Delete told row P Q p q = q

pub passes_decides : (filter : Filter) (kind : ChangeKind) (schema table : List ℕ) (gtid : Option (List ℕ × ℕ)) → Decides (passes filter kind schema table gtid) (Passes filter kind schema table gtid)
passes_decides filter kind schema table gtid =
    let a = given_decides filter.only_events (λ kinds. list_any (λ one. same_kind one kind) kinds) (λ kinds. Contains kinds kind) (λ kinds. has_kind kinds kind) in
    let f = given_decides filter.auto_position (λ set. if_given gtid (λ g. not (has_gtid set g.0 g.1))) (λ set. IfSome gtid (λ g. ¬ (HasGtid set g.0 g.1)))
    (λ set. given_decides gtid (λ g. not (has_gtid set g.0 g.1)) (λ g. ¬ (HasGtid set g.0 g.1)) (λ g. Decides-not (has_gtid set g.0 g.1) (is_member (source_rank g.0 []) g.1 set))) in
    let all = Decides-and _ _ a (Decides-and _ _ (kind_decides kind filter.statements (passes_table filter schema table) _ _ (is_test filter.statements) (table_decides filter schema table)) f) in (
      λ t. let p = all.0 t in record { only_events = p.0; of_kind = p.1.0; auto_position = p.1.1 },
      λ p. all.1 (p.only_events, (p.of_kind, p.auto_position)),
    )

-- a test of the condition is the test
pub is_passes : (result : Bool) (filter : Filter) (kind : ChangeKind) (schema table : List ℕ) (gtid : Option (List ℕ × ℕ)) → Decides result (Passes filter kind schema table gtid) → result ≡ passes filter kind schema table gtid
is_passes result filter kind schema table gtid d = same_from_decides result (passes filter kind schema table gtid) d (passes_decides filter kind schema table gtid)

-- no list, as the copy of none; or a list that equals the one it is copied from
abbrev pub IsCopied : {A : Type 0} → Option A → Option A → Type 0
IsCopied None None = Unit {0}
IsCopied (Some list) (Some copy) = copy ≡ list
IsCopied list copy = ⊥

pub copied : {A : Type 0} (list copy : Option A) → IsCopied list copy → copy ≡ list
copied None None same = refl
copied (Some list) (Some copy) same = ap (λ v. Some v) same
copied list copy same = absurd same
