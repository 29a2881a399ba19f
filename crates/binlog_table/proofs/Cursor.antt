-- A cursor over cells, one step on.
use Rattle.std.proofs.Common.{◌≡◌, ℕ, ◌+◌, ◌<◌, List, [], ◌∷◌, length, get_or, drop, Option, Some, None, refl, sym, ap, ◌∙◌}
use Rattle.std.specs.Prelude.{MatchOption, IsSome, IfSome, slice_get}
use Rattle.std.proofs.lemmas.List.{drop_more}
use Rattle.std.proofs.lemmas.Option.{slice_get-get_or}
use Rattle.binlog_table.specs.declared.cell.Cell.{Cell}
use Rattle.binlog_table.specs.Value.{Content, absent, view}

-- a step took the cell at place i, and left those after it
pub record Took (all new : List Content) (i : ℕ) (o : Option Cell) : Type 0 where
  pub left : new ≡ drop (i + 1) all
  pub some : IsSome o
  pub cell : IfSome o (λ c. slice_get all i ≡ Some (view c))

pub next_took : (o : Option Cell) (all old new : List Content) (i : ℕ) → old ≡ drop i all → i < length all → MatchOption o ((old ≡ []) × (new ≡ [])) (λ c. old ≡ view c ∷ new) → Took all new i o
next_took None all old new i e lt h =
    let more = drop_more all i absent lt in
    let no : [] ≡ get_or all i absent ∷ drop (i + 1) all = sym h.0 ∙ e ∙ more in
    absurd cc
next_took (Some c) all old new i e lt h =
    let more = drop_more all i absent lt in
    let both : view c ∷ new ≡ get_or all i absent ∷ drop (i + 1) all = sym h ∙ e ∙ more in
    let first : get_or all i absent ≡ view c = cc in
    record { left = cc; some = refl; cell = slice_get-get_or all i absent lt ∙ ap Some first }
