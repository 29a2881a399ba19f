use Rattle.std.proofs.Common.{rules, ◌∙◌, ap, string_bytes}
use Rattle.std.specs.Ordering.{nat_cmp}
use Rattle.std.specs.Cmp.Lexicographic.{slice_cmp}
use Rattle.std.specs.FinSet as set
use Rattle.std.proofs.lemmas.Fn.{always_returns_same}
use Rattle.binlog_select.proofs.NamesLemmas.{found_in}
use Rattle.binlog_select.proofs.names.Names.contains.Goals as goal

pub returns : goal.returns
returns c =
    let texts = c.self.inside.names.items in
    let position = c.binary_search_by.ensures.position (λ own. slice_cmp nat_cmp (string_bytes own) c.args.name.now) (always_returns_same _ _ _ (λ a r g called. search rules)) in
    c.is_ok.ensures.value
    ∙ found_in texts c.args.name.now _ (rw (← c.deref.ensures.value) c.binary_search_by.ensures.bound)
    (rw (← c.deref.ensures.value) position) c.self.invariant
    ∙ ap (λ s. set.contains s c.args.name.now) c.self.view_is
