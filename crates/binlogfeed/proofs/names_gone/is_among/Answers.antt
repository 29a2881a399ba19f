use Rattle.std.proofs.Common.{◌∙◌, List, ℕ, Some, ap, map, string_bytes}
use Rattle.binlogfeed.proofs.Found.{named_else, named_same}
use Rattle.binlogfeed.proofs.NamesGone.{name_at, none_more}
use Rattle.binlogfeed.proofs.names_gone.is_among.Goals as goal

pub returns-then-eq-clause-yes : goal.returns-then-eq-clause-yes
returns-then-eq-clause-yes c h = (
  c.names.number,
  name_at c.args.names.now c.names.number c.index-names-number.result c.as_str.result.now c.names-test.true c.index-names-number.is c.as_str.ensures.value
      ∙ ap (λ (t : List ℕ). Some t) (named_same c.as_str.result.now c.args.name.now c.eq.result c.eq.ensures c.if-eq.true),
)

pub names-preserved : goal.names-preserved
names-preserved c =
    none_more (map string_bytes c.args.names.now) c.args.name.now c.as_str.result.now c.names.number c.names.invariant
    (name_at c.args.names.now c.names.number c.index-names-number.result c.as_str.result.now c.names-test.true c.index-names-number.is c.as_str.ensures.value)
    (named_else c.as_str.result.now c.args.name.now c.eq.result c.eq.ensures c.if-eq.false)
