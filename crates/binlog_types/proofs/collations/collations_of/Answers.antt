use Rattle.std.proofs.Common.{◌≡◌, ℕ, List, [], ◌∷◌, ◌++◌, ◌-◌, length, map, take, drop, min, Option, ap, ap₂, sym, ◌∙◌, arith}
use Rattle.std.proofs.lemmas.List.{take_rest}
use Rattle.std.proofs.lemmas.List.FromFn.{map-range_with_len_more}
use Rattle.std.specs.List.{range_with_len}
use Rattle.binlog_types.specs.ColumnTypes.{numbers_from, other_for, collation_at, collations_of}
use Rattle.binlog_types.proofs.Pairs.{behind_first, collation_found}
use Rattle.binlog_types.proofs.collations.collations_of.Goals as goal

pub loop-index-preserved : goal.loop-index-preserved
loop-index-preserved c =
    let known = collations_of c.args.each.now c.args.usual.now in
    let own : c.deref-in-loop-index.result.now ≡ numbers_from (min c.args.count (length c.args.each.now)) c.args.each.now =
    c.deref-in-loop-index.ensures.value ∙ (c.in_ok-own.ensures ∙ ap (λ (n : ℕ). numbers_from n c.args.each.now) c.min.ensures) in
    let usual : c.deref-in-loop-index-3.result.now ≡ known.usual = c.deref-in-loop-index-3.ensures.value ∙ c.in_ok-usual.ensures in
    let pairs : take (length c.deref.result.now - c.min-2.result) (drop c.min-2.result c.deref.result.now) ≡ drop 1 known.usual =
    take_rest c.deref.result.now c.min-2.result ∙ (behind_first c.deref.result.now c.min-2.result (omega arith) ∙ ap (drop 1) (c.deref.ensures.value ∙ c.in_ok-usual.ensures)) in
    let others : c.deref-in-loop-index-2.result.now ≡ map (λ index. other_for index (drop 1 known.usual)) (range_with_len 0 c.args.count) =
    c.deref-in-loop-index-2.ensures.value ∙ (c.in_ok-others.ensures ∙ ap (λ (s : List ℕ). map (λ index. other_for index s) (range_with_len 0 c.args.count)) pairs) in
    let found : c.collation_at.result ≡ collation_at known c.loop-index.index = rw (c.collation_at.ensures, own, others, usual) (collation_found c.args.each.now known.usual c.args.count c.loop-index.index (omega arith)) in
    c.in_ok-push.ensures.items ∙ (ap₂ (λ (xs : List (Option ℕ)) (x : Option ℕ). xs ++ x ∷ []) c.loop-index.invariant found ∙ sym (map-range_with_len_more (collation_at known) 0 c.loop-index.index c.loop-index.index (omega arith)))
