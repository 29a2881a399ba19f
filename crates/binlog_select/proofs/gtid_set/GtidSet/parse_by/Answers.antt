use Rattle.std.proofs.Common.{◌∙◌, ap, subst, sym, rules, All, Err}
use Rattle.std.proofs.lemmas.List.Sorted.{All-permutation}
use Rattle.binlog_select.specs.Intervals.{IsInterval, AreRising, SameNumbers}
use Rattle.binlog_select.specs.SetText.{elements, IsFirstBadBy, reading}
use Rattle.binlog_select.proofs.JoiningLemmas.{Same-IsPermutation, Same-trans, AreRising-sorted}
use Rattle.binlog_select.proofs.gtid_set.GtidSet.parse_by.Goals as goal

pub returns-in_err-intervals-clause-refused : goal.returns-in_err-intervals-clause-refused
returns-in_err-intervals-clause-refused c = λ at is.
    subst (λ text. IsFirstBadBy c.args.profile (elements text) at) c.as_bytes.ensures.value (c.in_err-intervals.ensures.refused at (ap (λ f. Err f) (search rules)))

pub joined-requires-clause-valid : goal.joined-requires-clause-valid
joined-requires-clause-valid c =
    subst (All IsInterval) (sym c.deref.ensures.value) (All-permutation IsInterval _ _ c.sort_unstable.ensures.permutation c.in_ok-intervals.ensures.valid)

pub joined-requires-clause-rising : goal.joined-requires-clause-rising
joined-requires-clause-rising c = subst AreRising (sym c.deref.ensures.value) (AreRising-sorted _ (All-permutation IsInterval _ _ c.sort_unstable.ensures.permutation c.in_ok-intervals.ensures.valid) c.sort_unstable.ensures.sorted)

pub returns-clause-read : goal.returns-clause-read
returns-clause-read c = record {
  named = c.in_ok-intervals.intervals.items;
  reads = ap (λ text. reading c.args.profile (elements text)) (sym c.as_bytes.ensures.value) ∙ c.in_ok-intervals.ensures.read;
  same = Same-trans _ _ _ c.in_ok-intervals-2.ensures.same (subst (λ xs. SameNumbers xs c.in_ok-intervals.intervals.items) (sym c.deref.ensures.value) (Same-IsPermutation _ _ c.sort_unstable.ensures.permutation));
}
