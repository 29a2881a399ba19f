use Rattle.std.proofs.Common.{◌∙◌, sym, rules, arith}
use Rattle.std.proofs.lemmas.Bool.{false≢true}
use Rattle.std.proofs.lemmas.Bool.Decides.{nat_tests}
use Rattle.std.proofs.lemmas.List.Sorted.{IsPartitionPoint-from_clause}
use Rattle.binlog_select.specs.declared.interval.Interval.{Interval}
use Rattle.binlog_select.specs.Tags.{rank}
use Rattle.binlog_select.proofs.IntervalLemmas.{has_passed, IsPartitionedBy-joined, none_past, member_there, there_member}
use Rattle.binlog_select.proofs.gtid_set.holds.Goals as goal

pub returns-then-at-intervals : goal.returns-then-at-intervals
returns-then-at-intervals c =
    let point = IsPartitionPoint-from_clause (has_passed (rank c.args.source) c.args.number) c.args.intervals.now _ c.partition_point-at.ensures.partitioned (IsPartitionedBy-joined (rank c.args.source) c.args.number c.args.intervals.now c.requires) (λ a r q called. search rules) in
    (λ h. absurd (false≢true h), λ member. absurd (none_past _ _ _ _ c.requires point (omega arith) member))

pub returns-then-is_same : goal.returns-then-is_same
returns-then-is_same c =
    let d : Interval = record { source = record { server = 0; high = 0; low = 0 }; first = 0; last = 0 } in
    let point = IsPartitionPoint-from_clause (has_passed (rank c.args.source) c.args.number) c.args.intervals.now _ c.partition_point-at.ensures.partitioned (IsPartitionedBy-joined (rank c.args.source) c.args.number c.args.intervals.now c.requires) (λ a r q called. search rules) in (
      λ h. member_there _ _ _ _ c.requires point d (omega arith) (search rules) (grind (arith, nat_tests)),
      λ member. let h = there_member _ _ _ _ c.requires point d member in grind (arith, nat_tests),
    )

pub returns-else-is_same : goal.returns-else-is_same
returns-else-is_same c =
    let d : Interval = record { source = record { server = 0; high = 0; low = 0 }; first = 0; last = 0 } in
    let point = IsPartitionPoint-from_clause (has_passed (rank c.args.source) c.args.number) c.args.intervals.now _ c.partition_point-at.ensures.partitioned (IsPartitionedBy-joined (rank c.args.source) c.args.number c.args.intervals.now c.requires) (λ a r q called. search rules) in (
      λ h. absurd (grind (arith, nat_tests)),
      λ member. let h = there_member _ _ _ _ c.requires point d member in let test = sym c.is_same.ensures ∙ c.if-is_same.false in absurd (grind (arith, nat_tests)),
    )
