use Rattle.std.proofs.Common.{map, arith}
use Rattle.std.specs.String.{string_bytes}
use Rattle.std.proofs.lemmas.List.{length-map}
use Rattle.binlog_table.proofs.NameOrders.{sorted-from}
use Rattle.binlog_table.proofs.names.sorted_names.Goals as goal

pub returns : goal.returns
returns c =
    let names = map string_bytes c.args.names.now in
    sorted-from names c.in_ok-entries.entries.items c.sort_unstable.new.self.items (rw (length-map c.args.names.now string_bytes) c.in_ok-entries.ensures) c.sort_unstable.ensures.permutation (λ k d lt. c.sort_unstable.ensures.sorted k d (omega arith) lt)
