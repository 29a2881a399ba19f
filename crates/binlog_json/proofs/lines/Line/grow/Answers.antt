use Rattle.std.proofs.Common.{◌≤◌, List, ℕ, length, is_ok, sym, subst, arith}
use Rattle.std.proofs.lemmas.Grind.{common_steps}
use Rattle.std.specs.Str.{IsUtf8}
use Rattle.binlog_json.proofs.Places.{roomier}
use Rattle.binlog_json.proofs.lines.Line.grow.Goals as goal

pub invariant_of-self : goal.invariant_of-self
invariant_of-self c =
    let old = c.args.self.now in
    let enough : length old.bytes.items ≤ c.saturating_add.result = grind (arith, common_steps) in
    let more = roomier (is_ok c.resize.result) old.bytes.items c.resize.new.self.items old.len c.saturating_add.result _ old.within enough c.resize.ensures.items in
    record { within = more.0; utf8 = subst (λ (l : List ℕ). ∥ IsUtf8 l ∥₁) (sym more.1) old.utf8 }
