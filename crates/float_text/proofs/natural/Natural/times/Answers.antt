use Rattle.std.specs.Prelude.{◌<◌, length}
use mathlib.Core.Path.{◌∙◌}
use borrow.Author.Rules.{rules}
use Rattle.float_text.proofs.LimbSums.{number_in-set}
use Rattle.float_text.proofs.natural.Natural.times.Goals as goal

pub returns-then-carry-gt0 : goal.returns-then-carry-gt0
returns-then-carry-gt0 c =
    let m = c.multiply-carry in
    let within : c.self.inside.len < length m.new.limbs = search rules in
    rw (← c.self.view_is) (number_in-set m.new.limbs _ m.result within ∙ m.ensures.value)
