use Rattle.std.proofs.Common.{List, ℕ, refl, sym, subst}
use Rattle.binlogfeed.specs.Options.{IsFirstBadWord}
use Rattle.binlogfeed.proofs.options.event_fault.Goals as goal

pub returns-in-Ok : goal.returns-in-Ok
returns-in-Ok c = λ profile list bad. (list, refl, subst (λ (text : List ℕ). IsFirstBadWord profile list text) (sym c.in-Ok.ensures.ok) bad)
