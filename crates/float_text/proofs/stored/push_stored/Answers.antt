use Rattle.std.proofs.Common.{refl}
use borrow.Author.Tests.{ne_eqb}
use Rattle.float_text.proofs.stored.push_stored.Goals as goal

pub returns-clause-text : goal.returns-clause-text
returns-clause-text c = rw (ne_eqb _ 4 c.if-bytes-eq4.false, ne_eqb _ 8 c.if-bytes-eq8.false) (refl, refl)

pub returns-clause-json : goal.returns-clause-json
returns-clause-json c = rw (ne_eqb _ 4 c.if-bytes-eq4.false, ne_eqb _ 8 c.if-bytes-eq8.false) tt
