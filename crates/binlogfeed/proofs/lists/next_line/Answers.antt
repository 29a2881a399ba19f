use Rattle.std.proofs.Common.{◌∙◌, sym}
use Rattle.binlogfeed.proofs.InputLines.{none_popped, reads_line, reads_no_line}
use Rattle.binlogfeed.proofs.lists.next_line.Goals as goal

pub returns-then-eq : goal.returns-then-eq
returns-then-eq g c =
    let read = c.in_default.ensures in
    reads_line (g.B.Read.remaining c.args.input.now) (g.B.Read.remaining c.read_until.new.self) c.new-line.result.items c.read_until.new.buf.items c.pop.new.self.items c.pop.result
    c.new-line.ensures.items read.bytes read.rest c.pop.ensures.items (sym c.eq.ensures ∙ c.if-eq.true)

pub returns-else-eq : goal.returns-else-eq
returns-else-eq g c =
    let read = c.in_default.ensures in
    reads_no_line (g.B.Read.remaining c.args.input.now) (g.B.Read.remaining c.read_until.new.self) c.new-line.result.items c.read_until.new.buf.items c.pop.new.self.items c.pop.result
    c.new-line.ensures.items read.bytes c.pop.ensures.items (none_popped _ _ c.read_until.new.buf.items c.pop.result c.read_until.new.buf.ok.0 c.pop.ensures.cases) (sym c.eq.ensures ∙ c.if-eq.false)
