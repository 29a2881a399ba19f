use Rattle.std.proofs.Common.{◌-◌, rules, length}
use Rattle.std.proofs.lemmas.List.{take_rest}
use Rattle.json.proofs.Printed.Places.{Placed-ends}
use Rattle.binlog_json.proofs.pieces.put_ends.Goals as goal

pub returns : goal.returns
returns g c =
    let text = c.args.text.now in
    Placed-ends text g.row.WIDTH (search rules) c.requires.enough c.requires.few c.put_front.ensures (rw (take_rest text (length text - g.row.WIDTH)) at c.put_front-2.ensures)
