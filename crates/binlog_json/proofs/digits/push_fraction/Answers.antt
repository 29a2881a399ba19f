use Rattle.binlog_json.proofs.digits.push_fraction.Goals as goal

pub returns : goal.returns
returns c = rw (← c.shown_fraction-shown.ensures, ← c.from.ensures, ← c.from-2.ensures) c.push_behind_point.ensures
