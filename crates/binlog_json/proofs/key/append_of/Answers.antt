use Rattle.std.proofs.Common.{refl, sym, append-nil}
use Rattle.binlog_json.proofs.KeyTexts.{no_value, value_is}
use Rattle.binlog_json.proofs.key.append_of.Goals as goal

pub returns-in-Absent : goal.returns-in-Absent
returns-in-Absent c =
    rw (no_value c.args.style c.args.image.now c.args.column c.value.result c.value.ensures c.in-Absent.is) (record { text = sym (append-nil _); has = refl })

pub returns-in_ok-append_value_as-in_default : goal.returns-in_ok-append_value_as-in_default
returns-in_ok-append_value_as-in_default c =
    rw (value_is c.args.style c.args.image.now c.args.column c.value.result c.value.ensures c.in_default.not-Absent)
    (record { text = c.in_ok-append_value_as-in_default.ensures; has = refl })
