use Rattle.std.proofs.Common.{◌≡◌, ℕ, length, map, string_bytes, subst, arith}
use Rattle.binlogfeed.proofs.NamesGone.{HasKept, all_kept, kept_gone, kept_there}
use Rattle.binlogfeed.proofs.names_gone.keep_names.Goals as goal
use Rattle.binlogfeed.proofs.names_gone.keep_names.Goals.{in-Some, in-None+in_ok-keep_name-in-None}

pub files-preserved : goal.files-preserved
files-preserved g c =
    let old = map string_bytes c.args.gone.now.items in
    let new = map string_bytes c.files.gone.items in
    let names = g.L.Logs.names c.args.earlier.now in
    let later = g.L.Logs.names c.args.logs.now in
    elim c.match-file_named.branch [
      | in-Some w ↦ rw w.gone-is (kept_there old new names later c.files.number c.name-name.result.now c.files.invariant c.name-name.ensures.value w.in-Some.field-0 w.in-Some.ensures.found.1)
      | in-None+in_ok-keep_name-in-None w ↦
          rw w.gone-is (kept_gone old new names later c.files.number c.name-name.result.now c.files.invariant c.name-name.ensures.value (map string_bytes w.keep_name.new.gone.items) w.in_ok-keep_name-in-None.ensures)
    ]

pub returns : goal.returns
returns g c =
    let old = map string_bytes c.args.gone.now.items in
    let new = map string_bytes c.files.gone.items in
    let names = g.L.Logs.names c.args.earlier.now in
    let later = g.L.Logs.names c.args.logs.now in
    let all : c.files.number ≡ length names = omega (arith, c.files-test.false, c.files.auto.number-end, c.count-count.ensures) in
    all_kept old new names later (subst (HasKept old new names later) all c.files.invariant)
