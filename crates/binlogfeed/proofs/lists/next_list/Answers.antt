use Rattle.std.proofs.Common.{◌≡◌, ◌∙◌, [], ◌∷◌, map, string_bytes, Some, ap, sym}
use Rattle.std.specs.Vec.{vec_len}
use Rattle.std.proofs.lemmas.Bool.{eqb-true}
use Rattle.std.proofs.lemmas.List.{map-append, nil_from_length}
use Rattle.binlogfeed.specs.Lists.{ReadsLine}
use Rattle.binlogfeed.proofs.InputLines.{list_read, paths_more, some_line}
use Rattle.binlogfeed.proofs.lists.next_list.Goals as goal

pub returns-then-is_empty : goal.returns-then-is_empty
returns-then-is_empty g c =
    let line = c.in-Some.line in
    let read : ReadsLine (g.B.Read.remaining c.lines.input) (g.B.Read.remaining c.next_line.new.input) (Some line.items) = rw c.in-Some.is at c.in_ok-line.ensures in
    list_read (g.B.Read.remaining c.args.input.now) (g.B.Read.remaining c.lines.input) (g.B.Read.remaining c.next_line.new.input) (map string_bytes c.lines.paths.items) line.items
    c.lines.invariant read (nil_from_length line.items (sym line.ok.0 ∙ eqb-true (vec_len line) 0 (sym c.is_empty.ensures ∙ c.if-is_empty.true)))

pub lines-preserved : goal.lines-preserved
lines-preserved g c =
    let line = c.in-Some.line in
    let read : ReadsLine (g.B.Read.remaining c.lines.input) (g.B.Read.remaining c.next_line.new.input) (Some line.items) = rw c.in-Some.is at c.in_ok-line.ensures in
    let path : string_bytes c.in-Ok.path ≡ line.items = ap (λ v. v.items) c.in-Ok.ensures.ok in
    rw (c.in_ok-push-in-Ok.ensures.items, map-append string_bytes c.lines.paths.items (c.in-Ok.path ∷ []), path)
    (paths_more (g.B.Read.remaining c.args.input.now) (g.B.Read.remaining c.lines.input) (g.B.Read.remaining c.next_line.new.input) (map string_bytes c.lines.paths.items) line.items
    c.lines.invariant read (some_line (vec_len line) line.items line.ok.0 (sym c.is_empty.ensures ∙ c.if-is_empty.false)))
