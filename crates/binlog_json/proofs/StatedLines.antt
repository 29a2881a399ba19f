-- The parts of a statement's line are the whole of it.
use Rattle.std.proofs.Common.{◌≡◌, ◌++◌, ◌∷◌, List, [], Result, Ok, Err, is_ok, OnOk, if◌then◌else◌, codes, decimal, ℕ, map, append_assoc, refl, ap, ◌∙◌}
use Rattle.json.specs.Print.{escape_byte, quoted}
use Rattle.binlog_select.specs.declared.kind.ChangeKind.TheVariants.{Statement as Stated}
use Rattle.binlog_units.specs.Statements.{StatementText}
use Rattle.binlog_feed.specs.Changes.{RowChange}
use Rattle.binlog_json.specs.Json.{Items, items_of, compact_text}
use Rattle.binlog_json.specs.FullLine.{text_as}
use Rattle.binlog_json.specs.Line.{gtid_data, kind_text, stated_data, statement_data, statements_data}
use Rattle.binlog_json.specs.Values.{bytes_data}
use Rattle.binlog_json.specs.Written.{end_part, gtid_part, kind_part, place_part, statements_part}
use Rattle.binlog_json.specs.declared.style.Style.{Style}
use Rattle.binlog_json.specs.declared.style.Style.TheVariants.{Plain, Full}
use Rattle.binlog_json.proofs.LineParts.{rest_text, rest_is, tail_is}

-- ---- a statement

statement_is : (s : StatementText)
    → codes "{\"schema\":" ++ (compact_text (bytes_data s.schema) ++ (codes ",\"text\":" ++ (compact_text (bytes_data s.text) ++ (codes ",\"timestamp\":" ++ (decimal s.timestamp ++ codes "}")))))
    ≡ compact_text (statement_data s)
unfolding escape_byte
statement_is s = refl

pub statement_written : {E : Type 0} (r : Result (Unit {0}) E) (s : StatementText) (old l1 l2 l3 l4 l5 l6 new : List ℕ) → l1 ≡ old ++ codes "{\"schema\":" → l2 ≡ l1 ++ compact_text (bytes_data s.schema)
    → l3 ≡ l2 ++ codes ",\"text\":" → l4 ≡ l3 ++ compact_text (bytes_data s.text) → l5 ≡ l4 ++ codes ",\"timestamp\":" → l6 ≡ l5 ++ decimal s.timestamp → new ≡ (if is_ok r then l6 ++ codes "}" else l6)
    → OnOk r (new ≡ old ++ compact_text (statement_data s))
statement_written (Err x) s old l1 l2 l3 l4 l5 l6 new p q t u w y z = tt
statement_written (Ok o) s old l1 l2 l3 l4 l5 l6 new p q t u w y z =
    let schema = compact_text (bytes_data s.schema) in
    let text = compact_text (bytes_data s.text) in
    let parts : new ≡ old ++ (codes "{\"schema\":" ++ (schema ++ (codes ",\"text\":" ++ (text ++ (codes ",\"timestamp\":" ++ (decimal s.timestamp ++ codes "}")))))) = z ∙ rw (y, w, u, t, q, p) (simp append_assoc) in
    parts ∙ ap (λ (l : List ℕ). old ++ l) (statement_is s)

-- ---- statements, one behind another

abbrev pub statement_items : List StatementText → Items
statement_items statements = items_of (map statement_data statements)

-- ---- the whole line

joined : (p g q k u s rest : List ℕ) → (p ++ g) ++ ((q ++ k) ++ ((u ++ s) ++ rest)) ≡ p ++ (g ++ (q ++ (k ++ (u ++ (s ++ rest)))))
joined p g q k u s rest =
    append_assoc p g ((q ++ k) ++ ((u ++ s) ++ rest)) ∙ ap (λ (l : List ℕ). p ++ (g ++ l)) (append_assoc q k ((u ++ s) ++ rest) ∙ ap (λ (l : List ℕ). q ++ (k ++ l)) (append_assoc u s rest))

stated_parts : (c : RowChange)
    → 123 ∷ ((codes "\"gtid\":" ++ compact_text (gtid_data c.gtid)) ++ (kind_part c.kind ++ (statements_part c.statements ++ rest_text c))) ≡ compact_text (stated_data c)
unfolding escape_byte
stated_parts c =
    ap (λ (l : List ℕ). 123 ∷ l)
    (joined (codes "\"gtid\":") (compact_text (gtid_data c.gtid)) (codes ",\"kind\":") (quoted (kind_text c.kind)) (codes ",\"statements\":") (compact_text (statements_data c.statements)) (rest_text c))

pub stated_written : {E : Type 0} (r : Result (Unit {0}) E) (change : RowChange) (old l1 l2 l3 l4 l5 l6 new a b d e f : List ℕ) → l1 ≡ old ++ codes "{" → l2 ≡ l1 ++ a → l3 ≡ l2 ++ b
    → l4 ≡ l3 ++ statements_part change.statements → l5 ≡ l4 ++ d → l6 ≡ l5 ++ e → new ≡ (if is_ok r then l6 ++ f else l6) → 44 ∷ a ≡ gtid_part change.gtid → b ≡ kind_part change.kind
    → d ≡ place_part change.timestamp change.position → e ≡ decimal change.number → 34 ∷ f ≡ 34 ∷ end_part change.file → OnOk r (new ≡ old ++ compact_text (stated_data change))
stated_written (Err x) change old l1 l2 l3 l4 l5 l6 new a b d e f p q t u w y z ea eb ed ee ef = tt
stated_written (Ok o) change old l1 l2 l3 l4 l5 l6 new a b d e f p q t u w y z ea eb ed ee ef =
    let s = statements_part change.statements in
    let first = codes "\"gtid\":" ++ compact_text (gtid_data change.gtid) in
    let kind = kind_part change.kind in
    let place = place_part change.timestamp change.position in
    let parts : new ≡ old ++ (codes "{" ++ (a ++ (b ++ (s ++ (d ++ (e ++ f)))))) = z ∙ rw (y, w, u, t, q, p) (simp append_assoc) in
    parts ∙ ap (λ (l : List ℕ). old ++ (codes "{" ++ (l ++ (b ++ (s ++ (d ++ (e ++ f))))))) (tail_is 44 a first ea)
    ∙ ap (λ (l : List ℕ). old ++ (codes "{" ++ (first ++ (l ++ (s ++ (d ++ (e ++ f))))))) eb
    ∙ ap (λ (l : List ℕ). old ++ (codes "{" ++ (first ++ (kind ++ (s ++ (l ++ (e ++ f))))))) ed
    ∙ ap (λ (l : List ℕ). old ++ (codes "{" ++ (first ++ (kind ++ (s ++ (place ++ (l ++ f))))))) ee
    ∙ ap (λ (l : List ℕ). old ++ (codes "{" ++ (first ++ (kind ++ (s ++ (place ++ (decimal change.number ++ l))))))) (tail_is 34 f (end_part change.file) ef)
    ∙ ap (λ (l : List ℕ). old ++ (codes "{" ++ (first ++ (kind ++ (s ++ l))))) (rest_is change)
    ∙ ap (λ (l : List ℕ). old ++ l) (stated_parts change)

of_statement : (style : Style) (c : RowChange) → c.kind ≡ Stated → compact_text (stated_data c) ≡ text_as style c
of_statement Plain c is = rw is refl
of_statement Full c is = rw is refl

pub whole_stated : {E : Type 0} (r : Result (Unit {0}) E) (style : Style) (c : RowChange) (start new : List ℕ) → c.kind ≡ Stated → start ≡ [] → OnOk r (new ≡ start ++ compact_text (stated_data c)) → OnOk r (new ≡ text_as style c)
whole_stated (Ok u) style c start new is s written = written ∙ ap (λ (text : List ℕ). text ++ compact_text (stated_data c)) s ∙ of_statement style c is
whole_stated (Err x) style c start new is s written = tt
