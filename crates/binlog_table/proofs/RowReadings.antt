-- Rows that are read are spelled so, and rows that are spelled so are read.
use Rattle.std.proofs.Common.{◌≡◌, ℕ, ◌+◌, ◌<◌, ◌≤◌, true, ltb, List, ◌++◌, length, take, drop, Option, Some, None, option_and_then, refl, sym, ap, subst, ◌∙◌, append_assoc, arith}
use Rattle.std.proofs.Math.Seq.{take-add}
use Rattle.std.proofs.lemmas.Bool.{ltb-true, lt-ltb}
use Rattle.std.proofs.lemmas.List.{take-append-drop, drop_at, length-append, length-take-le, length-drop}
use Rattle.std.proofs.lemmas.Option.{same_Some}
use Rattle.binlog_table.specs.declared.column.Column.{Column}
use Rattle.binlog_table.specs.Value.{Content}
use Rattle.binlog_table.specs.Image.{image_at}
use Rattle.binlog_table.specs.Rows.{Row, IsOptionalImage, optional_image_at, row_at, sized}
use Rattle.binlog_table.proofs.Options.{and_then_ok, map_ok, guarded}
use Rattle.binlog_table.proofs.ImageReadings.{image_at-found, image_at-only}

optional-found : (types : List Column) (p : Option (List ℕ)) (bytes : List ℕ) (o : Option (List Content)) (n : ℕ) → optional_image_at types p bytes ≡ Some (o, n) → (n ≤ length bytes) × IsOptionalImage types p o (take n bytes)
unfolding optional_image_at
optional-found types None bytes o n e =
    subst (λ (x : Option (List Content) × ℕ). (x.1 ≤ length bytes) × IsOptionalImage types None x.0 (take x.1 bytes)) (same_Some (None, 0) (o, n) e) (omega arith, refl)
optional-found types (Some present) bytes o n e =
    let m = map_ok (image_at types present bytes) (λ x. (Some x.0, x.1)) (o, n) e in
    subst (λ (x : Option (List Content) × ℕ). (x.1 ≤ length bytes) × IsOptionalImage types (Some present) x.0 (take x.1 bytes)) m.2 (image_at-found types present bytes m.0.0 m.0.1 m.1)

optional-only : (types : List Column) (p : Option (List ℕ)) (text rest : List ℕ) (o : Option (List Content)) → IsOptionalImage types p o text → optional_image_at types p (text ++ rest) ≡ Some (o, length text)
unfolding optional_image_at
optional-only types None text rest None h = rw h refl
optional-only types None text rest (Some cells) h = absurd h
optional-only types (Some present) text rest None h = absurd h
optional-only types (Some present) text rest (Some cells) h = rw (image_at-only types present text rest cells h) refl

-- the row at the front, by its two texts
pub record Spelled (types : List Column) (before after : Option (List ℕ)) (bytes : List ℕ) (row : Row) (n : ℕ) : Type 0 where
  pub front : List ℕ
  pub back : List ℕ
  pub whole : bytes ≡ front ++ back ++ drop n bytes
  pub some : 0 < length (front ++ back)
  pub first : IsOptionalImage types before row.before front
  pub second : IsOptionalImage types after row.after back

pub row-found : (types : List Column) (before after : Option (List ℕ)) (bytes : List ℕ) (row : Row) (n : ℕ) → row_at types before after bytes ≡ Some (row, n) → Spelled types before after bytes row n
unfolding row_at
row-found types before after bytes row n e =
    let b = and_then_ok (optional_image_at types before bytes) (λ x. option_and_then (λ y. sized (record { before = x.0; after = y.0 }) (x.1 + y.1)) (optional_image_at types after (drop x.1 bytes))) (row, n) e in
    let a = and_then_ok (optional_image_at types after (drop b.0.1 bytes)) (λ y. sized (record { before = b.0.0; after = y.0 }) (b.0.1 + y.1)) (row, n) b.2 in
    let made : Row = record { before = b.0.0; after = a.0.0 } in
    let g = guarded (ltb 0 (b.0.1 + a.0.1)) (Some (made, b.0.1 + a.0.1)) (row, n) a.2 in
    let f = optional-found types before bytes b.0.0 b.0.1 b.1 in
    let s = optional-found types after (drop b.0.1 bytes) a.0.0 a.0.1 a.1 in
    let joined : take (b.0.1 + a.0.1) bytes ≡ take b.0.1 bytes ++ take a.0.1 (drop b.0.1 bytes) = take-add b.0.1 a.0.1 bytes in
    let fits : b.0.1 + a.0.1 ≤ length bytes = omega (arith, f.0, s.0, length-drop b.0.1 bytes) in
    let some : 0 < b.0.1 + a.0.1 = ltb-true _ _ g.0 in
    subst (λ (x : Row × ℕ). Spelled types before after bytes x.0 x.1) (same_Some (made, b.0.1 + a.0.1) (row, n) g.1) (record {
      front = take b.0.1 bytes;
      back = take a.0.1 (drop b.0.1 bytes);
      whole = sym (take-append-drop (b.0.1 + a.0.1) bytes) ∙ ap (λ (t : List ℕ). t ++ drop (b.0.1 + a.0.1) bytes) joined;
      some = omega (arith, some, ap length joined, length-take-le (b.0.1 + a.0.1) bytes fits);
      first = f.1;
      second = s.1;
    })

pub row-only : (types : List Column) (before after : Option (List ℕ)) (front back rest : List ℕ) (row : Row) → 0 < length (front ++ back) → IsOptionalImage types before row.before front → IsOptionalImage types after row.after back
    → row_at types before after (front ++ back ++ rest) ≡ Some (row, length (front ++ back))
unfolding row_at
row-only types before after front back rest row some first second =
    let f = optional-only types before front (back ++ rest) row.before first in
    let s = optional-only types after back rest row.after second in
    let test : ltb 0 (length front + length back) ≡ true = lt-ltb _ _ (omega (arith, length-append front back)) in
    ap (row_at types before after) (append_assoc front back rest) ∙ rw (f, drop_at front (back ++ rest) (length front) refl, s, test, length-append front back) refl
