-- The labels of columns, kept behind one another.
use Rattle.std.proofs.Common.{inl, inr, ◌≡◌, ℕ, zero, suc, ◌+◌, ◌-◌, ◌<◌, ◌≤◌, List, [], ◌∷◌, ◌++◌, Bool, true, false, cond, length, take, drop, slice_get, slice_index_or, Some, length-append, append_assoc, refl, ap, sym, subst, ◌∙◌, arith}
use Rattle.std.proofs.Math.Seq.{drop-append_seam}
use Rattle.std.proofs.lemmas.Bool.{cases_lt}
use Rattle.std.proofs.lemmas.List.{drop-append-le, drop-take, get_or_append_left, get_or_default, get_or_push, length-drop, take-append-le, take_all}
use Rattle.std.proofs.lemmas.Str.{IsCharBoundary-before_ascii, IsUtf8-append, IsUtf8-drop, IsUtf8-from_is_utf8, is_utf8-from_IsUtf8}
use Rattle.std.specs.Str.{IsUtf8, is_utf8}
use Rattle.std.proofs.lemmas.Option.{get_or_from_slice_get}
use Rattle.json.specs.Print.{quoted}
use Rattle.json.proofs.Printed.Utf8.{IsUtf8-are_ascii, IsUtf8-key}
use Rattle.binlog_table.specs.NameOrder.{name_of}
use Rattle.binlog_json.specs.Joining.{comma_if}
use Rattle.binlog_json.specs.Labels.{label_text, IsLabel, AreWritten, AreLabels}

longer : (names : List (List ℕ)) (text more new : List ℕ) (column : ℕ) (b : ℕ × ℕ) → IsLabel names text column b → new ≡ text ++ more → IsLabel names new column b
longer names text more new column b h is =
    let len : length new ≡ length text + length more = ap length is ∙ length-append text more in
    let ordered = h.ordered in
    let within = h.within in
    record {
      ordered = h.ordered;
      within = omega arith;
      is = rw (is, drop-append-le b.0 text more (omega arith), take-append-le (b.1 - b.0) (drop b.0 text) more (omega (arith, length-drop b.0 text))) h.is;
      utf8 = h.utf8;
    }

-- what stands behind labels leaves them
pub longer_labels : (names : List (List ℕ)) (text more new : List ℕ) (bounds : List (ℕ × ℕ)) → AreWritten names text bounds → new ≡ text ++ more → AreWritten names new bounds
longer_labels names text more new bounds each is column below = longer names text more new column (slice_index_or bounds column (0, 0)) (each column below) is

newest : (names : List (List ℕ)) (text new : List ℕ) (k : ℕ) → new ≡ text ++ label_text names k → is_utf8 (label_text names k) ≡ true → IsLabel names new k (length text, length new)
newest names text new k is utf8 =
    let len : length new ≡ length text + length (label_text names k) = ap length is ∙ length-append text (label_text names k) in
    let size : length new - length text ≡ length (label_text names k) = omega arith in
    record {
      ordered = omega arith;
      within = omega arith;
      is = rw (size, is, drop-append_seam text (label_text names k)) (take_all (length (label_text names k)) (label_text names k) (omega arith));
      utf8 = utf8;
    }

pub each_more : (names : List (List ℕ)) (text new : List ℕ) (bounds after : List (ℕ × ℕ)) (k : ℕ) → AreWritten names text bounds → length bounds ≡ k → new ≡ text ++ label_text names k → is_utf8 (label_text names k) ≡ true
    → after ≡ bounds ++ (length text, length new) ∷ [] → AreWritten names new after
each_more names text new bounds after k each count is utf8 pushed column below =
    let len : length after ≡ length bounds + 1 = ap length pushed ∙ length-append bounds ((length text, length new) ∷ []) in
    rw pushed (elim (cases_lt column (length bounds)) [
      | inl lower ↦ rw (get_or_append_left bounds ((length text, length new) ∷ []) (0, 0) column lower) (longer names text (label_text names k) new column _ (each column lower) is)
      | inr upper ↦
          let same : length bounds ≡ column = omega arith in
          rw (get_or_push bounds (length text, length new) (0, 0) column same) (newest names text new column (rw (← count, same) at is) (rw (← count, same) at utf8))
    ])

pub named_label : (names : List (List ℕ)) (text comma new : List ℕ) (k : ℕ) (name : List ℕ) → slice_get names k ≡ Some name → comma ≡ text ++ 44 ∷ [] → new ≡ comma ++ (quoted name ++ 58 ∷ [])
    → new ≡ text ++ label_text names k
named_label names text comma new k name at behind is =
    is ∙ ap (λ (t : List ℕ). t ++ (quoted name ++ 58 ∷ [])) behind ∙ append_assoc text (44 ∷ []) (quoted name ++ 58 ∷ []) ∙ ap (λ n. text ++ (44 ∷ (quoted n ++ 58 ∷ []))) (sym (get_or_from_slice_get names k name [] at))

comma_utf8 : IsUtf8 (44 ∷ [])
comma_utf8 = IsUtf8-are_ascii (44 ∷ []) refl

pub named_utf8 : (names : List (List ℕ)) (k : ℕ) (name : List ℕ) → slice_get names k ≡ Some name → IsUtf8 name → is_utf8 (label_text names k) ≡ true
named_utf8 names k name at text =
    ap (λ n. is_utf8 (44 ∷ (quoted n ++ 58 ∷ []))) (get_or_from_slice_get names k name [] at)
    ∙ is_utf8-from_IsUtf8 (44 ∷ (quoted name ++ 58 ∷ [])) (IsUtf8-append (44 ∷ []) (quoted name ++ 58 ∷ []) comma_utf8 (IsUtf8-key name text))

-- a label is text
label_utf8 : (names : List (List ℕ)) (text : List ℕ) (bounds : List (ℕ × ℕ)) (column : ℕ) → AreLabels names text bounds → column < length names → IsUtf8 (label_text names column)
label_utf8 names text bounds column h below =
    let all = h.all in
    IsUtf8-from_is_utf8 (label_text names column) (h.each column (omega arith)).utf8

-- also without its comma
joined_utf8_at : (later : Bool) (names : List (List ℕ)) (column : ℕ) → IsUtf8 (label_text names column) → IsUtf8 (cond later (label_text names column) (drop 1 (label_text names column)))
joined_utf8_at true names column is = is
joined_utf8_at false names column is = IsUtf8-drop (label_text names column) 1 is (IsCharBoundary-before_ascii (label_text names column) 1 (omega arith) (omega arith))

pub joined_utf8 : (names : List (List ℕ)) (text : List ℕ) (bounds : List (ℕ × ℕ)) (column : ℕ) (later : Bool) (label joined : List ℕ) → AreLabels names text bounds → column < length names
    → label ≡ label_text names column → joined ≡ cond later label (drop 1 label) → IsUtf8 joined
joined_utf8 names text bounds column later label joined h below is cut =
    subst IsUtf8 (sym (cut ∙ ap (λ (l : List ℕ). cond later l (drop 1 l)) is)) (joined_utf8_at later names column (label_utf8 names text bounds column h below))

-- a label that is joined to what stands before it
joined_at : (later : Bool) (names : List (List ℕ)) (column : ℕ) → cond later (label_text names column) (drop 1 (label_text names column)) ≡ comma_if later ++ (quoted (name_of names column) ++ 58 ∷ [])
joined_at true names column = refl
joined_at false names column = refl

pub joined_is : (names : List (List ℕ)) (column : ℕ) (later : Bool) (label joined : List ℕ) → label ≡ label_text names column → joined ≡ cond later label (drop 1 label)
    → joined ≡ comma_if later ++ (quoted (name_of names column) ++ 58 ∷ [])
joined_is names column later label joined is cut = cut ∙ ap (λ (l : List ℕ). cond later l (drop 1 l)) is ∙ joined_at later names column

pub without_first : (label : List ℕ) (count : ℕ) → 0 < count → take (count - 1) (drop 1 label) ≡ drop 1 (take count label)
without_first label count some =
    let whole : 1 + (count - 1) ≡ count = omega (arith, some) in
    sym (drop-take 1 (count - 1) label) ∙ ap (λ k. drop 1 (take k label)) whole

-- a label has bytes
pub some_label : (names : List (List ℕ)) (column count : ℕ) (text : List ℕ) → take count text ≡ label_text names column → 0 < count
some_label names column zero text is = absurd (cc)
some_label names column (suc count) text is = omega arith

-- a label ends behind its beginning
pub bounds_ordered : (names : List (List ℕ)) (text : List ℕ) (bounds : List (ℕ × ℕ)) (column : ℕ) (b : ℕ × ℕ) → AreLabels names text bounds → column < length names → b ≡ slice_index_or bounds column b → b.0 ≤ b.1
bounds_ordered names text bounds column b h below at =
    let all = h.all in
    let within : column < length bounds = omega arith in
    let same : slice_index_or bounds column (0, 0) ≡ b = get_or_default bounds column (0, 0) b within ∙ sym at in
    subst (λ (p : ℕ × ℕ). p.0 ≤ p.1) same (h.each column within).ordered
