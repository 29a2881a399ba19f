-- What extent_len finds is a text, and the only one.
use Rattle.std.proofs.Common.{◌≡◌, ℕ, ◌+◌, ◌≤◌, true, cond, leb, List, ◌++◌, length, take, drop, Some, None, sym, ap, ◌∙◌, arith}
use Rattle.std.proofs.lemmas.Bool.{leb-true, le-leb}
use Rattle.std.proofs.lemmas.List.{take-append-drop, length-append, length-take}
use Rattle.std.proofs.lemmas.Option.{same_Some}
use Rattle.byteorder.specs.Endian.{little_number}
use Rattle.byteorder.specs.Numbers.{little_from-append}
use Rattle.binlog_table.specs.declared.extent.Extent.{Extent}
use Rattle.binlog_table.specs.declared.extent.Extent.TheVariants.{Fixed, Prefixed}
use Rattle.binlog_table.specs.Extent.{HasExtent, extent_len}
use Rattle.binlog_table.proofs.Options.{guarded}

-- the number at the front of a part is that at the front of the whole
pub little-take : (w n : ℕ) (bytes : List ℕ) → w ≤ n → n ≤ length bytes → little_number w (take n bytes) ≡ little_number w bytes
little-take w n bytes h k =
    sym (little_from-append w (take n bytes) (drop n bytes) (omega (arith, length-take n bytes))) ∙ ap (little_number w) (take-append-drop n bytes)

pub extent_len-found : (s : Extent) (bytes : List ℕ) (n : ℕ) → extent_len s bytes ≡ Some n → (n ≤ length bytes) × HasExtent s (take n bytes)
unfolding extent_len
extent_len-found (Fixed m) bytes n e =
    let g = guarded (leb m (length bytes)) (Some m) n e in
    let le : m ≤ length bytes = leb-true _ _ g.0 in
    let same : m ≡ n = same_Some m n g.1 in
    (omega arith, omega (arith, length-take n bytes))
extent_len-found (Prefixed w) bytes n e =
    let whole = w + little_number w bytes in
    let g = guarded (leb w (length bytes)) (cond (leb whole (length bytes)) (Some whole) None) n e in
    let h = guarded (leb whole (length bytes)) (Some whole) n g.1 in
    let le : w ≤ length bytes = leb-true _ _ g.0 in
    let le' : whole ≤ length bytes = leb-true _ _ h.0 in
    let same : whole ≡ n = same_Some whole n h.1 in
    let front = little-take w n bytes (omega arith) (omega arith) in
    (omega arith, (omega (arith, length-take n bytes), omega (arith, length-take n bytes)))

pub extent_len-only : (s : Extent) (text rest : List ℕ) → HasExtent s text → extent_len s (text ++ rest) ≡ Some (length text)
unfolding extent_len
extent_len-only (Fixed m) text rest h =
    let le : leb m (length (text ++ rest)) ≡ true = le-leb _ _ (omega (arith, length-append text rest)) in
    rw le (ap Some (sym h))
extent_len-only (Prefixed w) text rest h =
    let front : little_number w (text ++ rest) ≡ little_number w text = little_from-append w text rest h.0 in
    let le : leb w (length (text ++ rest)) ≡ true = le-leb _ _ (omega (arith, length-append text rest)) in
    let le' : leb (w + little_number w text) (length (text ++ rest)) ≡ true = le-leb _ _ (omega (arith, length-append text rest)) in
    rw (le, front, le') (ap Some (sym h.1))

-- for a search
pub found_text : (s : Extent) (bytes : List ℕ) (n : ℕ) → Some n ≡ extent_len s bytes → (n ≤ length bytes) × HasExtent s (take n bytes)
found_text s bytes n e = extent_len-found s bytes n (sym e)
