-- What the shortest decimal is among those that read back.
use Rattle.std.specs.Prelude.{◌≡◌, ◌<◌, ◌≤◌, ℕ, ◌+◌, ◌*◌, ◌^◌, true}
use Rattle.std.specs.Float.Ieee.{Format}
use Rattle.float_text.specs.Shortest.{reads_as, scaled_num, scaled_den}

-- no decimal that reads back has a greater power
abbrev pub IsCoarsest : Format → ℕ → ℕ → Type 0
IsCoarsest f bits power = (x i : ℕ) → reads_as f bits x i ≡ true → i ≤ power

-- nor fewer digits
abbrev pub HasFewestDigits : Format → ℕ → ℕ → Type 0
HasFewestDigits f bits digits = (x i n : ℕ) → reads_as f bits x i ≡ true → 0 < n → x < 10 ^ n → digits < 10 ^ n

-- of those at this power the float is as close to no greater one: it isn't above the point halfway to it
abbrev pub IsClosestAbove : Format → ℕ → ℕ → ℕ → Type 0
IsClosestAbove f bits digits power =
    (x : ℕ) → digits < x → reads_as f bits x power ≡ true → 2 * scaled_num f bits ≤ (digits + x) * scaled_den f power

-- nor is it below the point halfway to a smaller one
abbrev pub IsClosestBelow : Format → ℕ → ℕ → ℕ → Type 0
IsClosestBelow f bits digits power =
    (x : ℕ) → x < digits → reads_as f bits x power ≡ true → (digits + x) * scaled_den f power ≤ 2 * scaled_num f bits
