-- A natural number as digits to the base 2 ^ 64, the lowest first.
use Rattle.std.specs.Prelude.{◌≡◌, ℕ, zero, suc, ◌+◌, ◌*◌, ◌^◌, ◌≤◌, List, slice_index}

-- what a 1 counts in the limb with this index
unfoldable pub weight : ℕ → ℕ
weight index = (2 ^ 64) ^ index

-- the number in the first `count` limbs
unfoldable pub number_in : List ℕ → ℕ → ℕ
number_in limbs zero = 0
number_in limbs (suc count) = number_in limbs count + slice_index limbs count * weight count

-- the limbs behind the first `count` are 0
abbrev pub AreZeroFrom : List ℕ → ℕ → Type 0
AreZeroFrom limbs count = (index : ℕ) → count ≤ index → slice_index limbs index ≡ 0
