-- A length of few bytes is small.
use Rattle.std.proofs.Common.{◌≡◌, ℕ, zero, suc, ◌+◌, ◌-◌, ◌*◌, ◌^◌, ◌<◌, ◌≤◌, refl, arith}
use Rattle.std.proofs.Math.Nat.{pow-succ', pow-le-pow_right, one-le-pow}

pub length-limit : (most : ℕ) → 0 < most → 128 ^ most ≡ 128 * 128 ^ (most - 1)
length-limit zero some = absurd (omega arith)
length-limit (suc n) some = let e : suc n - 1 ≡ n = omega arith in rw (e, pow-succ' 128 n) refl

pub limit-fits : (most : ℕ) → most ≤ 5 → 128 ^ most ≤ 34359738368
limit-fits most few = let from : 128 ^ most ≤ 128 ^ 5 = pow-le-pow_right {n = 128} (omega arith) few in from

pub short-length : (first most : ℕ) → 0 < most → first < 128 → first < 128 ^ most
short-length first most some small =
    let one_more = length-limit most some in let positive = one-le-pow (most - 1) 128 (omega arith) in omega arith

pub longer-length : (first above most : ℕ) → 0 < most → first < 256 → above < 128 ^ (most - 1) → first - 128 + 128 * above < 128 ^ most
longer-length first above most some byte below = let one_more = length-limit most some in omega arith
