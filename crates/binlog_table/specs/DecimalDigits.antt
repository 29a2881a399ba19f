-- How many digits a decimal column has, and how many of them stand after the point.
use Rattle.std.specs.Prelude.{ℕ, ◌≤◌}

pub record DecimalDigits : Type 0 where
  pub precision : ℕ
  pub scale : ℕ

-- 1 to 65 digits, up to 30 of them after the point
pub record IsInRange (d : DecimalDigits) : Type 0 where
  pub some : 1 ≤ d.precision
  pub many : d.precision ≤ 65
  pub few : d.scale ≤ 30
  pub within : d.scale ≤ d.precision
