-- The window of a run.
use Rattle.std.specs.Prelude.{ℕ}

-- a run begins with a window of 64 KiB
abbrev pub first_window_length : ℕ
first_window_length = 65536
