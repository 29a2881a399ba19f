-- Places of files: the magic in front of them, the window that the event there needs, and the events whose bodies are read.
use Rattle.std.specs.Prelude.{◌≡◌, ℕ, List, [], ◌∷◌, take, drop, true, false}
use Rattle.binlog_frame.specs.Frames.{HasMagic, NeedsWindow}
use Rattle.binlog_frame.specs.declared.fault.Ending.TheVariants.{Complete}
use Rattle.binlog_frame.specs.declared.fault.FrameFault.TheVariants.{WindowTooSmall}
use Rattle.binlog_frame.specs.declared.frames.Frames.{Frames}
use Rattle.binlog_frame.specs.Kinds.{covers}
use Rattle.binlog_frame.specs.declared.kind.Bodies.TheVariants.{All, Simple}
use Rattle.binlog_frame.specs.declared.phase.Phase.{Phase}
use Rattle.binlog_frame.specs.declared.phase.Phase.TheVariants.{Start, Later, Stopped}
use Rattle.binlog_samples.specs.Files.{first_log}
use Rattle.binlog_samples.specs.Hex.{hex}

-- a file at whose beginning one stands has all four bytes of the magic; further on they aren't looked at again
abbrev pub Magic : Type 0
Magic =
    HasMagic first_log Start × HasMagic (hex "fe 62 69 6e") Start × HasMagic (hex "fd 62 69 6e") (Later 0) × HasMagic [] (Stopped Complete)
    × (HasMagic (hex "fd 62 69 6e") Start → ⊥) × (HasMagic (hex "fe 62 69 6f") Start → ⊥) × (HasMagic (hex "fe 62 69") Start → ⊥) × (HasMagic [] Start → ⊥)

abbrev pub standing : ℕ → Phase → Frames
standing place phase = record { file = 0; place = place; phase = phase }

abbrev pub Needs : List ℕ → Frames → ℕ → Type 0
Needs file frames length = NeedsWindow file frames (WindowTooSmall length)

-- 122 bytes of a format description at the beginning, then 27
abbrev pub Windows : Type 0
Windows = Needs first_log (standing 0 Start) 122 × Needs first_log (standing 126 (Later 0)) 27

-- not of another length, without the magic, where the event isn't whole, or where it has no such checksum
abbrev pub NoWindows : Type 0
NoWindows =
    (Needs first_log (standing 0 Start) 121 → ⊥) × (Needs first_log (standing 126 (Later 0)) 122 → ⊥) × (Needs (0xfd ∷ drop 1 first_log) (standing 0 Start) 122 → ⊥)
    × (Needs (take 125 first_log) (standing 0 Start) 122 → ⊥) × (Needs (take 145 first_log) (standing 126 (Later 4)) 19 → ⊥)

-- QUERY, ROTATE, XID, EXECUTE_LOAD_QUERY, GTID and ANONYMOUS_GTID have simple bodies
abbrev pub SimpleBodies : Type 0
SimpleBodies =
    (covers Simple 2 ≡ true) × (covers Simple 4 ≡ true) × (covers Simple 16 ≡ true) × (covers Simple 18 ≡ true) × (covers Simple 33 ≡ true) × (covers Simple 34 ≡ true)

-- STOP, FORMAT_DESCRIPTION, BEGIN_LOAD_QUERY, TABLE_MAP, ROWS_QUERY, the rows events and PREVIOUS_GTIDS have none; all bodies are theirs, too
abbrev pub OtherBodies : Type 0
OtherBodies =
    (covers Simple 3 ≡ false) × (covers Simple 15 ≡ false) × (covers Simple 17 ≡ false) × (covers Simple 19 ≡ false) × (covers Simple 29 ≡ false) × (covers Simple 30 ≡ false)
    × (covers Simple 31 ≡ false) × (covers Simple 32 ≡ false) × (covers Simple 35 ≡ false) × (covers All 19 ≡ true) × (covers All 30 ≡ true)
