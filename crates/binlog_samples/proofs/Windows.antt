-- The event that a window needs is the one that the tests find.
use Rattle.std.proofs.Common.{◌≡◌, ℕ, List, drop, sym, ap, ◌∙◌}
use Rattle.std.specs.Prelude.{None}
use Rattle.binlog_frame.specs.Cutting.{Event}
use Rattle.binlog_frame.specs.Frames.{NeedsWindow, next_place, next_checksum}
use Rattle.binlog_frame.specs.Header.{length_field, header_of}
use Rattle.binlog_frame.specs.Reading.{stop_of}
use Rattle.binlog_frame.specs.declared.fault.FrameFault.TheVariants.{WindowTooSmall}
use Rattle.binlog_frame.specs.declared.frames.Frames.{Frames}
use Rattle.binlog_frame.proofs.Stopping.{found_first}

-- it has the length that its header says
pub needed_length : (file : List ℕ) (frames : Frames) (n : ℕ) → NeedsWindow file frames (WindowTooSmall n) → length_field (drop (next_place frames) file) ≡ n
unfolding length_field header_of
needed_length file frames n needs =
    let found = found_first (next_checksum frames) (next_place frames) (drop (next_place frames) file) needs.1 needs.2.0 needs.2.1 in
    sym (ap (λ (event : Event). event.header.length) found.event_is) ∙ needs.3

-- and it is whole
pub needed_whole : (file : List ℕ) (frames : Frames) (n : ℕ) → NeedsWindow file frames (WindowTooSmall n) → stop_of (next_checksum frames) (drop (next_place frames) file) ≡ None
needed_whole file frames n needs = (found_first (next_checksum frames) (next_place frames) (drop (next_place frames) file) needs.1 needs.2.0 needs.2.1).stop
