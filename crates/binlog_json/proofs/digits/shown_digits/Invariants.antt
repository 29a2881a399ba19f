use Rattle.std.proofs.Common.{◌≡◌, length, take}
use Rattle.binlog_json.specs.Texts.{digits_text}
use Rattle.binlog_json.proofs.digits.shown_digits.Given as goal

abbrev pub invariant-loop-place : goal.invariant-loop-place
invariant-loop-place l = record { size : length l.shown ≡ 65; front : take l.place l.shown ≡ digits_text (take l.place l.digits) }
