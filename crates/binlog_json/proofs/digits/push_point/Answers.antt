use Rattle.std.specs.Str.{IsUtf8}
use Rattle.std.proofs.Common.{subst, sym}
use Rattle.std.proofs.lemmas.Str.{IsUtf8-from_ascii}
use Rattle.binlog_json.proofs.DigitLists.{digits_ascii}
use Rattle.binlog_json.proofs.digits.push_point.Goals as goal

pub from_utf8_unchecked-requires : goal.from_utf8_unchecked-requires
from_utf8_unchecked-requires c = subst IsUtf8 (sym c.requires.shown) (IsUtf8-from_ascii _ (digits_ascii c.args.digits.now c.requires.digits))
