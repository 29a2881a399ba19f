-- The text of a double is a number of JSON.
use Rattle.std.proofs.Common.{◌≡◌, ℕ, ◌%◌, ◌*◌, ◌^◌, true}
use Rattle.std.specs.Float.{binary64}
use Rattle.std.proofs.lemmas.Bool.{ltb-true}
use Rattle.json.specs.Print.{IsNumber}
use Rattle.float_text.proofs.Found.{number_text_is_number}
use Rattle.binlog_documents.specs.Scalars.{is_finite}
use Rattle.binlog_documents.specs.Texts.{double_text}

pub double_number : (bits : ℕ) → is_finite bits ≡ true → IsNumber (double_text bits)
double_number bits finite = number_text_is_number binary64 bits (ltb-true (bits % 2 ^ 63) (2047 * 2 ^ 52) finite)
