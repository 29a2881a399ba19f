-- What is unfolded to compute the definitions on bytes that are written out.
use Rattle.std.specs.Prelude.{⊤}
use lib.Utf8.{encode}
use lib.Ieee.{round, to_bits}
use Rattle.std.specs.Fmt.{digits}
use Rattle.std.specs.Str.{is_utf8, chars}
use Rattle.base64.specs.Rfc4648.{encode_symbols}
use Rattle.json.proofs.OnLiterals.{json_on_literals}
use Rattle.float_text.specs.Shortest.{coarsest}
use Rattle.binlog_documents.specs.Scalars.{literal_at, number_at, double_at, length_at, counted_at, utf8_text, text_at, opaque_at, scalar_at}
use Rattle.binlog_documents.specs.Containers.{container_at, value_place, value_in, key_in, elements_in, members_in, array_at, object_at, value_at, document_at}
use Rattle.binlog_documents.specs.Opaques.{time_opaque, digits_in, decimal_opaque}

unfoldable pub on_documents : ⊤
unfolding encode round to_bits digits is_utf8 chars encode_symbols json_on_literals coarsest literal_at number_at double_at length_at counted_at utf8_text text_at opaque_at scalar_at container_at value_place value_in key_in elements_in members_in array_at object_at value_at document_at time_opaque digits_in decimal_opaque
on_documents = tt
