-- What is unfolded to compute values, and the text of JSON.
use Rattle.std.specs.Prelude.{⊤}
use lib.Utf8.{encode}
use Rattle.std.specs.Fmt.{digits}
use Rattle.std.specs.Str.{is_utf8, chars}
use Rattle.std.specs.Char.Utf16.{utf16_chars}
use lib.Ieee.{round, to_bits}
use Rattle.float_text.specs.Shortest.{coarsest}
use Rattle.base64.specs.Rfc4648.{encode_symbols}
use Rattle.json.specs.Print.{escape_byte}
use Rattle.binlog_documents.specs.Scalars.{literal_at, number_at, double_at, length_at, counted_at, utf8_text, text_at, opaque_at, scalar_at}
use Rattle.binlog_documents.specs.Containers.{container_at, value_place, value_in, key_in, elements_in, members_in, array_at, object_at, value_at, document_at}
use Rattle.binlog_documents.specs.Opaques.{time_opaque, digits_in, decimal_opaque}
use Rattle.binlog_types.specs.Charsets.{character_table}
use Rattle.binlog_json.specs.Encodings.{text_by, units_of, utf32_text}
use Rattle.binlog_json.specs.FullValues.{float_texts}

unfoldable pub on_values : ⊤
unfolding round to_bits coarsest encode digits is_utf8 chars utf16_chars encode_symbols escape_byte character_table text_by units_of utf32_text literal_at number_at double_at length_at counted_at utf8_text text_at opaque_at scalar_at container_at value_place value_in key_in elements_in members_in array_at object_at value_at document_at time_opaque digits_in decimal_opaque float_texts
on_values = tt
