-- The text of a double reads back as it.
use Rattle.std.proofs.Common.{◌%◌, ◌*◌, ◌^◌}
use Rattle.std.specs.Float.{binary64}
use Rattle.std.proofs.lemmas.Bool.{ltb-true}
use Rattle.float_text.proofs.ReadBack.{text_reads_back}
use Rattle.binlog_documents.specs.DoublesReadBack.{DoublesReadBack}

pub doubles_read_back : DoublesReadBack
doubles_read_back bits width finite = text_reads_back binary64 bits width (ltb-true (bits % 2 ^ 63) (2047 * 2 ^ 52) finite)
