use Rattle.float_text.proofs.ReadBack.{text_reads_back}
use Rattle.float_text.proofs.laws.texts_read_back.Goals as goal

pub returns : goal.returns
returns c = text_reads_back
