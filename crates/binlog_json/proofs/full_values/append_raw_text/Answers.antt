use Rattle.binlog_json.proofs.RawTexts.{utf8_of_ascii}
use Rattle.binlog_json.proofs.full_values.append_raw_text.Goals as goal

pub returns-then-is_float-clause-utf8 : goal.returns-then-is_float-clause-utf8
returns-then-is_float-clause-utf8 c = utf8_of_ascii c.push_stored.result _ _ c.push_stored.ensures.ascii

pub returns-then-is_vector-clause-utf8 : goal.returns-then-is_vector-clause-utf8
returns-then-is_vector-clause-utf8 c = utf8_of_ascii c.append_vector.result _ _ c.append_vector.ensures.ascii
