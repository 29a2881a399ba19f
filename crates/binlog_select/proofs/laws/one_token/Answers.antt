use Rattle.binlog_select.proofs.TokenLemmas.{one_token_text}
use Rattle.binlog_select.proofs.laws.one_token.Goals as goal

pub returns : goal.returns
returns c = λ text file other_file position count other_position other_count is also. one_token_text text position count file other_position other_count other_file is also
