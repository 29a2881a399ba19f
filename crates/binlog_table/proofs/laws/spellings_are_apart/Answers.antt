use Rattle.binlog_table.proofs.ImageReadings.{values-apart, images-apart}
use Rattle.binlog_table.proofs.laws.spellings_are_apart.Goals as goal

pub returns : goal.returns
returns c = record { values = values-apart; images = images-apart }
