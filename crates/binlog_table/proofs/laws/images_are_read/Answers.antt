use Rattle.binlog_table.proofs.ImageReadings.{image_at-found, image_at-only}
use Rattle.binlog_table.proofs.laws.images_are_read.Goals as goal

pub returns : goal.returns
returns c = record { found = image_at-found; only = image_at-only }
