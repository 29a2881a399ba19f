use Rattle.binlog_table.proofs.MapSteps.{strict_at}
use Rattle.binlog_table.proofs.ProfileMaps.{alike, strict_is_named, server_takes}
use Rattle.binlog_table.proofs.laws.profiles_read_maps.Goals as goal

pub returns : goal.returns
returns c = record { alike = alike; named = strict_is_named; strict = strict_at; taken = server_takes }
