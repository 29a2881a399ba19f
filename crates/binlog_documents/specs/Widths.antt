-- How many bytes the numbers of a container have.
use Rattle.std.specs.Prelude.{ℕ}
use Rattle.binlog_documents.specs.declared.container.Width.{Width}
use Rattle.binlog_documents.specs.declared.container.Width.TheVariants.{Two, Four}
use Rattle.binlog_documents.specs.declared.container.Container as stored
use Rattle.binlog_documents.specs.Containers.{Container}

abbrev pub bytes_of : Width → ℕ
bytes_of Two = 2
bytes_of Four = 4

-- a container without where its bytes lie in memory
abbrev pub container_view : stored.Container → Container
container_view c = record { count = c.count; bytes = c.bytes.now }
