-- The sections of a body without where they lie in memory.
use Rattle.binlog_table.specs.declared.sections.Sections.{Sections}
use Rattle.binlog_table.specs.Map as spec
use Rattle.binlog_table.specs.FieldsShown.{fields_view}

abbrev pub sections_view : Sections → spec.Sections
sections_view s = record {
  table_id = s.table_id;
  schema = s.schema.now;
  table = s.table.now;
  types = s.types.now;
  metadata = s.metadata.now;
  fields = fields_view s.fields;
}
