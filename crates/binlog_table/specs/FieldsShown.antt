-- Optional fields without where they lie in memory.
use Rattle.std.specs.Prelude.{option_map}
use Rattle.binlog_table.specs.declared.fields.Fields.{Fields}
use Rattle.binlog_table.specs.Fields as spec

abbrev pub fields_view : Fields → spec.Fields
fields_view f = record {
  signs = option_map (λ x. x.now) f.signs;
  names = option_map (λ x. x.now) f.names;
  set_names = option_map (λ x. x.now) f.set_names;
  enum_names = option_map (λ x. x.now) f.enum_names;
  key = option_map (λ x. x.now) f.key;
  prefix_key = option_map (λ x. x.now) f.prefix_key;
  default_charset = option_map (λ x. x.now) f.default_charset;
  column_charset = option_map (λ x. x.now) f.column_charset;
  default_name_charset = option_map (λ x. x.now) f.default_name_charset;
  column_name_charset = option_map (λ x. x.now) f.column_name_charset;
  dimensions = option_map (λ x. x.now) f.dimensions;
}
