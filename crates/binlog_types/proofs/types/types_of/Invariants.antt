use Rattle.std.proofs.Common.{◌≡◌, map, take, count_by}
use Rattle.std.specs.List.{range_with_len}
use Rattle.binlog_types.specs.ColumnTypes.{has_sign, is_text, is_named, is_vector, metadata_at, code_at, type_at}
use Rattle.binlog_types.proofs.types.types_of.Given as goal

abbrev pub invariant-loop-code : goal.invariant-loop-code
invariant-loop-code l = record {
  signs : l.seen.signs ≡ count_by has_sign (take l.code-index l.map.sections.types);
  texts : l.seen.texts ≡ count_by is_text (map (code_at l.map.sections) (range_with_len 0 l.code-index));
  names : l.seen.names ≡ count_by is_named (map (code_at l.map.sections) (range_with_len 0 l.code-index));
  vectors : l.seen.vectors ≡ count_by is_vector (take l.code-index l.map.sections.types);
  rest : l.rest ≡ metadata_at l.map.sections l.code-index;
  read : l.columns.items ≡ map (type_at l.map.sections) (range_with_len 0 l.code-index);
}
