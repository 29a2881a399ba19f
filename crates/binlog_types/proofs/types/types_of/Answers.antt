use Rattle.std.proofs.Common.{◌≡◌, ◌<◌, ℕ, Bool, List, [], ◌∷◌, ◌++◌, length, map, get_or, refl, ap, ap₂, sym, ◌∙◌, arith}
use Rattle.std.proofs.lemmas.List.{take_rest, drop_min}
use Rattle.std.proofs.lemmas.List.FromFn.{map-range_with_len_more}
use Rattle.std.specs.List.{range_with_len}
use Rattle.binlog_table.specs.Map.{Sections}
use Rattle.binlog_types.specs.declared.column_type.ColumnType.{ColumnType}
use Rattle.binlog_types.specs.ColumnTypes.{has_sign, is_text, is_named, is_vector, code_of, column_type, code_at, collation_of, type_at, types_of}
use Rattle.binlog_types.proofs.Walk.{unwrapped, taken_more, dimensions_found, count_more, metadata_more, collations_listed, collation_listed, type_found}
use Rattle.binlog_types.proofs.types.types_of.Goals as goal

pub loop-code-preserved : goal.loop-code-preserved
loop-code-preserved c =
    let s = c.args.map.now.sections in
    let i = c.loop-code.code-index in
    let is = c.sections-sections.ensures in
    let fields = c.sections-sections.result.fields in
    let so_far = c.loop-code.invariant in
    let types : c.sections-sections.result.types.now ≡ s.types = ap (λ (x : Sections). x.types) is in
    let count : length c.sections-sections.result.types.now ≡ length s.types = ap (λ (x : Sections). length x.types) is in
    let below : i < length s.types = omega arith in
    let code : get_or c.sections-sections.result.types.now i 0 ≡ get_or s.types i 0 = ap (λ (l : List ℕ). get_or l i 0) types in
    let real : c.code_of-real.result ≡ code_at s i = c.code_of-real.ensures ∙ ap₂ code_of code so_far.rest in
    let texts = collations_listed _ _ s.fields.column_charset s.fields.default_charset c.in_ok-texts.texts.items (length c.sections-sections.result.types.now) (length s.types) c.in_ok-texts.ensures
    (unwrapped fields.column_charset _ _ s.fields.column_charset refl c.unwrap_or.ensures (ap (λ (x : Sections). x.fields.column_charset) is))
    (unwrapped fields.default_charset _ _ s.fields.default_charset refl c.unwrap_or-2.ensures (ap (λ (x : Sections). x.fields.default_charset) is)) count in
    let names = collations_listed _ _ s.fields.column_name_charset s.fields.default_name_charset c.in_ok-names.names.items (length c.sections-sections.result.types.now) (length s.types) c.in_ok-names.ensures
    (unwrapped fields.column_name_charset _ _ s.fields.column_name_charset refl c.unwrap_or-3.ensures (ap (λ (x : Sections). x.fields.column_name_charset) is))
    (unwrapped fields.default_name_charset _ _ s.fields.default_name_charset refl c.unwrap_or-4.ensures (ap (λ (x : Sections). x.fields.default_name_charset) is)) count in
    let signs = unwrapped fields.signs _ _ s.fields.signs refl c.unwrap_or-signs.ensures (ap (λ (x : Sections). x.fields.signs) is) in
    let collation : c.listed_collation-collation.result ≡ collation_of s i =
    c.listed_collation-collation.ensures ∙ collation_listed s _ _ i c.code_of-real.result c.loop-code.seen below real (c.deref.ensures.value ∙ texts) (c.deref-in-loop-code.ensures.value ∙ names) so_far.texts so_far.names in
    let own = dimensions_found s _ c.in_ok-dimensions.dimensions.items i c.loop-code.seen.vectors c.number_at-own.result c.in_ok-dimensions.ensures
    (ap (λ (x : Sections). x.fields.dimensions) is) so_far.vectors (rw c.deref-in-loop-code-2.ensures.value at c.number_at-own.ensures) in
    let found : c.column_type.result ≡ type_at s i =
    c.column_type.ensures ∙ (ap (λ (u : Bool). column_type (get_or c.sections-sections.result.types.now i 0) c.loop-code.rest.now c.number_at-own.result u c.listed_collation-collation.result) c.is_unsigned-unsigned.ensures
    ∙ type_found s i _ c.loop-code.rest.now _ c.loop-code.seen.signs c.number_at-own.result c.listed_collation-collation.result code so_far.rest signs so_far.signs own collation) in
    record {
      signs = c.behind-seen.ensures.signs ∙ taken_more has_sign s i _ c.loop-code.seen.signs below code so_far.signs;
      texts = c.behind-seen.ensures.texts ∙ count_more is_text s i c.code_of-real.result c.loop-code.seen.texts real so_far.texts;
      names = c.behind-seen.ensures.names ∙ count_more is_named s i c.code_of-real.result c.loop-code.seen.names real so_far.names;
      vectors = c.behind-seen.ensures.vectors ∙ taken_more is_vector s i _ c.loop-code.seen.vectors below code so_far.vectors;
      rest = rw (take_rest c.loop-code.rest.now c.min.result, c.min.ensures, c.metadata_len.ensures, drop_min _ c.loop-code.rest.now) (metadata_more s i _ c.loop-code.rest.now below code so_far.rest);
      read = c.in_ok-push.ensures.items ∙ (ap₂ (λ (l : List ColumnType) (t : ColumnType). l ++ t ∷ []) so_far.read found ∙ sym (map-range_with_len_more (type_at s) 0 i i (omega arith)));
    }

pub returns : goal.returns
unfolding types_of
returns c =
    let types : length c.sections-sections.result.types.now ≡ length c.args.map.now.sections.types = ap (λ (x : Sections). length x.types) c.sections-sections.ensures in
    let end : c.loop-code.code-index ≡ length c.args.map.now.sections.types = omega arith in
    c.loop-code.invariant.read ∙ ap (λ (n : ℕ). map (type_at c.args.map.now.sections) (range_with_len 0 n)) end
