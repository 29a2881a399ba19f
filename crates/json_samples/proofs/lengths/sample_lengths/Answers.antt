use Rattle.std.proofs.Common.{◌≡◌, ℕ, zero, suc, List, [], ◌∷◌, replicate, true, Bool, cond, ap, refl}
use Rattle.std.specs.Prelude.{Option, Some, option_map, codes, None}
use Rattle.std.specs.Str.{IsUtf8, is_utf8}
use Rattle.std.proofs.lemmas.Str.{IsUtf8-nil, IsUtf8-append, IsUtf8-from_is_utf8, is_utf8-from_IsUtf8}
use Rattle.binlog_json.specs.Json.{string}
use Rattle.binlog_types.specs.declared.charsets.Charset.TheVariants.{Latin1, Utf8mb4}
use Rattle.binlog_types.specs.declared.charsets.Encoding.TheVariants.{ByTable}
use Rattle.binlog_json.specs.Encodings.{decoded}
use Rattle.binlog_json.specs.FullValues.{text_or_bytes}
use Rattle.binlog_json.specs.Values.{encoded_data}
use Rattle.json_samples.specs.Lengths.{letters}
use Rattle.json_samples.proofs.OnTypes.{on_types}
use Rattle.json_samples.proofs.OnValues.{on_values}
use Rattle.json_samples.proofs.lengths.sample_lengths.Goals as goal

one_letter : is_utf8 (0xc3 ∷ 0xa9 ∷ []) ≡ true
unfolding on_types on_values
one_letter = refl

are_text : (n : ℕ) → IsUtf8 (letters n)
are_text zero = IsUtf8-nil
are_text (suc n) = IsUtf8-append (0xc3 ∷ 0xa9 ∷ []) (letters n) (IsUtf8-from_is_utf8 (0xc3 ∷ 0xa9 ∷ []) one_letter) (are_text n)

from_latin1 : (n : ℕ) → decoded (ByTable Latin1) (replicate n 0xe9) ≡ Some (letters n)
unfolding on_types on_values
from_latin1 zero = refl
from_latin1 (suc n) = ap (λ (text : Option (List ℕ)). option_map (λ rest. 0xc3 ∷ 0xa9 ∷ rest) text) (from_latin1 n)

pub returns-clause-texts_of_any_length : goal.returns-clause-texts_of_any_length
returns-clause-texts_of_any_length c n =
    let is = is_utf8-from_IsUtf8 (letters n) (are_text n) in (
      ap (λ (b : Bool). cond b (string (letters n)) (encoded_data (codes "base64") (letters n))) is,
      ap (λ (b : Bool). text_or_bytes Utf8mb4 (letters n) (cond b (Some (letters n)) None)) is,
      ap (λ (text : Option (List ℕ)). text_or_bytes Latin1 (replicate n 0xe9) text) (from_latin1 n),
    )
