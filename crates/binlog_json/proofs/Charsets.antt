-- The bytes of a text with the name of their character set.
use Rattle.std.proofs.Common.{◌≡◌, ◌++◌, ℕ, List, Result, Ok, Err, is_ok, OnOk, if◌then◌else◌, codes, append_assoc, ap, ◌∙◌}
use Rattle.base64.specs.Engines.{standard}
use Rattle.base64.specs.GeneralPurpose.{encode_of}
use Rattle.json.specs.Print.{escape_byte, quoted}
use Rattle.binlog_json.specs.Json.{compact_text}
use Rattle.binlog_json.specs.FullValues.{named_bytes}

named_bytes_are : (name bytes : List ℕ) → codes "{\"base64\":" ++ (quoted (encode_of standard bytes) ++ (codes ",\"charset\":" ++ (quoted name ++ codes "}"))) ≡ compact_text (named_bytes name bytes)
unfolding escape_byte
named_bytes_are name bytes = simp append_assoc

pub charset_written : {E : Type 0} (r : Result (Unit {0}) E) (old l1 l2 l3 l4 new name bytes : List ℕ) → l1 ≡ old ++ codes "{\"base64\":" → l2 ≡ l1 ++ quoted (encode_of standard bytes) → l3 ≡ l2 ++ codes ",\"charset\":"
    → l4 ≡ l3 ++ quoted name → new ≡ (if is_ok r then l4 ++ codes "}" else l4) → OnOk r (new ≡ old ++ compact_text (named_bytes name bytes))
charset_written (Ok u) old l1 l2 l3 l4 new name bytes p q s t is =
    let parts : new ≡ old ++ (codes "{\"base64\":" ++ (quoted (encode_of standard bytes) ++ (codes ",\"charset\":" ++ (quoted name ++ codes "}")))) = is ∙ rw (t, s, q, p) (simp append_assoc) in
    parts ∙ ap (λ (text : List ℕ). old ++ text) (named_bytes_are name bytes)
charset_written (Err x) old l1 l2 l3 l4 new name bytes p q s t is = tt
