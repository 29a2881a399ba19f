-- A document's text is what is printed for its JSON value.
use Rattle.std.proofs.Common.{◌≡◌, ℕ, ◌-◌, ◌^◌, ◌%◌, ◌/◌, ◌==◌, ◌&&◌, ◌||◌, Bool, true, false, cond, List, [], ◌∷◌, ◌++◌, length, codes, decimal, nat_lt, Option, Some, None, option_map, unwrap_or, refl, sym, ap, ◌∙◌, append_assoc, append-nil, arith}
use Rattle.std.specs.Fmt.{signed_decimal}
use Rattle.base64.specs.Engines.{standard}
use Rattle.base64.specs.GeneralPurpose.{encode_of}
use Rattle.byteorder.specs.Endian.{little_number}
use Rattle.json.specs.Token.{Token}
use Rattle.json.specs.Json as json
use Rattle.json.specs.Json.{Json}
use Rattle.json.specs.Print.{escape_byte, quoted, token_text, begins, ends, print_from, print}
use Rattle.json.specs.Tree.{json_tokens, items_tokens, members_tokens}
use Rattle.binlog_documents.specs.Document.{Document, null, boolean, integer, double, text, opaque, array, object, Elements, no_elements, element, Members, no_members, member}
use Rattle.binlog_documents.specs.Opaques.{padded, encoded_text, above_micros, day_text, clock_text, in_quotes, span_text, time_text, moment_text, shown_text, is_shown, time_opaque, decimal_opaque, opaque_text}
use Rattle.binlog_documents.specs.Texts.{comma_if, double_text, document_text, elements_text, members_text}
use Rattle.binlog_documents.specs.AsJson.{as_json, elements_json, members_json, encoded_json, decimal_json, time_json, opaque_json}
use Rattle.binlog_documents.proofs.Digits.{IsPlainText, byte, join, plain_digits, padded_digits}

begun : (later : Bool) (t : Token) (others : List Token) → begins t ≡ true → print_from later (t ∷ others) ≡ comma_if later ++ (token_text t ++ print_from (ends t) others)
unfolding print_from
begun true t others e = ap (λ b. cond b (44 ∷ []) [] ++ (token_text t ++ print_from (ends t) others)) e
begun false t others e = refl

-- the text t is printed for the value, wherever it stands
record IsPrinted (value : Json) (t : List ℕ) : Type 0 where
  at : (later : Bool) (others : List Token) → print_from later (json_tokens value ++ others) ≡ comma_if later ++ (t ++ print_from true others)

number : (t : List ℕ) → IsPrinted (json.number t) t
number t = record { at = λ later others. begun later (Token.number t) others refl }

string : (s t : List ℕ) → quoted s ≡ t → IsPrinted (json.string s) t
string s t is = record { at = λ later others. begun later (Token.string s) others refl ∙ ap (λ q. comma_if later ++ (q ++ print_from true others)) is }

either : (b : Bool) (x y : Json) (s t : List ℕ) → IsPrinted x s → IsPrinted y t → IsPrinted (cond b x y) (cond b s t)
either true x y s t p q = p
either false x y s t p q = q

-- ---- dates and times: no byte of them is escaped

padded_plain : (width n : ℕ) → IsPlainText (padded width n)
padded_plain width n = plain_digits _ (padded_digits width n)

day_plain : (n : ℕ) → IsPlainText (day_text n)
unfolding escape_byte
day_plain n =
    let days = above_micros n / 2 ^ 17 in
    join _ _ (padded_plain 4 (days / 32 / 13))
    (byte 45 _ (omega arith) refl (join _ _ (padded_plain 2 (days / 32 % 13)) (byte 45 _ (omega arith) refl (padded_plain 2 (days % 32)))))

clock_plain : (hour n : ℕ) → IsPlainText (clock_text hour n)
unfolding escape_byte
clock_plain hour n =
    join _ _ (padded_plain 2 hour)
    (byte 58 _ (omega arith) refl (join _ _ (padded_plain 2 (above_micros n / 64 % 64))
    (byte 58 _ (omega arith) refl (join _ _ (padded_plain 2 (above_micros n % 64)) (byte 46 _ (omega arith) refl (padded_plain 6 (n % 2 ^ 24)))))))

span_plain : (n : ℕ) → IsPlainText (span_text n)
span_plain n = clock_plain (above_micros n / 2 ^ 12 % 1024) n

plain_either : (b : Bool) (xs ys : List ℕ) → IsPlainText xs → IsPlainText ys → IsPlainText (cond b xs ys)
plain_either true xs ys p q = p
plain_either false xs ys p q = q

pub shown_plain : (kind n : ℕ) → IsPlainText (shown_text kind n)
unfolding escape_byte
shown_plain kind n =
    plain_either (kind == 11) (time_text n) (moment_text kind n)
    (plain_either (nat_lt n (2 ^ 63)) (span_text n) (45 ∷ span_text (2 ^ 64 - n)) (span_plain n) (byte 45 _ (omega arith) refl (span_plain (2 ^ 64 - n))))
    (plain_either (kind == 10) (day_text n) _ (day_plain n) (join _ _ (day_plain n) (byte 32 _ (omega arith) refl (clock_plain (above_micros n / 2 ^ 12 % 32) n))))

-- ---- values of other types

encoded : (kind : ℕ) (bytes : List ℕ) → IsPrinted (encoded_json kind bytes) (encoded_text kind bytes)
unfolding print_from escape_byte
encoded kind bytes = record {
  at = λ later others.
      begun later Token.begin_object
      (Token.key (codes "base64") ∷ Token.string (encode_of standard bytes) ∷ Token.key (codes "type") ∷ Token.number (decimal kind) ∷ Token.end_object ∷ others) refl
      ∙ simp append_assoc;
}

abbrev BothPrinted : Option Json → Option (List ℕ) → Type 0
BothPrinted None None = Unit {0}
BothPrinted None (Some t) = ⊥
BothPrinted (Some v) None = ⊥
BothPrinted (Some v) (Some t) = IsPrinted v t

-- both are there and the text is printed for the value, or neither is
record AreAlike (v : Option Json) (t : Option (List ℕ)) : Type 0 where
  printed : BothPrinted v t

decimal_alike : (t : Option (List ℕ)) → AreAlike (option_map json.number t) t
decimal_alike None = record { printed = tt }
decimal_alike (Some t) = record { printed = number t }

alike : (b : Bool) (v : Json) (t : List ℕ) → IsPrinted v t → AreAlike (cond b (Some v) None) (cond b (Some t) None)
alike true v t p = record { printed = p }
alike false v t p = record { printed = tt }

time_alike : (kind : ℕ) (bytes : List ℕ) → AreAlike (time_json kind bytes) (time_opaque kind bytes)
unfolding time_opaque
time_alike kind bytes =
    let n = little_number 8 bytes in
    alike ((length bytes == 8) && is_shown kind n) _ _ (string (shown_text kind n) (in_quotes (shown_text kind n)) (ap in_quotes (shown_plain kind n).escaped))

shown_or : (v : Option Json) (t : Option (List ℕ)) (other : Json) (s : List ℕ) → AreAlike v t → IsPrinted other s → IsPrinted (unwrap_or v other) (unwrap_or t s)
shown_or None None other s p q = q
shown_or (Some v) (Some t) other s p q = p.printed
shown_or None (Some t) other s p q = absurd p.printed
shown_or (Some v) None other s p q = absurd p.printed

opaque_printed : (kind : ℕ) (bytes : List ℕ) → IsPrinted (opaque_json kind bytes) (opaque_text kind bytes)
opaque_printed kind bytes =
    let other = encoded kind bytes in
    either (kind == 246) _ _ _ _ (shown_or (decimal_json bytes) (decimal_opaque bytes) _ _ (decimal_alike (decimal_opaque bytes)) other)
    (either ((kind == 7) || ((kind == 10) || ((kind == 11) || (kind == 12)))) _ _ _ _ (shown_or (time_json kind bytes) (time_opaque kind bytes) _ _ (time_alike kind bytes) other) other)

-- ---- documents

ended : (later : Bool) (others : List Token) (t : Token) → begins t ≡ false → ends t ≡ true → print_from later (t ∷ others) ≡ token_text t ++ print_from true others
unfolding print_from
ended true others t e f = rw (e, f) refl
ended false others t e f = rw f refl

truth : (b : Bool) → IsPrinted (json.boolean b) (cond b (codes "true") (codes "false"))
truth true = record { at = λ later others. begun later (Token.boolean true) others refl }
truth false = record { at = λ later others. begun later (Token.boolean false) others refl }

one_member : (comma key value more end : List ℕ) → comma ++ ((key ++ 58 ∷ []) ++ (value ++ (more ++ end))) ≡ (comma ++ (key ++ (58 ∷ (value ++ more)))) ++ end
one_member comma key value more end = simp append_assoc

mutual
  printed : (d : Document) → IsPrinted (as_json d) (document_text d)
  printed null = record { at = λ later others. begun later Token.null others refl }
  printed (boolean b) = truth b
  printed (integer z) = number (signed_decimal z)
  printed (double bits) = number (double_text bits)
  printed (text s) = string s (quoted s) refl
  printed (opaque kind bytes) = opaque_printed kind bytes
  printed (array ds) = record { at = λ later others. begun later Token.begin_array _ refl ∙ rw (elements_printed ds false others) (simp append_assoc) }
  printed (object ms) = record { at = λ later others. begun later Token.begin_object _ refl ∙ rw (members_printed ms false others) (simp append_assoc) }

  elements_printed : (ds : Elements) (later : Bool) (others : List Token) → print_from later (items_tokens (elements_json ds) ++ others) ≡ elements_text later ds ++ (93 ∷ print_from true others)
  elements_printed no_elements later others = ended later others Token.end_array refl refl
  elements_printed (element d ds) later others =
      rw (append_assoc (json_tokens (as_json d)) (items_tokens (elements_json ds)) others, (printed d).at, elements_printed ds true others) (simp append_assoc)

  members_printed : (ms : Members) (later : Bool) (others : List Token) → print_from later (members_tokens (members_json ms) ++ others) ≡ members_text later ms ++ (125 ∷ print_from true others)
  members_printed no_members later others = ended later others Token.end_object refl refl
  members_printed (member k d ms) later others =
      begun later (Token.key k) _ refl
      ∙ rw (append_assoc (json_tokens (as_json d)) (members_tokens (members_json ms)) others, (printed d).at, members_printed ms true others)
      (one_member (comma_if later) (quoted k) (document_text d) (members_text true ms) (125 ∷ print_from true others))

-- the whole text
pub print_is : (d : Document) → print (json_tokens (as_json d)) ≡ document_text d
unfolding print_from
print_is d = ap print (sym (append-nil (json_tokens (as_json d)))) ∙ (printed d).at false [] ∙ append-nil (document_text d)
