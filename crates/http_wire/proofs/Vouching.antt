-- An answer that vouches for someone is read as what it was made of, and its lines hold no other bytes than their own.
use Rattle.std.proofs.Common.{◌≡◌, ◌≢◌, ℕ, ◌<◌, ◌≤◌, Bool, true, ◌&&◌, List, [], ◌∷◌, ◌++◌, length, codes, nat_le, All, ⊎_elim, None, IsTrue, refl, ap, ◌∙◌, arith, append_assoc, append-nil, lit<, lit≤}
use Rattle.std.specs.Char.{is_ascii_digit}
use Rattle.std.specs.Fmt.{digits, decimal}
use Rattle.std.specs.List.{list_all}
use Rattle.std.proofs.lemmas.Bool.{cond_both}
use Rattle.std.proofs.lemmas.Bool.Decides.{nat_tests}
use Rattle.std.proofs.lemmas.List.Sums.{AllPass-from_list_all}
use Rattle.std.proofs.lemmas.List.Elements.{All-nil, All-cons, All-append, All-head, All-tail, All-weaker}
use Rattle.httparse.specs.Ascii.{crlf_bytes}
use Rattle.httparse.specs.Grammar.{is_token_byte, is_value_byte, AllPass, IsField, IsResponseHead, print_response}
use Rattle.percent_encoding.specs.Percent.{percent_decode, percent_encode_byte}
use Rattle.percent_encoding.proofs.PercentLemmas.{IsEscapeByte, All-percent_encode_byte, percent_decode-nil, percent_decode-percent_encode_byte, percent_decode_not_percent}
use Rattle.form_urlencoded.specs.Form.{IsUnchanged, byte_serialize, separator, is_nonempty, append_pair, extend_pairs}
use Rattle.form_urlencoded.proofs.FormLemmas.{IsSerializedByte, All-byte_serialize, round_trip}
use Rattle.owned_values.specs.declared.attributes.Attribute.{Attribute}
use Rattle.http_wire.specs.Clients.{field, fields_of}
use Rattle.http_wire.specs.Vouched.{is_name_byte, name_byte, escaped_name, pairs_of, attributes_form, vouched_answer}
use Rattle.http_wire.specs.Vouching.{AreBytes, IsPrintable, EachLineIsPrintable, NothingIsLost, AVouchedAnswerIsReadAgain, vouched_head}
use Rattle.http_wire.proofs.Clients.{fields_valid}

-- ---- the bytes of the lines

abbrev IsLineByte : ℕ → Type 0
IsLineByte b = (0x20 ≤ b) × (b ≤ 0x7E)

escape_in_line : (b : ℕ) → IsEscapeByte b → IsLineByte b
escape_in_line b h = grind arith

name_in_line : (b : ℕ) → is_name_byte b ≡ true → IsLineByte b
name_in_line b h = grind (arith, nat_tests)

escaped_byte : (b : ℕ) → IsPrintable (name_byte b)
escaped_byte b =
    cond_both (is_name_byte b) (b ∷ []) (percent_encode_byte b) IsPrintable (λ own. All-cons IsLineByte b [] (name_in_line b own) (All-nil IsLineByte))
    (λ _. All-weaker IsEscapeByte IsLineByte escape_in_line (percent_encode_byte b) (All-percent_encode_byte b))

pub escaped_printable : (name : List ℕ) → IsPrintable (escaped_name name)
escaped_printable [] = All-nil IsLineByte
escaped_printable (b ∷ name) = All-append IsLineByte (name_byte b) (escaped_name name) (escaped_byte b) (escaped_printable name)

unchanged_in_line : (b : ℕ) → IsUnchanged b → IsLineByte b
unchanged_in_line b h = grind (arith, nat_tests)

serialized_in_line : (b : ℕ) → IsSerializedByte b → IsLineByte b
serialized_in_line b h = ⊎_elim (unchanged_in_line b) (λ other. grind arith) h.allowed

text_printable : (text : List ℕ) → IsPrintable (byte_serialize text)
text_printable text = All-weaker IsSerializedByte IsLineByte serialized_in_line (byte_serialize text) (All-byte_serialize text)

separator_printable : (form : List ℕ) → IsPrintable (separator form)
separator_printable form =
    cond_both (is_nonempty form) (38 ∷ []) [] IsPrintable (λ _. All-cons IsLineByte 38 [] (omega arith, omega arith) (All-nil IsLineByte)) (λ _. All-nil IsLineByte)

pair_printable : (name value : List ℕ) → IsPrintable (byte_serialize name ++ (61 ∷ []) ++ byte_serialize value)
pair_printable name value =
    All-append IsLineByte (byte_serialize name ++ (61 ∷ [])) (byte_serialize value)
    (All-append IsLineByte (byte_serialize name) (61 ∷ []) (text_printable name) (All-cons IsLineByte 61 [] (omega arith, omega arith) (All-nil IsLineByte)))
    (text_printable value)

one_pair_more : (form name value : List ℕ) → IsPrintable form → IsPrintable (append_pair form name value)
one_pair_more form name value h =
    All-append IsLineByte (form ++ separator form) (byte_serialize name ++ (61 ∷ []) ++ byte_serialize value)
    (All-append IsLineByte form (separator form) h (separator_printable form)) (pair_printable name value)

pairs_printable : (pairs : List (List ℕ × List ℕ)) (form : List ℕ) → IsPrintable form → IsPrintable (extend_pairs form pairs)
pairs_printable [] form h = h
pairs_printable (pair ∷ pairs) form h = pairs_printable pairs (append_pair form pair.0 pair.1) (one_pair_more form pair.0 pair.1 h)

pub form_printable : (attributes : List Attribute) → IsPrintable (attributes_form attributes)
form_printable attributes = pairs_printable (pairs_of attributes) [] (All-nil IsLineByte)

abbrev in_line : ℕ → Bool
in_line b = nat_le 0x20 b && nat_le b 0x7E

tested_in_line : (b : ℕ) → IsTrue (in_line b) → IsLineByte b
tested_in_line b h = grind (arith, nat_tests)

tested : (bytes : List ℕ) → list_all in_line bytes ≡ true → IsPrintable bytes
tested bytes all = All-weaker (λ b. IsTrue (in_line b)) IsLineByte tested_in_line bytes (AllPass-from_list_all in_line bytes all)

pub each_line_is_printable : EachLineIsPrintable
each_line_is_printable = record {
  user = λ name. All-append IsLineByte (codes "Remote-User: ") (escaped_name name) (tested (codes "Remote-User: ") refl) (escaped_printable name);
  attributes = λ attributes.
      All-append IsLineByte (codes "Remote-Attributes: ") (attributes_form attributes) (tested (codes "Remote-Attributes: ") refl) (form_printable attributes);
}

-- ---- what is read back

decode_one : (b : ℕ) (rest : List ℕ) → b < 256 → percent_decode (name_byte b ++ rest) ≡ b ∷ percent_decode rest
decode_one b rest small =
    cond_both (is_name_byte b) (b ∷ []) (percent_encode_byte b) (λ (bytes : List ℕ). percent_decode (bytes ++ rest) ≡ b ∷ percent_decode rest)
    (λ own. percent_decode_not_percent b rest (not_percent own)) (λ _. percent_decode-percent_encode_byte b rest small)
  where
    not_percent : is_name_byte b ≡ true → b ≢ 37
    not_percent own e = grind (arith, nat_tests)

name_back : (name : List ℕ) → AreBytes name → percent_decode (escaped_name name) ≡ name
name_back [] bytes = percent_decode-nil
name_back (b ∷ name) bytes =
    decode_one b (escaped_name name) (All-head (λ b. b < 256) b name bytes) ∙ ap (λ xs. b ∷ xs) (name_back name (All-tail (λ b. b < 256) b name bytes))

pub nothing_is_lost : NothingIsLost
nothing_is_lost = record { name = name_back; pairs = λ attributes bytes. round_trip (pairs_of attributes) bytes }

-- ---- what a client reads

line_is_value : (b : ℕ) → IsLineByte b → IsTrue (is_value_byte b)
line_is_value b h = grind (arith, nat_tests)

line_field : (name value : List ℕ) → AllPass is_token_byte name → 0 < length name → IsPrintable value → IsField (field name value)
line_field name value token some printable = record {
  name = (some, token);
  raw = All-cons (λ b. IsTrue (is_value_byte b)) 32 value refl (All-weaker IsLineByte (λ b. IsTrue (is_value_byte b)) line_is_value value printable);
}

two_fields : (name : List ℕ) (attributes : List Attribute) →
    All IsField (field (codes "Remote-User") (escaped_name name) ∷ field (codes "Remote-Attributes") (attributes_form attributes) ∷ [])
unfolding is_token_byte
two_fields name attributes =
    let user = field (codes "Remote-User") (escaped_name name) in
    let others = field (codes "Remote-Attributes") (attributes_form attributes) in
    All-cons IsField user (others ∷ [])
    (line_field (codes "Remote-User") (escaped_name name) (AllPass-from_list_all is_token_byte (codes "Remote-User") refl) (lit< tt) (escaped_printable name))
    (All-cons IsField others []
    (line_field (codes "Remote-Attributes") (attributes_form attributes) (AllPass-from_list_all is_token_byte (codes "Remote-Attributes") refl) (lit< tt) (form_printable attributes))
    (All-nil IsField))

tail_group : (name second form end : List ℕ) →
    (name ++ end) ++ (second ++ form ++ end) ++ end ≡ ((name ++ end) ++ ((second ++ form) ++ end ++ [])) ++ end ++ []
tail_group name second form end = simp (append_assoc, append-nil)

same_bytes : (name : List ℕ) (attributes : List Attribute) → vouched_answer name attributes ≡ print_response (vouched_head name attributes) ++ []
unfolding vouched_answer print_response digits
same_bytes name attributes =
    ap (λ xs. codes "HTTP/1.1 200 OK\r\nContent-Type: text/html; charset=utf-8\r\nContent-Length: 0\r\nCache-Control: no-store\r\nConnection: close\r\nRemote-User: " ++ xs)
    (tail_group (escaped_name name) (codes "Remote-Attributes: ") (attributes_form attributes) crlf_bytes)

digits_valid : AllPass is_ascii_digit (decimal 200)
unfolding digits
digits_valid = AllPass-from_list_all is_ascii_digit (decimal 200) refl

head_valid : (name : List ℕ) (attributes : List Attribute) → IsResponseHead (vouched_head name attributes)
unfolding digits
head_valid name attributes = record {
  minor = lit≤ tt;
  digits = (refl, digits_valid);
  reason = AllPass-from_list_all is_value_byte (codes "OK") refl;
  fields =
      All-append IsField (fields_of None None 0)
      (field (codes "Remote-User") (escaped_name name) ∷ field (codes "Remote-Attributes") (attributes_form attributes) ∷ []) (fields_valid None None 0 (lit< tt) tt tt) (two_fields name attributes);
}

pub a_vouched_answer_is_read_again : AVouchedAnswerIsReadAgain
a_vouched_answer_is_read_again name attributes = (head_valid name attributes, same_bytes name attributes)
