-- A client reads an answer as what it was made of.
use Rattle.std.proofs.Common.{◌≡◌, ℕ, ◌<◌, ◌^◌, Bool, true, ◌&&◌, ◌==◌, List, [], ◌∷◌, ◌++◌, length, codes, All, inl, inr, Option, None, Some, IfSome, IsTrue, refl, sym, ap, ◌∙◌, arith, append_assoc, append-nil, lit<, lit≤}
use Rattle.std.specs.Prelude.{decimal, unwrap_or}
use Rattle.std.specs.Fmt.{digits}
use Rattle.std.specs.Char.{is_ascii_digit}
use Rattle.std.specs.List.{list_all, list_any, flat_map}
use Rattle.std.specs.Str.{all_ascii_digits}
use Rattle.std.specs.Str.Parse.{digits_value}
use Rattle.std.proofs.lemmas.Bool.Decides.{nat_tests}
use Rattle.std.proofs.lemmas.List.Elements.{All-nil, All-cons, All-append}
use Rattle.std.proofs.lemmas.Fmt.{digits_decimal}
use Rattle.std.proofs.lemmas.Str.Parse.{IsNumeralModel, numerals_by_value, tells_all_ascii_digits}
use Rattle.httparse.specs.Ascii.{crlf_bytes, space}
use Rattle.httparse.specs.Grammar.{is_token_byte, is_value_byte, AllPass, IsField, print_field, print_response}
use Rattle.http.specs.StatusCode.{reason_phrase}
use Rattle.xml_spec.proofs.Tests.{both_true, either_true, and_true}
use Rattle.http_wire.specs.declared.answer.TheConstants.{VERSION, LINES_TO_SIZE, LINES_FROM_SIZE, PAGE_STATUSES}
use Rattle.http_wire.specs.declared.fixed.TheConstants.{FIXED_STATUSES}
use Rattle.http_wire.specs.Answers.{answer, location_line, cookie_line}
use Rattle.http_wire.specs.Clients.{field, given_field, cookie_value, fields_of, head_of, is_field_value, is_answered, AnswerIsReadAgain}
use Rattle.http_wire.proofs.Answering.{whole_answer}
use Rattle.http_wire.proofs.Table.{any_holds}

-- ---- tests of each byte

all_pass : (test : ℕ → Bool) (bytes : List ℕ) → list_all test bytes ≡ true → AllPass test bytes
all_pass test [] all = All-nil (λ b. IsTrue (test b))
all_pass test (b ∷ bytes) all =
    let parts = both_true (test b) (list_all test bytes) all in
    All-cons (λ b. IsTrue (test b)) b bytes parts.0 (all_pass test bytes parts.1)

own : IsNumeralModel (λ ds. all_ascii_digits ds ≡ true) (digits_value 10)
own = numerals_by_value (λ ds. all_ascii_digits ds ≡ true) tells_all_ascii_digits

digit_is_value : (b : ℕ) → is_ascii_digit b ≡ true → is_value_byte b ≡ true
digit_is_value b h = grind (arith, nat_tests)

digits_are_value : (ds : List ℕ) → all_ascii_digits ds ≡ true → list_all is_value_byte ds ≡ true
digits_are_value [] all = refl
digits_are_value (d ∷ ds) all =
    let parts = both_true (is_ascii_digit d) (all_ascii_digits ds) all in
    and_true _ _ (digit_is_value d parts.0) (digits_are_value ds parts.1)

-- ---- the status line

-- three digits, and a phrase without control characters
abbrev pub is_good : ℕ → Bool
is_good status = (length (decimal status) == 3) && list_all is_ascii_digit (decimal status) && list_all is_value_byte (unwrap_or (reason_phrase status) [])

pages_are_good : list_all is_good PAGE_STATUSES ≡ true
unfolding digits
pages_are_good = refl

fixed_are_good : list_all is_good FIXED_STATUSES ≡ true
unfolding digits
fixed_are_good = refl

pub good : (status : ℕ) → is_answered status ≡ true → is_good status ≡ true
good status is =
    elim (either_true (list_any (λ known. known == status) PAGE_STATUSES) (list_any (λ known. known == status) FIXED_STATUSES) is) [
      | inl page ↦ any_holds is_good PAGE_STATUSES status page pages_are_good
      | inr fixed ↦ any_holds is_good FIXED_STATUSES status fixed fixed_are_good
    ]

-- ---- the fields

value_field : (name value : List ℕ) → list_all is_token_byte name ≡ true → 0 < length name → list_all is_value_byte value ≡ true → IsField (field name value)
value_field name value token some valid = record {
  name = (some, all_pass is_token_byte name token);
  raw = all_pass is_value_byte (32 ∷ value) valid;
}

both_values : (xs ys : List ℕ) → list_all is_value_byte xs ≡ true → list_all is_value_byte ys ≡ true → list_all is_value_byte (xs ++ ys) ≡ true
both_values [] ys x y = y
both_values (b ∷ xs) ys x y =
    let parts = both_true (is_value_byte b) (list_all is_value_byte xs) x in
    and_true _ _ parts.0 (both_values xs ys parts.1 y)

given : (name : List ℕ) (value : Option (List ℕ)) → list_all is_token_byte name ≡ true → 0 < length name → IfSome value (λ v. IsTrue (is_field_value v)) →
    All IsField (given_field name value)
given name None token some valid = All-nil IsField
given name (Some value) token some valid = All-cons IsField (field name value) [] (value_field name value token some valid) (All-nil IsField)

cookie_valid : (cookie : Option (List ℕ)) → IfSome cookie (λ v. IsTrue (is_field_value v)) → IfSome (cookie_value cookie) (λ v. IsTrue (is_field_value v))
cookie_valid None valid = tt
cookie_valid (Some cookie) valid = both_values cookie (codes "; Path=/; HttpOnly") valid refl

pub fields_valid : (location cookie : Option (List ℕ)) (size : ℕ) → size < 2 ^ 64 → IfSome location (λ v. IsTrue (is_field_value v)) → IfSome cookie (λ v. IsTrue (is_field_value v)) →
    All IsField (fields_of location cookie size)
unfolding is_token_byte
fields_valid location cookie size small l c =
    let given_fields = given_field (codes "Location") location ++ given_field (codes "Set-Cookie") (cookie_value cookie) in
    let type = field (codes "Content-Type") (codes "text/html; charset=utf-8") in
    let length_field = field (codes "Content-Length") (decimal size) in
    let store = field (codes "Cache-Control") (codes "no-store") in
    let connection = field (codes "Connection") (codes "close") in
    All-cons IsField type (length_field ∷ store ∷ connection ∷ given_fields)
    (value_field (codes "Content-Type") (codes "text/html; charset=utf-8") refl (lit< tt) refl)
    (All-cons IsField length_field (store ∷ connection ∷ given_fields)
    (value_field (codes "Content-Length") (decimal size) refl (lit< tt) (digits_are_value (decimal size) (digits_decimal own size small)))
    (All-cons IsField store (connection ∷ given_fields) (value_field (codes "Cache-Control") (codes "no-store") refl (lit< tt) refl)
    (All-cons IsField connection given_fields (value_field (codes "Connection") (codes "close") refl (lit< tt) refl)
    (All-append IsField (given_field (codes "Location") location) (given_field (codes "Set-Cookie") (cookie_value cookie))
    (given (codes "Location") location refl (lit< tt) l) (given (codes "Set-Cookie") (cookie_value cookie) refl (lit< tt) (cookie_valid cookie c))))))

-- ---- the bytes

one_line : (x rest : List ℕ) → x ++ [] ++ rest ≡ x ++ rest
one_line x rest = simp append-nil

two_lines : (x y rest : List ℕ) → x ++ (y ++ []) ++ rest ≡ x ++ (y ++ rest)
two_lines x y rest = simp (append_assoc, append-nil)

given_lines : (location cookie : Option (List ℕ)) (rest : List ℕ) →
    flat_map print_field (given_field (codes "Location") location ++ given_field (codes "Set-Cookie") (cookie_value cookie)) ++ rest ≡ location_line location ++ (cookie_line cookie ++ rest)
given_lines None None rest = refl
given_lines None (Some cookie) rest = one_line (cookie_line (Some cookie)) rest
given_lines (Some location) None rest = one_line (location_line (Some location)) rest
given_lines (Some location) (Some cookie) rest = two_lines (location_line (Some location)) (cookie_line (Some cookie)) rest

regroup : (version space status phrase end type name size store connection given body : List ℕ) →
    version ++ (space ++ status) ++ (space ++ phrase) ++ end ++ (type ++ (name ++ size ++ end ++ (store ++ (connection ++ given))) ++ end) ++ body
    ≡ version ++ (space ++ (status ++ (space ++ (phrase ++ (end ++ (type ++ (name ++ (size ++ (end ++ (store ++ (connection ++ (given ++ (end ++ body)))))))))))))
regroup version space status phrase end type name size store connection given body = simp append_assoc

same_bytes : (status : ℕ) (location cookie : Option (List ℕ)) (body : List ℕ) →
    answer status location cookie body ≡ print_response (head_of status location cookie (length body)) ++ body
unfolding print_response
same_bytes status location cookie body =
    let lines = flat_map print_field (given_field (codes "Location") location ++ given_field (codes "Set-Cookie") (cookie_value cookie)) in
    let phrase = unwrap_or (reason_phrase status) [] in
    whole_answer status location cookie body
    ∙ ap (λ xs. VERSION.now ++ (decimal status ++ (codes " " ++ (phrase ++ (LINES_TO_SIZE.now ++ (decimal (length body) ++ (LINES_FROM_SIZE.now ++ xs)))))))
    (sym (given_lines location cookie (crlf_bytes ++ body)))
    ∙ sym (regroup (codes "HTTP/1.1") (codes " ") (decimal status) phrase crlf_bytes (codes "Content-Type: text/html; charset=utf-8\r\n") (codes "Content-Length: ")
    (decimal (length body)) (codes "Cache-Control: no-store\r\n") (codes "Connection: close\r\n") lines body)

pub an_answer_is_read_again : AnswerIsReadAgain
an_answer_is_read_again status location cookie body is l c small =
    let sound = good status is in
    let phrase = both_true ((length (decimal status) == 3) && list_all is_ascii_digit (decimal status)) (list_all is_value_byte (unwrap_or (reason_phrase status) [])) sound in
    let number = both_true (length (decimal status) == 3) (list_all is_ascii_digit (decimal status)) phrase.0 in (
      record {
        minor = lit≤ tt;
        digits = (grind (arith, nat_tests, number.0), all_pass is_ascii_digit (decimal status) number.1);
        reason = all_pass is_value_byte (unwrap_or (reason_phrase status) []) phrase.1;
        fields = fields_valid location cookie (length body) small l c;
      },
      same_bytes status location cookie body,
    )
