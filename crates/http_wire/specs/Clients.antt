-- An answer as a client reads it. Which bytes are the head of a response, `httparse` defines.
use Rattle.std.specs.Prelude.{ℕ, ◌<◌, ◌^◌, ◌||◌, ◌==◌, Bool, List, [], ◌∷◌, ◌++◌, length, codes, decimal, Option, None, Some, IfSome, IsTrue, unwrap_or}
use Rattle.std.specs.List.{list_any, list_all}
use Rattle.httparse.specs.Ascii.{space}
use Rattle.httparse.specs.Grammar.{crlf, is_value_byte, Field, ResponseHead, ReadsResponse}
use Rattle.http.specs.StatusCode.{reason_phrase}
use Rattle.http_wire.specs.declared.answer.TheConstants.{PAGE_STATUSES}
use Rattle.http_wire.specs.declared.fixed.TheConstants.{FIXED_STATUSES}
use Rattle.http_wire.specs.Answers.{answer}

-- a field with a space in front of its value
abbrev pub field : List ℕ → List ℕ → Field
field name value = record { name = name; raw = space ∷ value; end = crlf }

-- a field that is there where its value is given
abbrev pub given_field : List ℕ → Option (List ℕ) → List Field
given_field name None = []
given_field name (Some value) = field name value ∷ []

-- the cookie, with where it is sent back to
abbrev pub cookie_value : Option (List ℕ) → Option (List ℕ)
cookie_value None = None
cookie_value (Some cookie) = Some (cookie ++ codes "; Path=/; HttpOnly")

abbrev pub fields_of : Option (List ℕ) → Option (List ℕ) → ℕ → List Field
fields_of location cookie size =
    field (codes "Content-Type") (codes "text/html; charset=utf-8") ∷ field (codes "Content-Length") (decimal size)
    ∷ field (codes "Cache-Control") (codes "no-store") ∷ field (codes "Connection") (codes "close")
    ∷ (given_field (codes "Location") location ++ given_field (codes "Set-Cookie") (cookie_value cookie))

-- the head of an answer whose body has this size
abbrev pub head_of : ℕ → Option (List ℕ) → Option (List ℕ) → ℕ → ResponseHead
head_of status location cookie size = record {
  blank = [];
  minor = 1;
  digits = decimal status;
  reason = Some (unwrap_or (reason_phrase status) []);
  line_end = crlf;
  fields = fields_of location cookie size;
  last = crlf;
}

-- RFC 9110, 5.5: no byte of the value is a control character but the tab
abbrev pub is_field_value : List ℕ → Bool
is_field_value value = list_all is_value_byte value

-- a status that is answered
abbrev pub is_answered : ℕ → Bool
is_answered status = list_any (λ known. known == status) PAGE_STATUSES || list_any (λ known. known == status) FIXED_STATUSES

-- a client reads an answer as its status, its fields and its body
abbrev pub AnswerIsReadAgain : Type 0
AnswerIsReadAgain =
    (status : ℕ) (location cookie : Option (List ℕ)) (body : List ℕ) → IsTrue (is_answered status)
    → IfSome location (λ value. IsTrue (is_field_value value)) → IfSome cookie (λ value. IsTrue (is_field_value value)) → length body < 2 ^ 64
    → ReadsResponse (answer status location cookie body) (head_of status location cookie (length body)) body
