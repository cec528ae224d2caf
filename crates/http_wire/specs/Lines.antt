-- The field lines of a request head: RFC 9110, 5, and RFC 9112, 5 and 6.
use Rattle.std.specs.Prelude.{ℕ, Bool, ◌&&◌, not, List, [], ◌∷◌, map, filter, length, nat_lt, nat_le, Option, None, Some, option_and_then, Result, Ok, Err, if◌then◌else◌}
use Rattle.std.specs.List.{list_all}
use Rattle.std.specs.Char.{is_ascii_digit}
use Rattle.std.specs.Str.{is_utf8, str_eq_ignore_ascii_case}
use Rattle.std.specs.Str.Parse.{digits_value}
use Rattle.xml_spec.specs.Bytes.{is_empty}
use Rattle.http_wire.specs.declared.method.Method.{Method}
use Rattle.http_wire.specs.declared.method.Method.TheVariants.{Get, Post, Other}
use Rattle.http_wire.specs.declared.limits.TheConstants.{BODY_LIMIT, LENGTH_DIGITS}
use Rattle.http_wire.specs.declared.status.TheConstants.{BAD_REQUEST, LENGTH_REQUIRED, PAYLOAD_TOO_LARGE, NOT_IMPLEMENTED}

-- a field line: its name, and its value without the white space around it
abbrev pub Line : Type 0
Line = List ℕ × List ℕ

-- RFC 9110, 5.1: "Field names are case-insensitive"
abbrev pub is_named : List ℕ → Line → Bool
is_named name line = str_eq_ignore_ascii_case line.0 name

-- the values of the lines of this name, in order
abbrev pub values : List ℕ → List Line → List (List ℕ)
values name lines = map (λ line. line.1) (filter (is_named name) lines)

abbrev pub first_of : List (List ℕ) → Option (List ℕ)
first_of [] = None
first_of (value ∷ others) = Some value

-- a value as a text; none where it is no UTF-8
abbrev pub text_of : List ℕ → Option (List ℕ)
text_of value = if is_utf8 value then Some value else None

-- the first line of a name decides; none where there is no such line, or it is no text
abbrev pub first_text : List (List ℕ) → Option (List ℕ)
first_text found = option_and_then text_of (first_of found)

-- RFC 9110, 8.6: "Content-Length = 1*DIGIT", here at most LENGTH_DIGITS of them
abbrev pub is_length : List ℕ → Bool
is_length value = not (is_empty value) && nat_le (length value) LENGTH_DIGITS && list_all is_ascii_digit value

-- the size of a body, where it is not too large
abbrev pub size_within : ℕ → Result ℕ ℕ
size_within size = if nat_lt BODY_LIMIT size then Err PAYLOAD_TOO_LARGE else Ok size

-- RFC 9112, 6.3: without Content-Length "the message body length is zero". RFC 9110, 8.6: a POST should have one, and
-- 15.5.12: it may be refused without
abbrev pub size_unsaid : Method → Result ℕ ℕ
size_unsaid Get = Ok 0
size_unsaid Post = Err LENGTH_REQUIRED
size_unsaid Other = Ok 0

-- the size of the body by the values of Content-Length, of which there is one at most, or the status that refuses it
abbrev pub size_by : Method → List (List ℕ) → Result ℕ ℕ
size_by method [] = size_unsaid method
size_by method (value ∷ []) = if is_length value then size_within (digits_value 10 value) else Err BAD_REQUEST
size_by method (value ∷ other ∷ others) = Err BAD_REQUEST

-- RFC 9112, 6.1: "A server that receives a request message with a transfer coding it does not understand SHOULD respond
-- with 501 (Not Implemented)"; none is understood: the size by the values of Transfer-Encoding and of Content-Length
abbrev pub size_of : Method → List (List ℕ) → List (List ℕ) → Result ℕ ℕ
size_of method [] lengths = size_by method lengths
size_of method (coding ∷ codings) lengths = Err NOT_IMPLEMENTED
