-- The head of a request: RFC 9112, 2 to 5. Which bytes are a head, `httparse` defines.
use Rattle.std.specs.Prelude.{ℕ, suc, ◌≤◌, List, [], ◌∷◌, map, length, take, codes, nat_eq, Option, None, Some, Result, IsTrue, if◌then◌else◌, ◌==◌}
use Rattle.std.specs.List.{list_all, starts_with, before_first}
use Rattle.std.specs.Option.{option_map}
use Rattle.std.specs.Str.{bytes_eq}
use Rattle.std.specs.Char.{is_ascii_graphic}
use Rattle.httparse.specs.Grammar.{RequestHead, ReadsRequest}
use Rattle.httparse.specs.Spans.{name_and_value}
use Rattle.http_wire.specs.declared.method.Method.{Method}
use Rattle.http_wire.specs.declared.method.Method.TheVariants.{Get, Post, Other}
use Rattle.http_wire.specs.declared.limits.TheConstants.{HEAD_LIMIT, LINE_LIMIT}
use Rattle.http_wire.specs.Lines.{Line, values, first_text, size_of}

-- ---- where a head ends

-- the end of a line, and an empty line
abbrev pub empty_line : List ℕ
empty_line = codes "\r\n\r\n"

-- RFC 9112, 2.1: a message is "a start-line followed by a CRLF", "zero or more header field lines", each with CRLF, and "an
-- empty line indicating the end of the header section": the place behind the first CR LF CR LF
abbrev pub end_of_lines : List ℕ → Option ℕ
end_of_lines [] = None
end_of_lines (b ∷ bytes) =
    if starts_with nat_eq (b ∷ bytes) empty_line then Some (length empty_line) else option_map suc (end_of_lines bytes)

-- it lies in the first HEAD_LIMIT bytes, or there is none
abbrev pub head_end : List ℕ → Option ℕ
head_end bytes = end_of_lines (take HEAD_LIMIT bytes)

-- ---- what is a head

-- the bytes are just this head, of at most LINE_LIMIT field lines, and its target is of visible characters of ASCII
pub record IsHead (bytes : List ℕ) (head : RequestHead) : Type 0 where
  pub read : ReadsRequest bytes head []
  pub lines : length head.fields ≤ LINE_LIMIT
  pub target : IsTrue (list_all is_ascii_graphic head.target)

-- ---- what is read of a head

-- the field lines, with the white space around their values left out (RFC 9110, 5.5)
abbrev pub lines_of : RequestHead → List Line
lines_of head = map name_and_value head.fields

-- RFC 9110, 9.1: "The method token is case-sensitive"
abbrev pub method_of : List ℕ → Method
method_of name = if bytes_eq name (codes "GET") then Get else if bytes_eq name (codes "POST") then Post else Other

-- '?'
abbrev pub question_mark : ℕ
question_mark = 63

-- RFC 9112, 3.2.1: "origin-form = absolute-path [ "?" query ]"
abbrev pub path_of : List ℕ → List ℕ
path_of target = before_first (λ b. b == question_mark) target

-- what a server reads of a head: the size is that of the body, or the status that refuses it
pub record Parts : Type 0 where
  pub method : Method
  pub path : List ℕ
  pub cookie : Option (List ℕ)
  pub content_type : Option (List ℕ)
  pub size : Result ℕ ℕ

abbrev pub parts_by : List ℕ → List ℕ → List Line → Parts
parts_by method path lines = record {
  method = method_of method;
  path = path;
  cookie = first_text (values (codes "cookie") lines);
  content_type = first_text (values (codes "content-type") lines);
  size = size_of (method_of method) (values (codes "transfer-encoding") lines) (values (codes "content-length") lines);
}

abbrev pub parts_of : RequestHead → Parts
parts_of head = parts_by head.method (path_of head.target) (lines_of head)
