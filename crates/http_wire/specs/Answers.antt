-- The bytes of an answer: RFC 9112, 2 to 5, with the phrases of RFC 9110, 15, as the crate `http` has them.
use Rattle.std.specs.Prelude.{ℕ, Bool, ◌||◌, not, ◌==◌, List, [], ◌++◌, length, codes, find, decimal, Option, None, Some, unwrap_or, is_some}
use Rattle.std.specs.List.{list_any, list_all}
use Rattle.std.specs.Option.{option_map_or}
use Rattle.httparse.specs.Ascii.{crlf_bytes, carriage_return, line_feed}
use Rattle.http.specs.StatusCode.{reason_phrase}
use Rattle.verdict_codes.specs.declared.codes.Verdict.{Verdict}
use Rattle.verdict_codes.specs.declared.codes.Verdict.TheVariants.{DiskFault, Full, NoMemory, Foreign}
use Rattle.verdict_codes.specs.Codes.{number_of, name_of}
use Rattle.http_wire.specs.declared.status.TheConstants.{FORBIDDEN, SERVICE_UNAVAILABLE}
use Rattle.http_wire.specs.declared.answer.TheConstants.{PAGE_STATUSES}
use Rattle.http_wire.specs.declared.fixed.TheConstants.{FIXED_STATUSES}
use Rattle.verdict_codes.specs.declared.codes.TheConstants.{VERDICTS}

-- ---- an answer

-- RFC 9112, 4: "status-line = HTTP-version SP status-code SP [ reason-phrase ]"
abbrev pub status_line : ℕ → List ℕ
status_line status = codes "HTTP/1.1 " ++ decimal status ++ codes " " ++ unwrap_or (reason_phrase status) [] ++ crlf_bytes

-- RFC 9112, 5: "field-line = field-name ":" OWS field-value OWS"
abbrev pub field_line : List ℕ → List ℕ → List ℕ
field_line name value = name ++ codes ": " ++ value ++ crlf_bytes

-- the field lines of each answer: a page of this size that no one keeps (RFC 9111, 5.2.2.5), on a connection that it ends
-- (RFC 9112, 9.6)
abbrev pub page_lines : ℕ → List ℕ
page_lines size =
    field_line (codes "Content-Type") (codes "text/html; charset=utf-8") ++ field_line (codes "Content-Length") (decimal size)
    ++ field_line (codes "Cache-Control") (codes "no-store") ++ field_line (codes "Connection") (codes "close")

-- RFC 9110, 10.2.2: where the client is to go on
abbrev pub location_line : Option (List ℕ) → List ℕ
location_line None = []
location_line (Some location) = field_line (codes "Location") location

-- RFC 6265, 4.1: a cookie that is sent back to each path of the host, and that scripts do not see
abbrev pub cookie_line : Option (List ℕ) → List ℕ
cookie_line None = []
cookie_line (Some cookie) = field_line (codes "Set-Cookie") (cookie ++ codes "; Path=/; HttpOnly")

-- RFC 9112, 2.1: the status line, the field lines, an empty line and the body
unfoldable pub answer : ℕ → Option (List ℕ) → Option (List ℕ) → List ℕ → List ℕ
answer status location cookie body =
    status_line status ++ page_lines (length body) ++ location_line location ++ cookie_line cookie ++ crlf_bytes ++ body

-- the statuses of answers with a body of their own: OK, See Other and Forbidden
abbrev pub is_page_status : ℕ → Bool
is_page_status status = list_any (λ known. known == status) PAGE_STATUSES

-- no line ends in the value of a field (RFC 9110, 5.5: "Field values containing CR, LF, or NUL characters are invalid and
-- dangerous")
abbrev pub is_one_line : List ℕ → Bool
is_one_line value = list_all (λ b. not (b == carriage_return || b == line_feed)) value

-- ---- answers without a choice

abbrev pub page : List ℕ → List ℕ
page paragraph = codes "<!DOCTYPE html><html><body><p>" ++ paragraph ++ codes "</p></body></html>"

-- 503 where the program itself can't go on, for its disk, its room, its memory or its journal; else 403
abbrev pub status_of : Verdict → ℕ
status_of DiskFault = SERVICE_UNAVAILABLE
status_of Full = SERVICE_UNAVAILABLE
status_of NoMemory = SERVICE_UNAVAILABLE
status_of Foreign = SERVICE_UNAVAILABLE
status_of other = FORBIDDEN

-- the answer that names a verdict
abbrev pub refusal : Verdict → List ℕ
refusal verdict =
    answer (status_of verdict) None None (page (codes "Refused: " ++ decimal (number_of verdict) ++ codes " " ++ name_of verdict))

-- the answer that names its status
abbrev pub status_page : ℕ → List ℕ
status_page status = answer status None None (page (decimal status))

-- the verdict of this number
abbrev pub verdict_of : ℕ → Option Verdict
verdict_of code = find (λ verdict. number_of verdict == code) VERDICTS

-- the number of a verdict, or a status that is answered alone
abbrev pub is_fixed : ℕ → Bool
is_fixed code = is_some (verdict_of code) || list_any (λ status. status == code) FIXED_STATUSES

-- the answer for such a number
abbrev pub fixed : ℕ → List ℕ
fixed code = option_map_or refusal (verdict_of code) (status_page code)
