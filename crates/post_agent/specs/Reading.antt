-- Words by which the code reads answers and pages. What they give is what `Means` says, as a law of the crate states.
use Rattle.std.specs.Prelude.{ℕ, ◌-◌, ◌+◌, ◌*◌, ◌^◌, Bool, ◌&&◌, ◌||◌, true, false, ◌==◌, nat_eq, nat_lt, List, [], ◌∷◌, ◌++◌, length, take, drop, find, codes, decimal, Option, None, Some, option_and_then, unwrap_or, if◌then◌else◌}
use Rattle.std.specs.Char.{is_ascii_digit}
use Rattle.std.specs.List.{list_all, ends_with}
use Rattle.std.specs.Option.{option_map, option_map_or}
use Rattle.std.specs.Result.{result_ok}
use Rattle.std.specs.Str.{is_utf8, bytes_eq}
use Rattle.base64.specs.Engines.{standard}
use Rattle.base64.specs.GeneralPurpose.{decode_of}
use Rattle.httparse.specs.Ascii.{carriage_return}
use Rattle.http.specs.StatusCode.{reason_phrase}
use Rattle.verdict_codes.specs.declared.codes.Verdict.{Verdict}
use Rattle.verdict_codes.specs.Codes.{number_of}
use Rattle.post_binding.specs.declared.posted.Field.{Field}
use Rattle.post_binding.specs.declared.posted.Field.TheVariants.{Request, Response}
use Rattle.post_binding.specs.Html.{read_text}
use Rattle.post_binding.specs.Pages.{login_page, end_page}
use Rattle.http_wire.specs.Answers.{is_one_line}
use Rattle.post_agent.specs.declared.agent.TheConstants.{SEE_OTHER}
use Rattle.verdict_codes.specs.declared.codes.TheConstants.{VERDICTS}
use Rattle.post_agent.specs.declared.seen.AutoForm.{AutoForm}
use Rattle.post_agent.specs.declared.seen.Page.{Page}
use Rattle.post_agent.specs.declared.seen.Page.TheVariants as pages
use Rattle.post_agent.specs.declared.seen.Seen.{Seen}
use Rattle.post_agent.specs.declared.seen.What.TheVariants as seen
use Rattle.post_agent.specs.Cuts.{behind, cut, quoted}
use Rattle.post_agent.specs.Pages.{form_page, refusal_page, status_page}
use Rattle.post_agent.specs.Received.{Parts, Reading, NoAnswer, Moved, Shown, what_of}
use Rattle.owned_values.specs.Options.{◌>>=◌, in_utf8}

-- ---- texts in pages

-- the character of a reference, and what stands behind it
abbrev pub behind_one : ℕ → List ℕ → List ℕ → Option (ℕ × List ℕ)
behind_one character reference text = option_map (λ rest. (character, rest)) (behind reference text)

abbrev pub first_of : {X : Type 0} → Option X → Option X → Option X
first_of None other = other
first_of (Some x) other = Some x

abbrev pub behind_reference : List ℕ → Option (ℕ × List ℕ)
behind_reference text =
    first_of (behind_one 38 (codes "&amp;") text) (first_of (behind_one 60 (codes "&lt;") text)
    (first_of (behind_one 62 (codes "&gt;") text) (first_of (behind_one 34 (codes "&quot;") text)
    (behind_one 39 (codes "&#39;") text))))

abbrev pub text_in : List ℕ → Option (List ℕ)
text_in escaped = option_and_then in_utf8 (read_text escaped)

-- each is a byte
abbrev pub are_bytes : List ℕ → Bool
are_bytes message = list_all (λ b. nat_lt b 256) message

abbrev pub as_bytes : List ℕ → Option (List ℕ)
as_bytes message = if are_bytes message then Some message else None

abbrev pub decoded : List ℕ → Option (List ℕ)
decoded symbols = option_and_then as_bytes (result_ok (decode_of standard symbols))

abbrev pub message_in : List ℕ → Option (List ℕ)
message_in escaped = option_and_then decoded (read_text escaped)

-- ---- forms

-- what stands in the quotation marks of a page, still escaped
pub record FormParts : Type 0 where
  pub url : List ℕ
  pub name : List ℕ
  pub message : List ℕ
  pub relay : Option (List ℕ)

abbrev pub url_front : List ℕ
url_front = codes "<!DOCTYPE html><html><body onload=\"document.forms[0].submit()\"><form method=\"post\" action=\""

abbrev pub name_front : List ℕ
name_front = codes "><input type=\"hidden\" name=\""

abbrev pub value_front : List ℕ
value_front = codes " value=\""

abbrev pub relay_front : List ℕ
relay_front = codes "/><input type=\"hidden\" name=\"RelayState\" value=\""

abbrev pub pending_front : List ℕ
pending_front =
    codes "<!DOCTYPE html><html><body><form method=\"post\" action=\"/login\">"
    ++ codes "<input type=\"hidden\" name=\"pending\" value=\""

abbrev pub relay_part : List ℕ → Option (List ℕ)
relay_part bytes = option_map (λ found. found.0) (quoted relay_front bytes)

abbrev pub form_parts : List ℕ → Option FormParts
form_parts page = do
  url ← quoted url_front page
  name ← quoted name_front url.1
  message ← quoted value_front name.1
  Some (record { url = url.0; name = name.0; message = message.0; relay = relay_part message.1 })

abbrev pub field_of : List ℕ → Option Field
field_of name =
    if bytes_eq name (codes "SAMLRequest") then Some Request
    else if bytes_eq name (codes "SAMLResponse") then Some Response
    else None

abbrev pub relay_in : Option (List ℕ) → Option (Option (List ℕ))
relay_in None = Some None
relay_in (Some part) = option_map (λ relay. Some relay) (text_in part)

abbrev pub form_of : FormParts → Option AutoForm
form_of parts = do
  url ← text_in parts.url
  field ← field_of parts.name
  message ← message_in parts.message
  relay ← relay_in parts.relay
  Some (record { url = url; field = field; message = message; relay = relay })

-- the form, where this is its page
abbrev pub form_with : List ℕ → AutoForm → Option AutoForm
form_with page form = if bytes_eq (form_page form) page then Some form else None

abbrev pub form_in : List ℕ → Option AutoForm
form_in page = do
  parts ← form_parts page
  form ← form_of parts
  form_with page form

abbrev pub login_with : List ℕ → List ℕ → Option (List ℕ)
login_with page pending = if bytes_eq (login_page pending) page then Some pending else None

abbrev pub login_in : List ℕ → Option (List ℕ)
login_in page = do
  found ← quoted pending_front page
  pending ← text_in found.0
  login_with page pending

-- ---- other pages

abbrev pub is_refusal : List ℕ → Verdict → Bool
is_refusal page verdict = bytes_eq page (refusal_page verdict)

abbrev pub code_in : List ℕ → Option ℕ
code_in page = option_map number_of (find (is_refusal page) VERDICTS)

abbrev pub is_status : ℕ → List ℕ → Bool
is_status status page = bytes_eq page (status_page status)

abbrev pub is_end : List ℕ → Bool
is_end page = bytes_eq page (end_page true) || bytes_eq page (end_page false)

abbrev pub other_page : ℕ → List ℕ → Page
other_page status page =
    if is_end page then pages.End
    else option_map_or (λ code. pages.Code code) (code_in page)
    (if is_status status page then pages.Status else pages.Other)

abbrev pub page_of : ℕ → List ℕ → Page
page_of status body =
    option_map_or (λ form. pages.Form form) (form_in body)
    (option_map_or (λ pending. pages.Login pending) (login_in body) (other_page status body))

-- ---- answers

-- the number of three digits
abbrev pub status_by : List ℕ → Option ℕ
status_by (a ∷ b ∷ c ∷ []) =
    if is_ascii_digit a && is_ascii_digit b && is_ascii_digit c && nat_lt 48 a
    then Some ((a - 48) * 100 + (b - 48) * 10 + (c - 48))
    else None
status_by digits = None

abbrev pub status_in : List ℕ → Option (ℕ × List ℕ)
status_in bytes = option_map (λ status. (status, drop 3 bytes)) (status_by (take 3 bytes))

abbrev pub status_line : List ℕ → Option (ℕ × List ℕ)
status_line bytes = do
  digits ← behind (codes "HTTP/1.1 ") bytes
  found ← status_in digits
  space ← behind (codes " ") found.1
  rest ← behind (unwrap_or (reason_phrase found.0) []) space
  Some (found.0, rest)

abbrev pub page_lines : List ℕ → Option (List ℕ × List ℕ)
page_lines bytes = do
  digits ← behind (codes "\r\nContent-Type: text/html; charset=utf-8\r\nContent-Length: ") bytes
  size ← cut carriage_return digits
  rest ← behind (codes "\nCache-Control: no-store\r\nConnection: close\r\n") size.1
  Some (size.0, rest)

abbrev pub line_text : List ℕ → Option (List ℕ)
line_text value = if is_one_line value && is_utf8 value then Some value else None

abbrev pub value_in : List ℕ → List ℕ → Option (List ℕ)
value_in line end = if ends_with nat_eq line end then line_text (take (length line - length end) line) else None

abbrev pub field_in : List ℕ → List ℕ → Option (List ℕ × List ℕ)
field_in bytes end = do
  line ← cut carriage_return bytes
  value ← value_in line.0 end
  rest ← behind (codes "\n") line.1
  Some (value, rest)

abbrev pub field_behind : List ℕ → List ℕ → Option (Option (List ℕ) × List ℕ)
field_behind bytes end = option_map (λ found. (Some found.0, found.1)) (field_in bytes end)

abbrev pub next_field : List ℕ → List ℕ → List ℕ → Option (Option (List ℕ) × List ℕ)
next_field bytes name end = option_map_or (λ rest. field_behind rest end) (behind name bytes) (Some (None, bytes))

abbrev pub is_size : List ℕ → List ℕ → Bool
is_size digits body = nat_lt (length body) (2 ^ 64) && bytes_eq digits (decimal (length body))

abbrev pub sized_parts : List ℕ → Parts → Option Parts
sized_parts size parts = if is_size size parts.body then Some parts else None

abbrev pub answer_of : List ℕ → Option Parts
answer_of bytes = do
  status ← status_line bytes
  size ← page_lines status.1
  location ← next_field size.1 (codes "Location: ") []
  cookie ← next_field location.1 (codes "Set-Cookie: ") (codes "; Path=/; HttpOnly")
  body ← behind (codes "\r\n") cookie.1
  sized_parts size.0 (record { status = status.0; location = location.0; cookie = cookie.0; body = body })

-- ---- what is seen

abbrev pub shown : Parts → Option Page
shown parts = if parts.status == SEE_OTHER then None else Some (page_of parts.status parts.body)

abbrev pub seen_by : ℕ → Option Page → Seen
seen_by status None = record { status = status; what = seen.Moved }
seen_by status (Some page) = record { status = status; what = what_of page }

abbrev pub reading_with : Parts → Option Page → Reading
reading_with parts None = Moved parts
reading_with parts (Some page) = Shown parts page

abbrev pub reading_by : Option Parts → Reading
reading_by None = NoAnswer
reading_by (Some parts) = reading_with parts (shown parts)

abbrev pub reading_of : List ℕ → Reading
reading_of bytes = reading_by (answer_of bytes)
