-- An answer as a user agent receives it.
use Rattle.std.specs.Prelude.{◌≡◌, ◌≢◌, ℕ, ◌<◌, ◌^◌, List, length, Option, IfSome, IsTrue, IsUtf8}
use Rattle.http.specs.StatusCode.{IsStatusCode}
use Rattle.http_wire.specs.Answers.{answer, is_one_line}
use Rattle.post_agent.specs.declared.agent.TheConstants.{SEE_OTHER}
use Rattle.post_agent.specs.declared.seen.Page.{Page}
use Rattle.post_agent.specs.declared.seen.Page.TheVariants.{Form, Login, End, Code, Status, Other}
use Rattle.post_agent.specs.declared.seen.Seen.{Seen}
use Rattle.post_agent.specs.declared.seen.What.{What}
use Rattle.post_agent.specs.declared.seen.What.TheVariants as seen
use Rattle.post_agent.specs.declared.site.Site.{Site}
use Rattle.post_agent.specs.Agents.{with_cookie, with_location, with_page}
use Rattle.post_agent.specs.Pages.{Shows}
use Rattle.post_agent.specs.States.{State}

-- the parts of an answer
pub record Parts : Type 0 where
  pub status : ℕ
  pub location : Option (List ℕ)
  pub cookie : Option (List ℕ)
  pub body : List ℕ

-- a text that may stand in a field line
pub record IsLineText (value : List ℕ) : Type 0 where
  pub text : IsUtf8 value
  pub one_line : IsTrue (is_one_line value)

-- the bytes are the answer of these parts: RFC 9112, 2.1, with a status of three digits and a size of 64 bits
pub record IsAnswer (bytes : List ℕ) (parts : Parts) : Type 0 where
  pub status : IsStatusCode parts.status
  pub location : IfSome parts.location IsLineText
  pub cookie : IfSome parts.cookie IsLineText
  pub size : length parts.body < 2 ^ 64
  pub written : bytes ≡ answer parts.status parts.location parts.cookie parts.body

-- what bytes are: no answer, one that sends the user agent on, or one that shows a page
pub data Reading : Type 0 where
  NoAnswer : Reading
  Moved : (parts : Parts) → Reading
  Shown : (parts : Parts) (page : Page) → Reading

-- RFC 9110, 15.4.4: an answer with the status 303 sends the user agent on, and its body is not shown
abbrev pub Means : List ℕ → Reading → Type 0
Means bytes NoAnswer = (parts : Parts) → ¬ (IsAnswer bytes parts)
Means bytes (Moved parts) = IsAnswer bytes parts × (parts.status ≡ SEE_OTHER)
Means bytes (Shown parts page) = IsAnswer bytes parts × (parts.status ≢ SEE_OTHER) × Shows parts.status parts.body page

-- how a page is seen
abbrev pub what_of : Page → What
what_of (Form form) = seen.Form form.field
what_of (Login pending) = seen.Login
what_of End = seen.End
what_of (Code code) = seen.Code code
what_of Status = seen.Status
what_of Other = seen.Page

-- how what was read is seen
abbrev pub seen_of : Reading → Seen
seen_of NoAnswer = record { status = 0; what = seen.Page }
seen_of (Moved parts) = record { status = parts.status; what = seen.Moved }
seen_of (Shown parts page) = record { status = parts.status; what = what_of page }

-- the cookie and the Location of any answer are kept
abbrev pub with_fields : Site → Parts → State → State
with_fields site parts state = with_location site parts.location (with_cookie site parts.cookie state)

-- what is kept of what a node sent
abbrev pub after : Site → Reading → State → State
after site NoAnswer state = state
after site (Moved parts) state = with_fields site parts state
after site (Shown parts page) state = with_page site page (with_fields site parts state)

-- what is seen of bytes of a node, and what an agent keeps then
pub record Receives (site : Site) (bytes : List ℕ) (before : State) (outcome : Seen) (now : State) : Type 0 where
  pub reading : Reading
  pub means : Means bytes reading
  pub seen : outcome ≡ seen_of reading
  pub kept : now ≡ after site reading before
