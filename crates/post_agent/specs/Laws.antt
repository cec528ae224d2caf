-- The laws of what a user agent sends and reads.
use Rattle.std.specs.Prelude.{◌≡◌, ℕ, ◌<◌, ◌≤◌, true, List, [], length, Option, None, Some, IfSome}
use Rattle.std.specs.Char.{is_ascii_graphic}
use Rattle.std.specs.List.{list_all}
use Rattle.http_wire.specs.declared.limits.TheConstants.{HEAD_LIMIT, BODY_LIMIT}
use Rattle.http_wire.specs.declared.method.Method.{Method}
use Rattle.http_wire.specs.declared.method.Method.TheVariants.{Get, Post}
use Rattle.http_wire.specs.Heads.{path_of}
use Rattle.http_wire.specs.Requests as wire
use Rattle.post_agent.specs.declared.site.Site.{Site}
use Rattle.post_agent.specs.Reading.{reading_of}
use Rattle.post_agent.specs.Received.{Means, Reading}
use Rattle.post_agent.specs.Requests.{form_type, get, post_head, post}

-- bytes are one answer at most, and its body is one page; and what the code reads is that
pub record EachAnswerHasOneReading : Type 0 where
  pub read : (bytes : List ℕ) → Means bytes (reading_of bytes)
  pub one : (bytes : List ℕ) (a b : Reading) → Means bytes a → Means bytes b → a ≡ b

-- visible characters of ASCII, at least one
pub record IsVisible (text : List ℕ) : Type 0 where
  pub some : 0 < length text
  pub visible : list_all is_ascii_graphic text ≡ true

-- a whole request
abbrev pub asked : Method → Option (List ℕ) → List ℕ → Option (List ℕ) → List ℕ → wire.Reading
asked method cookie path content_type body =
    wire.Whole
    (record { method = method; path = path_of path; cookie = cookie; content_type = content_type; body = body })

-- A node reads what is sent as a whole request for this path, with this cookie and this form, where the path and the
-- cookie are visible and the lengths are within its limits.
pub record EachRequestIsRead : Type 0 where
  pub get : (site : Site) (cookie : Option (List ℕ)) (path : List ℕ) → IfSome cookie IsVisible → IsVisible path →
      length (get site cookie path) ≤ HEAD_LIMIT → wire.Reads (get site cookie path) (asked Get cookie path None [])
  pub post : (site : Site) (cookie : Option (List ℕ)) (path form : List ℕ) → IfSome cookie IsVisible → IsVisible path →
      length form ≤ BODY_LIMIT → length (post_head site cookie path (length form)) ≤ HEAD_LIMIT →
      wire.Reads (post site cookie path form) (asked Post cookie path (Some form_type) form)
