-- The requests of a user agent: RFC 9112, 2 to 5.
use Rattle.std.specs.Prelude.{ℕ, List, [], ◌∷◌, ◌++◌, length, codes, decimal, Option, None, Some}
use Rattle.form_urlencoded.specs.Form.{extend_pairs}
use Rattle.http_wire.specs.Answers.{field_line}
use Rattle.post_agent.specs.declared.site.Site.{Site}
use Rattle.post_agent.specs.Sites.{host_of}

-- RFC 6265, 5.4: the cookie that the node set, where it set one
abbrev pub cookie_line : Option (List ℕ) → List ℕ
cookie_line None = []
cookie_line (Some cookie) = field_line (codes "Cookie") cookie

-- RFC 9112, 3: "request-line = method SP request-target SP HTTP-version"; and the host and the cookie
abbrev pub head_of : List ℕ → Site → Option (List ℕ) → List ℕ → List ℕ
head_of method site cookie path =
    (method ++ codes " " ++ path ++ codes " HTTP/1.1\r\n") ++ field_line (codes "Host") (host_of site)
    ++ cookie_line cookie

-- RFC 9110, 9.3.1
abbrev pub get : Site → Option (List ℕ) → List ℕ → List ℕ
get site cookie path = head_of (codes "GET") site cookie path ++ codes "\r\n"

-- RFC 9110, 9.3.3, with a form of this size as its body (HTML, 4.10.21.8)
abbrev pub form_type : List ℕ
form_type = codes "application/x-www-form-urlencoded"

abbrev pub post_head : Site → Option (List ℕ) → List ℕ → ℕ → List ℕ
post_head site cookie path size =
    head_of (codes "POST") site cookie path ++ field_line (codes "Content-Type") form_type
    ++ field_line (codes "Content-Length") (decimal size) ++ codes "\r\n"

abbrev pub post : Site → Option (List ℕ) → List ℕ → List ℕ → List ℕ
post site cookie path form = post_head site cookie path (length form) ++ form

-- the fields of the login page, as its user fills them in
abbrev pub login_form : List ℕ → List ℕ → List ℕ → List ℕ
login_form pending user password =
    extend_pairs [] ((codes "pending", pending) ∷ (codes "user", user) ∷ (codes "password", password) ∷ [])
