-- Where a request goes, and what is answered where it goes nowhere.
use Rattle.std.specs.Prelude.{ℕ, Bool, true, false, List, codes, Option, None, Some, IsTrue, if◌then◌else◌}
use Rattle.std.specs.Str.{bytes_eq}
use Rattle.http_wire.specs.declared.method.Method.{Method}
use Rattle.http_wire.specs.declared.method.Method.TheVariants.{Get, Post, Other}
use Rattle.http_wire.specs.Answers.{is_fixed}
use Rattle.http_wire.specs.Cookies.{is_form_type}
use Rattle.http_wire.specs.Requests.{Request}
use Rattle.service_routes.specs.declared.route.Route.{Route}
use Rattle.service_routes.specs.declared.route.Route.TheVariants.{To, Refused}

-- The service at a path that both providers have, and the method that it takes: the metadata, where a user leaves, and
-- where the messages of a logout are posted.
abbrev pub common_at : {S : Type 0} → S → S → S → List ℕ → Option (Method × S)
common_at metadata logout single_logout path =
    if bytes_eq path (codes "/metadata") then Some (Get, metadata)
    else if bytes_eq path (codes "/logout") then Some (Post, logout)
    else if bytes_eq path (codes "/slo") then Some (Post, single_logout)
    else None

-- whether a request has the method that a service takes; a service takes GET or POST
abbrev pub is_method : Method → Method → Bool
is_method Get Get = true
is_method Post Post = true
is_method _ _ = false

-- whether a form is posted where one is taken
abbrev pub is_typed : Method → Option (List ℕ) → Bool
is_typed Post None = false
is_typed Post (Some content_type) = is_form_type content_type
is_typed Get content_type = true
is_typed Other content_type = true

-- RFC 9110, 15.5: a service, or the status that is answered in its place: 404 where there is none at the path, 405
-- where it takes another method, and 415 where it takes a form and something else is posted.
abbrev pub checked : {S : Type 0} → Request → Option (Method × S) → Route S
checked request None = Refused 404
checked request (Some (method, service)) =
    if is_method method request.method
    then if is_typed method request.content_type then To service else Refused 415
    else Refused 405

-- the status that is answered in place of a service has an answer that stands alone
abbrev pub IsAnswered : {S : Type 0} → Route S → Type 0
IsAnswered (To service) = Unit {0}
IsAnswered (Refused status) = IsTrue (is_fixed status)
