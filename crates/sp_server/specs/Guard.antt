-- What a guard answers. A proxy in front of an application asks at /auth and the path of each request who that request
-- comes from.
use Rattle.std.specs.Prelude.{ℕ, ◌==◌, Bool, true, false, ◌&&◌, ◌||◌, not, List, [], ◌∷◌, codes, drop, nat_eq, Option, None, Some, if◌then◌else◌}
use Rattle.std.specs.List.{slice_split, starts_with}
use Rattle.std.specs.Str.{bytes_eq}
use Rattle.xml_spec.specs.Bytes.{is_empty}
use Rattle.access_policy.specs.declared.rule.Rule.{Rule}
use Rattle.access_policy.specs.Decide as policies
use Rattle.http_wire.specs.declared.answer.Answer.{Answer}
use Rattle.http_wire.specs.declared.answer.Answer.TheVariants.{Fixed, Full}
use Rattle.http_wire.specs.declared.method.Method.TheVariants.{Get}
use Rattle.http_wire.specs.Requests.{Request}
use Rattle.http_wire.specs.Vouched.{vouched_answer}
use Rattle.request_rows.specs.declared.row.OpenedRow.{OpenedRow}
use Rattle.sp_answers.specs.Answers.{denied_answer}
use Rattle.service_routes.specs.Routes.{is_method}
use Rattle.sp_server.specs.Routes.{is_target}
use Rattle.access_policy.specs.Line.{is_app}

-- ---- the path

-- the path that is asked for is what stands behind /auth
abbrev pub path_asked : List ℕ → List ℕ
path_asked path = if starts_with nat_eq path (codes "/auth") then drop 5 path else path

-- RFC 3986, 3.3: "A path consists of a sequence of path segments separated by a slash ("/") character"; they stand
-- behind the slashes
abbrev pub between_slashes : List ℕ → List (List ℕ)
between_slashes text = slice_split (λ b. b == 47) text

abbrev pub segments : List ℕ → List (List ℕ)
segments path = drop 1 (between_slashes path)

-- RFC 3986, 3.3: "The path segments "." and "..", also known as dot-segments, are defined for relative reference within
-- the path name hierarchy"
abbrev pub is_dot_segment : List ℕ → Bool
is_dot_segment segment = bytes_eq segment (codes ".") || bytes_eq segment (codes "..")

-- none is a dot-segment, and none but the last is empty
abbrev pub are_plain : List (List ℕ) → Bool
are_plain [] = true
are_plain (segment ∷ []) = not (is_dot_segment segment)
are_plain (segment ∷ next ∷ others) = not (is_empty segment || is_dot_segment segment) && are_plain (next ∷ others)

-- A path that a proxy passes on as it stands: of the form that a GET of /app and below asks for, without escapes, with
-- plain segments. An application may still pass over a slash at its end, or take letters of either case for one.
abbrev pub is_plain : List ℕ → Bool
is_plain path = is_app path && is_target path && are_plain (segments path)

-- ---- the answer

-- a policy decides a plain path alone; any other is denied by `default`
abbrev pub decide_plain : List Rule → List ℕ → OpenedRow → policies.Answer
decide_plain rules path row =
    if is_plain path then policies.decide rules path row.name row.attributes else policies.answer_of None

-- what a live session is answered: who it is of where the policy allows it or there is none, else the rule that denies
-- it
abbrev pub vouched_by : OpenedRow → policies.Answer → List ℕ
vouched_by row decision =
    if decision.allowed then vouched_answer row.name row.attributes else denied_answer decision.rule

abbrev pub vouched_to : Option (List Rule) → List ℕ → OpenedRow → List ℕ
vouched_to None path row = vouched_answer row.name row.attributes
vouched_to (Some rules) path row = vouched_by row (decide_plain rules path row)

-- RFC 9110, 15.5.2: 401 where there is none
abbrev pub to_session : Option (List Rule) → List ℕ → Option OpenedRow → Answer
to_session policy path None = Fixed 401
to_session policy path (Some row) = Full (vouched_to policy path row)

-- RFC 9110, 15.5: 404 without a guard, and 405 for another method than GET
abbrev pub guard_answer : (guard : Bool) → Option (List Rule) → Request → Option OpenedRow → Answer
guard_answer false policy request session = Fixed 404
guard_answer true policy request session =
    if is_method Get request.method then to_session policy (path_asked request.path) session else Fixed 405
