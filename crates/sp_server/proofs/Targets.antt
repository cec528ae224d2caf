-- A path to which a user can be sent back is a text of XML.
use Rattle.std.proofs.Common.{◌≡◌, ℕ, ◌<◌, ◌≤◌, Bool, true, false, List, [], ◌∷◌, refl, subst, arith}
use Rattle.std.specs.List.{list_all}
use Rattle.std.specs.Prelude.{nat_lt, Option, None, Some, if◌then◌else◌}
use Rattle.std.proofs.lemmas.Bool.Decides.{nat_tests}
use Rattle.xml_spec.specs.Characters.{is_char}
use Rattle.xml_spec.proofs.Tests.{and_true, both_true}
use Rattle.xml_chars.specs.AsciiTexts.{is_ascii_char}
use Rattle.xml_chars.proofs.Texts.{ascii_text}
use Rattle.http_wire.specs.declared.method.Method.{Method}
use Rattle.http_wire.specs.Answers.{is_fixed}
use Rattle.http_wire.specs.Requests.{Request}
use Rattle.ledger_rules.specs.Numbers.{is_xml_text}
use Rattle.ledger_rules.proofs.Texts.{tested as xml_tested}
use Rattle.service_routes.specs.declared.route.Route.{Route}
use Rattle.service_routes.specs.declared.route.Route.TheVariants.{To, Refused}
use Rattle.service_routes.specs.Routes.{IsAnswered, checked, is_method, is_typed}
use Rattle.sp_server.specs.declared.route.Service.{Service}
use Rattle.sp_server.specs.declared.route.Service.TheVariants.{App, Guard}
use Rattle.sp_server.specs.Routes.{at_target, is_guarded, is_target, route, service_at}
use Rattle.access_policy.specs.Line.{is_path_byte}

graphic : (b : ℕ) → is_path_byte b ≡ true → (45 ≤ b) × (b < 127)
graphic b h = grind (arith, nat_tests)

is_allowed : (b : ℕ) → 45 ≤ b → b < 127 → is_char b ≡ true
is_allowed b low high = grind (arith, nat_tests)

is_small : (b : ℕ) → b < 127 → nat_lt b 128 ≡ true
is_small b high = grind (arith, nat_tests)

are_ascii : (path : List ℕ) → list_all is_path_byte path ≡ true → list_all is_ascii_char path ≡ true
are_ascii [] h = refl
are_ascii (b ∷ path) h =
    let both = both_true (is_path_byte b) (list_all is_path_byte path) h in
    let range = graphic b both.0 in
    and_true (is_ascii_char b) (list_all is_ascii_char path)
    (and_true (nat_lt b 128) (is_char b) (is_small b range.1) (is_allowed b range.0 range.1)) (are_ascii path both.1)

pub target_is_text : (path : List ℕ) → is_target path ≡ true → is_xml_text path ≡ true
target_is_text path h =
    let all =
    (both_true (Rattle.std.specs.Prelude.nat_le (Rattle.std.specs.Prelude.length path) 256) (list_all is_path_byte path)
    h).1 in
    (xml_tested path).1 (ascii_text path (are_ascii path all))

-- the path of a request for a page of the application is one
tested : (target : Bool) → ◌≡◌ {A = Route Service} (if target then To App else Refused 404) (To App) → target ≡ true
tested true is = refl
tested false is = cc

at_app : (path : List ℕ) (to : Route Service) → at_target path to ≡ To App → is_target path ≡ true
at_app path (To App) is = tested (is_target path) is
at_app path other is = absurd (cc)

elsewhere : (guarded : Bool) (to : Route Service) → (if guarded then To Guard else to) ≡ To App → to ≡ To App
elsewhere true to is = absurd (cc)
elsewhere false to is = is

-- where it goes by its path and its method
abbrev goes : Request → Route Service
goes request = checked request (service_at request.path)

pub path_is_text : (request : Request) → route request ≡ To App → is_xml_text request.path ≡ true
path_is_text request is =
    target_is_text request.path
    (at_app request.path (goes request) (elsewhere (is_guarded request.path) (at_target request.path (goes request))
    is))

-- ---- the status of a request that is not served has a page

chosen : (b : Bool) (one other : Route Service) → IsAnswered one → IsAnswered other
    → IsAnswered (if b then one else other)
chosen true one other h k = h
chosen false one other h k = k

target_answered : (path : List ℕ) (to : Route Service) → IsAnswered to → IsAnswered (at_target path to)
target_answered path (To App) h = chosen (is_target path) (To App) (Refused 404) tt refl
target_answered path (Refused status) h = h
target_answered path other h = tt

checked_answered : (request : Request) (at : Option (Method × Service)) → IsAnswered (checked request at)
checked_answered request None = refl
checked_answered request (Some (method, service)) =
    chosen (is_method method request.method) (if is_typed method request.content_type then To service else Refused 415)
    (Refused 405)
    (chosen (is_typed method request.content_type) (To service) (Refused 415) tt refl) refl

pub refused_answered : (request : Request) (status : ℕ) → route request ≡ Refused status → is_fixed status ≡ true
refused_answered request status is =
    subst IsAnswered is
    (chosen (is_guarded request.path) (To Guard) (at_target request.path (goes request)) tt
    (target_answered request.path (goes request) (checked_answered request (service_at request.path))))
