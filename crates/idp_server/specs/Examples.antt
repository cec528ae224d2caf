-- The definitions at worked examples.
use Rattle.std.specs.Prelude.{◌≡◌, ℕ, true, false, List, [], ◌∷◌, codes, None, Some, refl}
use Rattle.http_wire.specs.declared.method.Method.{Method}
use Rattle.http_wire.specs.declared.method.Method.TheVariants.{Get, Post}
use Rattle.http_wire.specs.Requests.{Request}
use Rattle.element_make.specs.declared.names.Ns.TheVariants.{Ds, Saml}
use Rattle.element_make.specs.Made.{MadeNodes, NothingMade, MadeElement}
use Rattle.idp_rows.specs.declared.row.SessionRow.{SessionRow}
use Rattle.idp_rules.specs.declared.asked.Asked.{Asked}
use Rattle.service_routes.specs.declared.route.Route.TheVariants.{To, Refused}
use Rattle.idp_server.specs.declared.route.Service.TheVariants.{Login, SignOn, Logout, Metadata, SingleLogout}
use Rattle.idp_server.specs.Routes.{route, service_at}
use Rattle.idp_server.specs.Signed.{signed_elements}
use Rattle.protocol_messages.specs.declared.logout.Outcome.TheVariants.{Success, Partial, Other}
use Rattle.idp_server.specs.Step.{session_used, typed_in}
use Rattle.logout_answers.specs.Answers.{is_in_part}

-- a request without a form
sent : Method → List ℕ → Request
sent method path = record { method = method; path = path; cookie = None; content_type = None; body = [] }

services : (service_at (codes "/sso") ≡ Some (Post, SignOn)) × (service_at (codes "/login") ≡ Some (Post, Login))
    × (service_at (codes "/slow") ≡ None)
    × (service_at (codes "/slo") ≡ Some (Post, SingleLogout)) × (service_at (codes "/logout") ≡ Some (Post, Logout))
services = (refl, refl, refl, refl, refl)

routes : (route (sent Get (codes "/metadata")) ≡ To Metadata) × (route (sent Get (codes "/sso")) ≡ Refused 405)
    × (route (sent Post (codes "/sso")) ≡ Refused 415) × (route (sent Post (codes "/login")) ≡ Refused 415)
    × (route (sent Post (codes "/metadata")) ≡ Refused 405) × (route (sent Get (codes "/slo")) ≡ Refused 405)
    × (route (sent Post (codes "/logout")) ≡ Refused 415) × (route (sent Get (codes "/slow")) ≡ Refused 404)
unfolding sent
routes = (refl, refl, refl, refl, refl, refl, refl, refl)

-- the three fields of the page, and one that is missing
fields : (typed_in (Some (codes "p" ∷ codes "u" ∷ codes "w" ∷ [])) ≡ Some
    (record { pending = codes "p"; user = codes "u"; password = codes "w" }))
    × (typed_in None ≡ None)
fields = (refl, refl)

-- a session of alice, and a request that may ask anew
alice : SessionRow
alice = record {
  cookie = codes "_c";
  index = codes "_i";
  user = codes "alice";
  attributes = [];
  until = 28800000;
  ended = false;
}

-- the session is used where the user need not be authenticated anew
used : (asked : Asked) → (session_used (record asked { force = false }) (Some alice) ≡ Some alice)
    × (session_used (record asked { force = true }) (Some alice) ≡ None)
used asked = (refl, refl)

-- an Assertion with a Signature in a Response without one: the first alone is signed
an_assertion : MadeNodes
an_assertion =
    MadeElement Saml (codes "Assertion") [] (MadeElement Saml (codes "Issuer") [] NothingMade
    (MadeElement Ds (codes "Signature") [] NothingMade NothingMade)) NothingMade

one_signed : signed_elements (MadeElement Saml (codes "Response") [] an_assertion NothingMade) ≡ record {
  ns = Saml;
  local = codes "Assertion";
  attributes = [];
  kids = MadeElement Saml (codes "Issuer") [] NothingMade
      (MadeElement Ds (codes "Signature") [] NothingMade NothingMade);
} ∷ []
unfolding an_assertion
one_signed = refl

-- a logout ended at each participant only where that is said
outcomes : (is_in_part Success ≡ false) × (is_in_part Partial ≡ true) × (is_in_part Other ≡ true)
outcomes = (refl, refl, refl)
