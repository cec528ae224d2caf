-- No answer where nothing fails is one of the codes that a provider answers for itself.
use Rattle.std.specs.Prelude.{Option, None, Some, if◌then◌else◌}
use Rattle.std.proofs.Common.{inl, inr, ℕ, Bool, true, false, List, [], ◌∷◌, sym, subst, refl, arith}
use Rattle.access_policy.specs.declared.rule.Rule.{Rule}
use Rattle.http_wire.specs.declared.answer.Answer.TheVariants.{Fixed, Full}
use Rattle.http_wire.specs.declared.method.Method.TheVariants.{Get}
use Rattle.http_wire.specs.Requests.{Request}
use Rattle.logout_profile.proofs.Codes.{disobeyed_ends}
use Rattle.request_rows.specs.declared.row.OpenedRow.{OpenedRow}
use Rattle.sp_rules.proofs.Codes.{refused_ends}
use Rattle.service_routes.specs.declared.route.Route.{Route}
use Rattle.service_routes.specs.declared.route.Route.TheVariants.{To, Refused}
use Rattle.service_routes.specs.Routes.{is_method, checked}
use Rattle.service_routes.proofs.Served.{IsServed, checked_served, chosen}
use Rattle.sp_server.specs.declared.route.Service.{Service}
use Rattle.sp_server.specs.declared.route.Service.TheVariants.{App, Consumer, Metadata, Logout, SingleLogout, Guard}
use Rattle.sp_server.specs.Guard.{guard_answer, path_asked, to_session, vouched_to}
use Rattle.sp_server.specs.Routes.{at_target, is_guarded, is_target, route, service_at}
use Rattle.sp_server.specs.Peer.{idp_at, logout_address, second_key}
use Rattle.sp_server.specs.Step as steps
use Rattle.sp_server.specs.Step.{Answers, session_for}
use Rattle.provider_node.specs.Causes.{GivesNoOwnCode, IsNoOwnCode}
use Rattle.provider_node.proofs.Causes.{IsOther, of_code, of_page}
use Rattle.provider_node.proofs.Refusals.{of_verdict}

-- ---- the status of a request that is not served

target_served : (Holds : ℕ → Type 0) → Holds 404 → (path : List ℕ) (to : Route Service) → IsServed Holds to
    → IsServed Holds (at_target path to)
target_served Holds none path (To App) h = chosen Holds (is_target path) (To App) (Refused 404) tt none
target_served Holds none path (To Consumer) h = tt
target_served Holds none path (To Metadata) h = tt
target_served Holds none path (To Logout) h = tt
target_served Holds none path (To SingleLogout) h = tt
target_served Holds none path (To Guard) h = tt
target_served Holds none path (Refused status) h = h

pub route_served : (Holds : ℕ → Type 0) → Holds 404 → Holds 405 → Holds 415 → (request : Request)
    → IsServed Holds (route request)
route_served Holds none other untyped request =
    let checks = checked_served Holds none other untyped request (service_at request.path) in
    chosen Holds (is_guarded request.path) (To Guard) (at_target request.path (checked request (service_at request.path)))
    tt (target_served Holds none request.path (checked request (service_at request.path)) checks)

-- ---- what a guard answers

of_session : (policy : Option (List Rule)) (path : List ℕ) (session : Option OpenedRow)
    → IsNoOwnCode (to_session policy path session)
of_session policy path None = of_code (Fixed 401) 401 (inr (omega arith)) refl
of_session policy path (Some row) = of_page (Full (vouched_to policy path row)) (vouched_to policy path row) refl

of_method : (policy : Option (List Rule)) (path : List ℕ) (session : Option OpenedRow) (get : Bool)
    → IsNoOwnCode (if get then to_session policy path session else Fixed 405)
of_method policy path session true = of_session policy path session
of_method policy path session false = of_code (Fixed 405) 405 (inr (omega arith)) refl

of_guard : (guard : Bool) (policy : Option (List Rule)) (request : Request) (session : Option OpenedRow)
    → IsNoOwnCode (guard_answer guard policy request session)
of_guard false policy request session = of_code (Fixed 404) 404 (inr (omega arith)) refl
of_guard true policy request session =
    of_method policy (path_asked request.path) session (is_method Get request.method)

-- ---- the answers

pub none_own : GivesNoOwnCode Answers
none_own setup held request now answer adds (steps.ByStatus status to is nothing) =
    let served = route_served IsOther (inr (omega arith)) (inr (omega arith)) (inr (omega arith)) request in
    of_code answer status (subst (IsServed IsOther) to served) is
none_own setup held request now answer adds (steps.ByMetadata to is nothing) = of_page answer _ is
none_own setup held request now answer adds (steps.BySession row to found is nothing) = of_page answer _ is
none_own setup held request now answer adds (steps.ByAsking bytes to out before id relay page is ids shown) =
    of_page answer bytes shown
none_own setup held request now answer adds (steps.ByGuard to is nothing) =
    subst IsNoOwnCode (sym is) (of_guard setup.guard setup.policy request (session_for held now request))
none_own setup held request now answer adds (steps.ByOpening b row to before opens token is has shown) =
    of_page answer _ shown
none_own setup held request now answer adds (steps.ByVerdict verdict to before refused is nothing) =
    of_verdict answer 23 verdict
    (refused_ends setup.config _ held.header.horizon now request.body verdict refused) (omega arith) is
none_own setup held request now answer adds (steps.ByExpiry at expired is nothing) =
    of_code answer 70 (inr (omega arith)) is
none_own setup held request now answer adds (steps.ByLeaving row id bytes to before found is has leaves shown) =
    of_page answer bytes shown
none_own setup held request now answer adds (steps.ByNoSession to before found is nothing) =
    of_code answer 33 (inl (omega arith)) is
none_own setup held request now answer adds (steps.ByLogoutVerdict verdict to before refused is nothing) =
    of_verdict answer 35 verdict
    (disobeyed_ends (idp_at setup.config now ∷ []) (second_key setup.config now) (logout_address setup.config)
    setup.config.skew now request.body verdict refused) (omega arith) is
none_own setup held request now answer adds (steps.ByEnding asked relay id bytes to before obeyed some is has ends
    shown) = of_page answer bytes shown
none_own setup held request now answer adds (steps.ByNothingToEnd asked relay to before obeyed empty is nothing) =
    of_code answer 33 (inl (omega arith)) is
none_own setup held request now answer adds (steps.ByConfirming response to before obeyed awaited is shown) =
    of_page answer _ shown
none_own setup held request now answer adds (steps.ByUnknownLogout response to before obeyed unknown is nothing) =
    of_code answer 34 (inl (omega arith)) is
