-- No answer where nothing fails is one of the codes that a provider answers for itself.
use Rattle.std.specs.Prelude.{None}
use Rattle.std.proofs.Common.{inl, inr, subst, arith}
use Rattle.logout_profile.proofs.Codes.{disobeyed_ends}
use Rattle.idp_rules.specs.Config.{logout, sign_on}
use Rattle.idp_rules.proofs.Codes.{refused_ends}
use Rattle.service_routes.proofs.Served.{IsServed, checked_served}
use Rattle.idp_server.specs.Routes.{service_at}
use Rattle.idp_server.specs.Step as steps
use Rattle.idp_server.specs.Step.{Answers}
use Rattle.provider_node.specs.Causes.{GivesNoOwnCode}
use Rattle.provider_node.proofs.Causes.{IsOther, of_code, of_page}
use Rattle.provider_node.proofs.Refusals.{of_verdict}

pub none_own : GivesNoOwnCode Answers
none_own setup held request now answer adds (steps.ByStatus status to is nothing) =
    of_code answer status (subst (IsServed IsOther) to (checked_served IsOther (inr (omega arith)) (inr (omega arith))
    (inr (omega arith)) request (service_at request.path))) is
none_own setup held request now answer adds (steps.ByMetadata to is nothing) = of_page answer _ is
none_own setup held request now answer adds (steps.ByVerdict verdict to refused is nothing) =
    of_verdict answer 43 verdict (refused_ends setup.peers (sign_on setup) request.body verdict refused) (omega arith)
    is
none_own setup held request now answer adds
    (steps.ByIssuing asked peer row r bytes asks live drafted is page shown) = of_page answer bytes shown
none_own setup held request now answer adds
    (steps.ByPassive asked peer message bytes asks none passive is id page shown) =
    of_page answer bytes shown
none_own setup held request now answer adds (steps.ByAsking asked peer id asks none active is has shown) =
    of_page answer _ shown
none_own setup held request now answer adds (steps.ByFields to none is nothing) =
    of_code answer 1 (inl (omega arith)) is
none_own setup held request now answer adds (steps.ByNoPending t to typed none is nothing) =
    of_code answer 45 (inl (omega arith)) is
none_own setup held request now answer adds (steps.ByPassword t row peer to typed pending none is nothing) =
    of_code answer 46 (inl (omega arith)) is
none_own setup held request now answer adds
    (steps.ByLogin t row peer user r bytes to typed pending checked drafted is page shown) = of_page answer bytes shown
none_own setup held request now answer adds (steps.ByNoSession to none is nothing) =
    of_code answer 33 (inl (omega arith)) is
none_own setup held request now answer adds (steps.ByLeaving row r bytes to live alone drafted is page shown) =
    of_page answer bytes shown
none_own setup held request now answer adds (steps.ByLeavingAll row r bytes to live others drafted is page shown) =
    of_page answer bytes shown
none_own setup held request now answer adds (steps.ByLogoutVerdict verdict to refused is nothing) =
    of_verdict answer 35 verdict
    (disobeyed_ends setup.peers None (logout setup) setup.skew now request.body verdict refused) (omega arith) is
none_own setup held request now answer adds (steps.ByNothingToEnd asked peer relay to asks empty is nothing) =
    of_code answer 33 (inl (omega arith)) is
none_own setup held request now answer adds
    (steps.ByEnding asked peer relay r bytes to asks some alone drafted is page shown) = of_page answer bytes shown
none_own setup held request now answer adds
    (steps.ByEndingAll asked peer relay r bytes to asks some others drafted is page shown) = of_page answer bytes shown
none_own setup held request now answer adds (steps.ByTold response peer row r bytes to replies waits drafted is page
    shown) = of_page answer bytes shown
none_own setup held request now answer adds (steps.ByUnknownLogout response peer to replies none unknown is nothing) =
    of_code answer 34 (inl (omega arith)) is
none_own setup held request now answer adds (steps.ByConfirming response peer to replies none awaited is shown) =
    of_page answer _ shown
