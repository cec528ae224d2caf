-- No answer where nothing fails is one of the codes that a provider answers for itself.
use Rattle.std.proofs.Common.{inl, inr, subst, arith}
use Rattle.idp_rules.proofs.Codes.{refused_ends as unasked_ends}
use Rattle.sp_rules.proofs.Codes.{refused_ends}
use Rattle.service_routes.proofs.Served.{IsServed, checked_served}
use Rattle.identity_hub.specs.Config.{sign_on}
use Rattle.identity_hub.specs.Routes.{service_at}
use Rattle.identity_hub.specs.Step as steps
use Rattle.identity_hub.specs.Step.{Answers}
use Rattle.provider_node.specs.Causes.{GivesNoOwnCode}
use Rattle.provider_node.proofs.Causes.{IsOther, of_code, of_page}
use Rattle.provider_node.proofs.Refusals.{of_verdict}

pub none_own : GivesNoOwnCode Answers
none_own setup held request now answer adds (steps.ByStatus status to is nothing) =
    let served = checked_served IsOther (inr (omega arith)) (inr (omega arith)) (inr (omega arith)) request
    (service_at request.path) in of_code answer status (subst (IsServed IsOther) to served) is
none_own setup held request now answer adds (steps.ByMetadata role to is nothing) = of_page answer _ is
none_own setup held request now answer adds (steps.ByRefusal verdict to refused is nothing) =
    of_verdict answer 43 verdict (unasked_ends setup.peers (sign_on setup) request.body verdict refused) (omega arith)
    is
none_own setup held request now answer adds (steps.BySpeaking asked peer message bytes asks passive is id page shown) =
    of_page answer bytes shown
none_own setup held request now answer adds (steps.ByAsking asked peer r bytes asks active drafted is page shown) =
    of_page answer bytes shown
none_own setup held request now answer adds (steps.ByVerdict verdict to refused is nothing) =
    of_verdict answer 23 verdict
    (refused_ends setup.upstream _ held.header.horizon now request.body verdict refused) (omega arith) is
none_own setup held request now answer adds (steps.ByUnknownPeer b asked brings nobody is nothing) =
    of_code answer 41 (inl (omega arith)) is
none_own setup held request now answer adds (steps.ByPassing b asked row peer r bytes brings for drafted is page shown)
    = of_page answer bytes shown
