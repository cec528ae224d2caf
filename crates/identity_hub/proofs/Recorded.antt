-- What is answered is recorded.
use Rattle.std.specs.Prelude.{Option, None}
use Rattle.std.proofs.Common.{◌≡◌, inl, inr, ℕ, List, refl, sym, ◌∙◌}
use Rattle.http_wire.specs.declared.answer.Answer.{Answer}
use Rattle.http_wire.specs.declared.answer.Answer.TheVariants.{Fixed, Full}
use Rattle.http_wire.specs.Requests.{Request}
use Rattle.ledger_records.specs.declared.hub_record.HubRecord.{HubRecord}
use Rattle.hub_ledger.specs.Record.{hub_rules}
use Rattle.hub_ledger.specs.Ledger.{Held}
use Rattle.metadata.specs.declared.peer.Role.{Role}
use Rattle.provider_node.specs.Recorded.{WhatIsAnsweredIsRecorded}
use Rattle.provider_node.proofs.Recorded.{answered_recorded}
use Rattle.service_routes.specs.declared.route.Route.TheVariants.{To}
use Rattle.identity_hub.specs.declared.config.HubConfig.{HubConfig}
use Rattle.identity_hub.specs.declared.route.Service.TheVariants.{Metadata}
use Rattle.identity_hub.specs.Recorded.{IsPosted}
use Rattle.identity_hub.specs.Routes.{route}
use Rattle.identity_hub.specs.Step as steps
use Rattle.identity_hub.specs.Step.{Answers}

-- nothing is posted to the metadata
not_posted : (request : Request) (role : Role) → route request ≡ To (Metadata role) → IsPosted request → ⊥
not_posted request role is (inl at) = let e = sym is ∙ at in cc
not_posted request role is (inr at) = let e = sym is ∙ at in cc

no_page : (answer : Answer) (code : ℕ) (bytes : List ℕ) → answer ≡ Fixed code → answer ≡ Full bytes → ⊥
no_page answer code bytes is shown = let e = sym is ∙ shown in cc

-- a page that stands for no record is not one of what is posted
unrecorded : (setup : HubConfig) (held : Held) (request : Request) (now : ℕ) (answer : Answer) (adds : Option HubRecord)
    (bytes : List ℕ) → adds ≡ None → answer ≡ Full bytes → IsPosted request
    → Answers setup held request now answer adds → ⊥
unrecorded setup held request now answer adds bytes nothing shown posts (steps.ByStatus status to is none) =
    no_page answer _ bytes is shown
unrecorded setup held request now answer adds bytes nothing shown posts (steps.ByMetadata role to is none) =
    not_posted request role to posts
unrecorded setup held request now answer adds bytes nothing shown posts (steps.ByRefusal verdict to refused is none) =
    no_page answer _ bytes is shown
unrecorded setup held request now answer adds bytes nothing shown posts
    (steps.BySpeaking asked peer message page asks passive is named answers what) = let e = sym is ∙ nothing in cc
unrecorded setup held request now answer adds bytes nothing shown posts
    (steps.ByAsking asked peer r page asks passive own is answers what) = let e = sym is ∙ nothing in cc
unrecorded setup held request now answer adds bytes nothing shown posts (steps.ByVerdict verdict to refused is none) =
    no_page answer _ bytes is shown
unrecorded setup held request now answer adds bytes nothing shown posts
    (steps.ByUnknownPeer b asked brings unknown is none) = no_page answer _ bytes is shown
unrecorded setup held request now answer adds bytes nothing shown posts
    (steps.ByPassing b asked row peer r page brings is_for own is answers what) = let e = sym is ∙ nothing in cc

pub posted_recorded : WhatIsAnsweredIsRecorded hub_rules Answers IsPosted
posted_recorded =
    answered_recorded hub_rules Answers IsPosted (λ setup held request now bytes posts answers.
    unrecorded setup held request now (Full bytes) None bytes refl refl posts answers)
