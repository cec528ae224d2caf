-- What is answered is recorded.
use Rattle.std.specs.Prelude.{Option, None}
use Rattle.std.proofs.Common.{◌≡◌, inl, inr, ℕ, List, refl}
use Rattle.crash_disk.specs.Counts.{Rose}
use Rattle.http_wire.specs.declared.answer.Answer.{Answer}
use Rattle.http_wire.specs.declared.answer.Answer.TheVariants.{Full}
use Rattle.http_wire.specs.Requests.{Request}
use Rattle.ledger_records.specs.declared.sp_record.SpRecord.{SpRecord}
use Rattle.request_ledger.specs.Record.{request_rules}
use Rattle.request_ledger.specs.Ledger.{Held}
use Rattle.service_routes.specs.declared.route.Route.TheVariants.{To}
use Rattle.sp_server.specs.declared.route.Service.TheVariants.{App}
use Rattle.sp_server.specs.Routes.{route}
use Rattle.provider_node.specs.Recorded.{WhatIsAnsweredIsRecorded}
use Rattle.provider_node.proofs.Recorded.{answered_recorded, page_served}
use Rattle.sp_server.specs.Step as steps
use Rattle.sp_server.specs.Step.{Setup, Answers, session_for}
use Rattle.sp_server.specs.Recorded.{IsPosted, WhatIsAskedIsRecorded}
use Rattle.sp_server.proofs.Told.{said}

-- a page that stands for no record is not one of what is posted
unrecorded : (setup : Setup) (held : Held) (request : Request) (now : ℕ) (answer : Answer) (adds : Option SpRecord)
    (bytes : List ℕ) → adds ≡ None → answer ≡ Full bytes → IsPosted request
    → Answers setup held request now answer adds → ⊥
unrecorded setup held request now answer adds bytes nothing shown posts (steps.ByStatus status to is none) =
    absurd (cc)
unrecorded setup held request now answer adds bytes nothing shown (inl at) other =
    absurd (let says = (said setup held request now answer adds other).is in cc)
unrecorded setup held request now answer adds bytes nothing shown (inr (inl at)) other =
    absurd (let says = (said setup held request now answer adds other).is in cc)
unrecorded setup held request now answer adds bytes nothing shown (inr (inr at)) other =
    absurd (let says = (said setup held request now answer adds other).is in cc)

-- nor one at the application where no session lives
unasked : (setup : Setup) (held : Held) (request : Request) (now : ℕ) (answer : Answer) (adds : Option SpRecord)
    (bytes : List ℕ) → adds ≡ None → answer ≡ Full bytes → route request ≡ To App → session_for held now request ≡ None
    → Answers setup held request now answer adds → ⊥
unasked setup held request now answer adds bytes nothing shown app none (steps.ByStatus status to is no_record) =
    absurd (cc)
unasked setup held request now answer adds bytes nothing shown app none other =
    absurd (let says = (said setup held request now answer adds other).is in cc)

pub posted_recorded : WhatIsAnsweredIsRecorded request_rules Answers IsPosted
posted_recorded =
    answered_recorded request_rules Answers IsPosted (λ setup held request now bytes posts answers.
    unrecorded setup held request now (Full bytes) None bytes refl refl posts answers)

pub asked_recorded : WhatIsAskedIsRecorded
asked_recorded found request now before after bytes old new later serves own app none =
    page_served request_rules Answers request now bytes old new later own found (Rose before after)
    (λ answers. unasked old.setup found request now (Full bytes) None bytes refl refl app none answers) serves
