-- What each answer says of its request, of what is recorded and of what is shown.
use Rattle.std.specs.Prelude.{Option}
use Rattle.std.proofs.Common.{ℕ}
use Rattle.http_wire.specs.declared.answer.Answer.{Answer}
use Rattle.http_wire.specs.Requests.{Request}
use Rattle.ledger_records.specs.declared.sp_record.SpRecord.{SpRecord}
use Rattle.request_ledger.specs.Ledger.{Held}
use Rattle.provider_node.proofs.Told.{Told, none3, none4, page3, page4}
use Rattle.sp_server.specs.Step as steps
use Rattle.sp_server.specs.Step.{Setup, Answers}

abbrev pub said : (setup : Setup) (held : Held) (request : Request) (now : ℕ) (answer : Answer) (adds : Option SpRecord)
    → Answers setup held request now answer adds → Told answer adds
said setup held request now answer adds (steps.ByStatus status to is none) = none3 to is none
said setup held request now answer adds (steps.ByMetadata to is none) = none3 to is none
said setup held request now answer adds (steps.BySession row to live is none) = none4 to live is none
said setup held request now answer adds (steps.ByAsking bytes to none unexpired id relay page is ids shown) =
    page4 to none is shown
said setup held request now answer adds (steps.ByGuard to is none) = none3 to is none
said setup held request now answer adds (steps.ByOpening b row to unexpired opens token is has shown) =
    page3 to is shown
said setup held request now answer adds (steps.ByVerdict verdict to unexpired refused is none) = none3 to is none
said setup held request now answer adds (steps.ByExpiry at expired is none) = none3 expired is none
said setup held request now answer adds (steps.ByLeaving row id bytes to unexpired live is has leaves shown) =
    page4 to live is shown
said setup held request now answer adds (steps.ByNoSession to unexpired none is nothing) = none4 to none is nothing
said setup held request now answer adds (steps.ByLogoutVerdict verdict to unexpired refused is none) = none3 to is none
said setup held request now answer adds
    (steps.ByEnding asked relay id bytes to unexpired obeyed any is has ends shown) =
    page3 to is shown
said setup held request now answer adds (steps.ByNothingToEnd asked relay to unexpired obeyed none is nothing) =
    none3 to is nothing
said setup held request now answer adds (steps.ByConfirming response to unexpired obeyed waits is shown) =
    page3 to is shown
said setup held request now answer adds (steps.ByUnknownLogout response to unexpired obeyed none is nothing) =
    none3 to is nothing
