-- What each answer says of its request, of what is recorded and of what is shown.
use Rattle.std.specs.Prelude.{Option}
use Rattle.std.proofs.Common.{ℕ}
use Rattle.http_wire.specs.declared.answer.Answer.{Answer}
use Rattle.http_wire.specs.Requests.{Request}
use Rattle.ledger_records.specs.declared.idp_record.IdpRecord.{IdpRecord}
use Rattle.idp_ledger.specs.Ledger.{Held}
use Rattle.idp_rules.specs.declared.config.IdpConfig.{IdpConfig}
use Rattle.provider_node.proofs.Told.{Told, none3, none4, page3, page4}
use Rattle.idp_server.specs.Step as steps
use Rattle.idp_server.specs.Step.{Answers}

abbrev pub said : (setup : IdpConfig) (held : Held) (request : Request) (now : ℕ) (answer : Answer)
    (adds : Option IdpRecord) → Answers setup held request now answer adds → Told answer adds
said setup held request now answer adds (steps.ByStatus status to is none) = none3 to is none
said setup held request now answer adds (steps.ByMetadata to is none) = none3 to is none
said setup held request now answer adds (steps.ByVerdict verdict to refused is none) = none3 to is none
said setup held request now answer adds
    (steps.ByIssuing asked peer row r bytes asks used drafted adding answers full) =
    page3 asks.to adding full
said setup held request now answer adds
    (steps.ByPassive asked peer message bytes asks none passive adding named answers full) =
    page3 asks.to adding full
said setup held request now answer adds (steps.ByAsking asked peer id asks none passive adding named full) =
    page3 asks.to adding full
said setup held request now answer adds (steps.ByFields to bad is none) = none3 to is none
said setup held request now answer adds (steps.ByNoPending t to posted nothing is none) = none3 to is none
said setup held request now answer adds (steps.ByPassword t row peer to posted pends refused is none) = none3 to is none
said setup held request now answer adds
    (steps.ByLogin t row peer user r bytes to posted pends accepted drafted adding answers full) =
    page3 to adding full
said setup held request now answer adds (steps.ByNoSession to none is nothing) = none4 to none is nothing
said setup held request now answer adds (steps.ByLeaving row r bytes to live alone drafted adding answers full) =
    page4 to live adding full
said setup held request now answer adds (steps.ByLeavingAll row r bytes to live asks drafted adding first full) =
    page4 to live adding full
said setup held request now answer adds (steps.ByLogoutVerdict verdict to refused is none) = none3 to is none
said setup held request now answer adds (steps.ByNothingToEnd asked peer relay to asks nothing is none) =
    none3 to is none
said setup held request now answer adds
    (steps.ByEnding asked peer relay r bytes to asks some alone drafted adding answers full) =
    page3 to adding full
said setup held request now answer adds
    (steps.ByEndingAll asked peer relay r bytes to asks some others drafted adding first full) =
    page3 to adding full
said setup held request now answer adds
    (steps.ByTold response peer row r bytes to replies waits drafted adding answers full) =
    page3 to adding full
said setup held request now answer adds (steps.ByUnknownLogout response peer to replies no_round unknown is none) =
    none3 to is none
said setup held request now answer adds (steps.ByConfirming response peer to replies no_round waits adding full) =
    page3 to adding full
