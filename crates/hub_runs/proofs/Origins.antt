-- Of which login from above a login is that is passed on, and of which a session below.
use Rattle.std.specs.List.{AllByRecursion}
use Rattle.std.proofs.Common.{inl, inr, ℕ, List}
use Rattle.http_wire.specs.Requests.{Request}
use Rattle.ledger_records.specs.declared.hub_record.Backed.{Backed}
use Rattle.ledger_records.specs.declared.hub_record.HubRecord.TheVariants as kinds
use Rattle.login_origin.specs.Signed.{Signed, IsSigned}
use Rattle.login_origin.specs.Premises.{Unforged, NoCollision}
use Rattle.login_origin.specs.Origin.{IsLoginOf}
use Rattle.sp_rules.specs.Opening.{Brings, Brought}
use Rattle.sp_rules.specs.declared.config.SpConfig.{SpConfig}
use Rattle.passed_logins.specs.Passed.{ALoginThatIsPassedOnWasRecorded, ASessionBelowWasPassedOn, WasPassedOn}
use Rattle.provider_node.specs.Added.{IsAddedBy}
use Rattle.identity_hub.specs.declared.config.HubConfig.{HubConfig}
use Rattle.identity_hub.specs.Step.{Answers}
use Rattle.hub_runs.specs.Laws.{EachLoginWasRecorded, EachLoginWasSigned, EachSessionBelowIsOfALoginAbove}

-- what a form brings was signed
abbrev pub BroughtWasSigned : Type 0
BroughtWasSigned =
    (issued : List Signed) (config : SpConfig) (now : ℕ) (body : List ℕ) (b : Brought) → AllByRecursion IsSigned issued
    → Unforged issued config now body → NoCollision issued body → Brings config now body b → IsLoginOf issued b.login

pub each_signed : BroughtWasSigned → EachLoginWasSigned
each_signed law issued setup held request now r answer signed unforged apart passes =
    law issued setup.upstream now request.body passes.brought signed unforged apart passes.can.brings.opens.brings

passed_on : (setup : HubConfig) (request : Request) (now : ℕ) (issued : List Signed) (r : Backed)
    → Unforged issued setup.upstream now request.body → NoCollision issued request.body
    → IsAddedBy Answers setup request now (kinds.Backed r) → WasPassedOn setup issued r
passed_on setup request now issued r unforged apart added = record {
  held = added.held;
  request = request;
  now = now;
  answer = added.answer;
  adds = added.adds;
  unforged = unforged;
  apart = apart;
}

pub each_recorded : ALoginThatIsPassedOnWasRecorded → EachLoginWasRecorded
each_recorded law above added issued setup request now r are unforged apart by =
    law above added issued setup r are (passed_on setup request now issued r unforged apart by)

pub each_below : ASessionBelowWasPassedOn → EachLoginWasRecorded → EachSessionBelowIsOfALoginAbove
each_below below recorded start asked hub passed issued config rows horizon now body accepted signed unforged apart
    opening =
    let is = below hub passed issued config rows horizon now body accepted signed.of unforged apart opening in
    record {
      below = is;
      of =
          elim (signed.known is.one is.known) [
            | inl old ↦ inl old
            | inr was ↦ inr (record {
              was = was;
              recorded = λ above added list are none apart_above.
                  recorded above added list hub was.one.request was.one.now is.one are none apart_above was.adds;
            })
          ];
    }
