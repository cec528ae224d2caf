-- That what is visible stays where there was no memory.
use Rattle.std.specs.Prelude.{Option, Some}
use Rattle.std.proofs.Common.{◌≡◌, ℕ, inl, inr, refl, sym, subst}
use Rattle.http_wire.specs.declared.answer.Answer.{Answer}
use Rattle.http_wire.specs.declared.answer.Answer.TheVariants.{Fixed}
use Rattle.http_wire.specs.Requests.{Request}
use Rattle.ledger_records.specs.declared.hub_record.HubRecord.{HubRecord}
use Rattle.hub_ledger.specs.Laws.{AnswerAlike, CompactionsChangeNoAnswer}
use Rattle.hub_ledger.specs.Ledger.{Held}
use Rattle.hub_ledger.specs.Record.{hub_rules}
use Rattle.provider_node.specs.Starving.{CodesAddNothing}
use Rattle.provider_node.proofs.Starving.{visible_stays}
use Rattle.identity_hub.specs.declared.config.HubConfig.{HubConfig}
use Rattle.identity_hub.specs.Step as steps
use Rattle.identity_hub.specs.Step.{Answers}
use Rattle.identity_hub.proofs.Alike.{alike}
use Rattle.hub_runs.specs.Laws.{WhatIsVisibleStays}

-- no code stands for a record
no_code : (setup : HubConfig) (held : Held) (request : Request) (now code : ℕ) (answer : Answer)
    (adds : Option HubRecord) (r : HubRecord) → answer ≡ Fixed code → adds ≡ Some r
    → Answers setup held request now answer adds → ⊥
no_code setup held request now code answer adds r is some (steps.ByStatus status to what none) = absurd (cc)
no_code setup held request now code answer adds r is some (steps.ByMetadata role to what none) = absurd (cc)
no_code setup held request now code answer adds r is some (steps.ByRefusal verdict to refused what none) = absurd (cc)
no_code setup held request now code answer adds r is some
    (steps.BySpeaking asked peer message bytes asks passive adding named page what) =
    absurd (cc)
no_code setup held request now code answer adds r is some
    (steps.ByAsking asked peer routed bytes asks passive made adding page what) =
    absurd (cc)
no_code setup held request now code answer adds r is some (steps.ByVerdict verdict to refused what none) = absurd (cc)
no_code setup held request now code answer adds r is some (steps.ByUnknownPeer b asked brings unknown what none) =
    absurd (cc)
no_code setup held request now code answer adds r is some
    (steps.ByPassing b asked row peer backed bytes brings is_for made adding page what) =
    absurd (cc)

codes_add_nothing : CodesAddNothing Answers
codes_add_nothing setup held request now code r answers =
    no_code setup held request now code (Fixed code) (Some r) r refl refl answers

alike_itself : (now : ℕ) (held : Held) → AnswerAlike now held held
alike_itself now held =
    record {
      asked = λ request. refl;
      spent = λ request is. refl;
      seen = λ issuer assertion. refl;
      routed =
          λ request. refl;
    }

pub stays_visible : CompactionsChangeNoAnswer → WhatIsVisibleStays
stays_visible law old new disk request now before after are whole starved =
    let same =
    (visible_stays hub_rules Answers codes_add_nothing old new disk request now before after whole starved).same in
    elim same [
      | inl is ↦
          subst (λ (h : Held). AnswerAlike now h old.ledger.held) (sym is) (alike_itself now old.ledger.held)
      | inr made ↦ alike law now old.ledger.held new.ledger.held are made
    ]
