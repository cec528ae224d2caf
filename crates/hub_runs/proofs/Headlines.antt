-- The headline follows from how a run goes.
use Rattle.std.specs.Prelude.{Contains}
use Rattle.std.proofs.Common.{ℕ, List}
use Rattle.crash_disk.specs.Disk.{Image}
use Rattle.http_wire.specs.declared.answer.Answer.TheVariants as answers
use Rattle.serve_loop.specs.Turns.{Asked, Asks, asked_in}
use Rattle.serve_loop.specs.Worlds.{World}
use Rattle.provider_run.specs.Headlines.{EachRunCarries}
use Rattle.provider_run.proofs.Headlines.{adds_its_own, carries, each_goes, for_a_cause, keeps_visible, kept_since, once_recorded, stepped, of_asked}
use Rattle.provider_run.proofs.Setups.{asked_same}
use Rattle.provider_run.specs.Runs.{world_of}
use Rattle.provider_node.specs.Starts.{asked_over}
use Rattle.hub_ledger.specs.Laws.{AnswerAlike, ImagesHoldRecords}
use Rattle.hub_ledger.specs.Record.{hub_rules}
use Rattle.identity_hub.specs.Histories.{WhatIsAcknowledgedIsKeptOnce, WhatIsAcknowledgedIsKeptOnceOverStarts}
use Rattle.provider_node.specs.Causes.{GivesNoOwnCode}
use Rattle.provider_node.proofs.Origins.{each_has_its_request}
use Rattle.provider_node.specs.Histories.{AnyMoment, IsProviders}
use Rattle.identity_hub.specs.Passing.{EachRefusalIsOfOneBelow, EachRequestUpwardsIsOfOneBelow, NothingIsAskedOfAUserWhoMayNotBeAsked, OnlyWhereALoginIsBrought, WhereverALoginIsBrought}
use Rattle.identity_hub.specs.Recorded.{IsPosted}
use Rattle.provider_node.specs.Recorded.{WhatIsAnsweredIsRecorded}
use Rattle.identity_hub.specs.Signed.{EachSignedElementIsOfARecord, NoOtherPageIsUnrecorded}
use Rattle.identity_hub.specs.Step.{Answers, Provider}
use Rattle.hub_runs.specs.Headline.{Headline, GoesExactly, PassesOnExactly, Says, SignsOnlyItsRecords, TheHeadlineHoldsOverStarts, address, key}
use Rattle.hub_runs.specs.Laws.{EachLoginGoesBack, EachLoginInAnImageHasItsRequest, EachLoginWasRecorded, EachLoginWasSigned, EachSessionBelowIsOfALoginAbove, WhatIsVisibleStays}
use Rattle.identity_hub.proofs.Histories.{draws_above}
use Rattle.hub_setup.specs.Setup.{IsBadSetUp, IsSetUp}
use Rattle.hub_runs.proofs.Kept.{kept_once}

-- the laws on which it stands
pub record Laws : Type 0 where
  pub none_own : GivesNoOwnCode Answers
  pub only : OnlyWhereALoginIsBrought
  pub wherever : WhereverALoginIsBrought
  pub back : EachLoginGoesBack
  pub askers : EachRequestUpwardsIsOfOneBelow
  pub refusals : EachRefusalIsOfOneBelow
  pub signed : EachSignedElementIsOfARecord
  pub unrecorded : NoOtherPageIsUnrecorded
  pub recorded : WhatIsAnsweredIsRecorded hub_rules Answers IsPosted
  pub passive : NothingIsAskedOfAUserWhoMayNotBeAsked
  pub above_signed : EachLoginWasSigned
  pub above_recorded : EachLoginWasRecorded
  pub starved : WhatIsVisibleStays

-- and those of a whole run
pub record RunLaws : Type 0 where
  pub each : Laws
  pub hold : ImagesHoldRecords
  pub once : WhatIsAcknowledgedIsKeptOnce
  pub in_images : EachLoginInAnImageHasItsRequest
  pub below : EachSessionBelowIsOfALoginAbove

module _ (laws : Laws) (asked : Asked Provider) where
  passes_exactly : PassesOnExactly asked
  passes_exactly = record {
    only = λ held answer r answers. laws.only asked.node.setup held asked.request asked.now answer r answers;
    back = λ held answer r answers. laws.back asked.node.setup held asked.request asked.now answer r answers;
    askers = λ held answer r answers. laws.askers asked.node.setup held asked.request asked.now answer r answers;
    refusals = λ held answer r answers. laws.refusals asked.node.setup held asked.request asked.now answer r answers;
    wherever = λ before after. of_asked asked before after laws.wherever;
  }

  signs_only : (before after : World Provider) → Asks (IsProviders hub_rules Answers) asked before after
      → SignsOnlyItsRecords asked after
  signs_only before after asks = record {
    signed = λ held bytes r answers. laws.signed asked.node.setup held asked.request asked.now bytes r answers;
    unrecorded = λ held bytes answers. laws.unrecorded asked.node.setup held asked.request asked.now bytes answers;
    recorded = once_recorded hub_rules Answers asked IsPosted laws.recorded before after asks;
  }

  pub goes_exactly : GoesExactly asked
  goes_exactly = record {
    steps = stepped hub_rules Answers asked;
    causes = for_a_cause hub_rules Answers asked laws.none_own;
    passes = passes_exactly;
    signs = signs_only;
    passive = λ held answer r login peer asks passive answers.
        laws.passive asked.node.setup held asked.request asked.now answer r login peer asks passive answers;
    from_above = record {
      signed = λ issued held answer r all unforged apart passes.
          laws.above_signed issued asked.node.setup held asked.request asked.now r answer all unforged apart passes;
      recorded = λ above added issued r are unforged apart by.
          laws.above_recorded above added issued asked.node.setup asked.request asked.now r are unforged apart by;
    };
    added = adds_its_own hub_rules Answers asked;
    starved = keeps_visible hub_rules Answers asked AnswerAlike laws.starved;
  }

pub headline : RunLaws → (left : ℕ → Image → Type 0) → EachRunCarries IsSetUp IsBadSetUp address key hub_rules Answers Headline
    left
headline laws left =
    carries IsSetUp address key hub_rules Answers IsBadSetUp Says left (λ told file before turns after run. record {
      same = λ asked there.
          asked_same hub_rules Answers (world_of run.provider run.opened) run.serves.last turns run.serves.kept asked
          run.serves.run there;
      each = each_goes GoesExactly (goes_exactly laws.each) turns;
      once = λ tells. kept_once laws.hold left told file before turns after run tells laws.once;
      since = λ tells.
          kept_since IsSetUp address key hub_rules Answers laws.hold left told file before turns after run tells draws_above;
      in_images = laws.in_images;
      below = laws.below run.provider.ledger.held.records (asked_in turns);
    })

pub over_starts : Laws → WhatIsAcknowledgedIsKeptOnceOverStarts AnyMoment
    → ((moments : List ℕ) → WhatIsAcknowledgedIsKeptOnceOverStarts (Contains moments)) → EachSessionBelowIsOfALoginAbove
    → TheHeadlineHoldsOverStarts
over_starts laws once once_at below start starts are begun = record {
  goes = λ asked there. goes_exactly laws asked;
  from = each_has_its_request hub_rules Answers start starts begun;
  once = once start starts are begun;
  once_at = λ moments at. once_at moments start starts are at;
  below = below start.records (asked_over starts);
}
