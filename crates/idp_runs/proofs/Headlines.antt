-- The headline follows from how a run goes.
use Rattle.std.proofs.Common.{ℕ}
use Rattle.crash_disk.specs.Disk.{Image}
use Rattle.http_wire.specs.declared.answer.Answer.TheVariants as answers
use Rattle.serve_loop.specs.Turns.{Asked, Asks}
use Rattle.serve_loop.specs.Worlds.{World}
use Rattle.provider_run.specs.Headlines.{EachRunCarries}
use Rattle.provider_run.proofs.Headlines.{adds_its_own, carries, each_goes, for_a_cause, keeps_visible, kept_since, of_asked, once_recorded, sessions_stay, stepped, stepped_to}
use Rattle.provider_run.proofs.Setups.{asked_same}
use Rattle.provider_run.specs.Runs.{world_of}
use Rattle.idp_ledger.specs.Laws.{AnswerAlike, ImagesHoldRecords}
use Rattle.idp_ledger.specs.Record.{idp_rules}
use Rattle.idp_ledger.specs.Turns.{RoundsAskInTurn}
use Rattle.idp_server.specs.Histories.{SessionsStayEndedInAService, WhatIsAcknowledgedIsKept}
use Rattle.provider_node.specs.Causes.{GivesNoOwnCode}
use Rattle.provider_node.specs.Histories.{IsProviders}
use Rattle.idp_server.specs.Issues.{AnswersHaveAskers, AnswersHaveUsers, IsPosted, RefusalsHaveAskers}
use Rattle.idp_server.specs.Logouts.{AnswersEndExactly, ServicesEndExactly, SessionsEndBeforeTheAnswer}
use Rattle.idp_server.specs.Logouts.{WhereverAPeerEnds, WhereverAUserLeaves}
use Rattle.idp_server.specs.Outcomes.{RoundsBeginWithTheFirst, RoundsEndAsConfirmed}
use Rattle.idp_server.specs.Signed.{EachSignedElementIsOfARecord, NoOtherPageIsUnrecorded}
use Rattle.idp_server.specs.Step.{Provider, Answers}
use Rattle.idp_runs.specs.Headline.{Headline, EndsExactly, GoesExactly, IssuesOnlyToUsers, Says, address, key}
use Rattle.idp_server.specs.Staying.{Began, IsAsLeft}
use Rattle.provider_node.specs.Staying.{SessionsStayInAService, WhatWasOpenedIsAsLeft}
use Rattle.provider_node.specs.Recorded.{WhatIsAnsweredIsRecorded}
use Rattle.provider_node.specs.Starving.{RowsAnswerAsBefore}
use Rattle.idp_server.proofs.Histories.{draws_above}
use Rattle.idp_setup.specs.Setup.{IsBadSetUp, IsSetUp}
use Rattle.idp_runs.proofs.Kept.{ended_behind, kept_behind}

-- the laws on which it stands
pub record Laws : Type 0 where
  pub none_own : GivesNoOwnCode Answers
  pub users : AnswersHaveUsers
  pub askers : AnswersHaveAskers
  pub refusals : RefusalsHaveAskers
  pub signed : EachSignedElementIsOfARecord
  pub unrecorded : NoOtherPageIsUnrecorded
  pub recorded : WhatIsAnsweredIsRecorded idp_rules Answers IsPosted
  pub only : AnswersEndExactly
  pub services : ServicesEndExactly
  pub wherever_left : WhereverAUserLeaves
  pub wherever_ended : WhereverAPeerEnds
  pub before : SessionsEndBeforeTheAnswer
  pub begins : RoundsBeginWithTheFirst
  pub rounds : RoundsEndAsConfirmed
  pub once : RoundsAskInTurn
  pub hold : ImagesHoldRecords
  pub kept : WhatIsAcknowledgedIsKept
  pub ended : SessionsStayEndedInAService
  pub stay : SessionsStayInAService idp_rules Began IsAsLeft Answers
  pub as_left : WhatWasOpenedIsAsLeft idp_rules Began IsAsLeft
  pub starved : RowsAnswerAsBefore idp_rules Answers AnswerAlike

module _ (laws : Laws) (asked : Asked Provider) where
  issues : (before after : World Provider) → Asks (IsProviders idp_rules Answers) asked before after
      → IssuesOnlyToUsers asked before after
  issues before after asks =
      record {
        users = λ held answer r answers. laws.users asked.node.setup held asked.request asked.now answer r answers;
        askers = λ held answer r answers.
            laws.askers asked.node.setup held asked.request asked.now answer r answers;
        refusals = λ held answer r answers.
            laws.refusals asked.node.setup held asked.request asked.now answer r answers;
        signed = λ held bytes r answers. laws.signed asked.node.setup held asked.request asked.now bytes r answers;
        unrecorded = λ held bytes answers.
            laws.unrecorded asked.node.setup held asked.request asked.now bytes answers;
        recorded = once_recorded idp_rules Answers asked IsPosted laws.recorded before after asks;
      }

  ends_exactly : (before after : World Provider) → Asks (IsProviders idp_rules Answers) asked before after
      → EndsExactly asked before after
  ends_exactly before after asks = record {
    only = λ held answer r answers. laws.only asked.node.setup held asked.request asked.now answer r answers;
    nothing_else = λ found serves whole.
        laws.services found asked.request asked.now before.disk_faults after.disk_faults asked.answer asked.node
        after.node serves whole;
    wherever_left = of_asked asked before after laws.wherever_left;
    wherever_ended = of_asked asked before after laws.wherever_ended;
    before_it_answers = λ bytes is of.
        laws.before asked.node after.node asked.disk after.disk asked.request asked.now before.disk_faults
        after.disk_faults bytes (stepped_to idp_rules Answers asked (answers.Full bytes) before after asks is)
        asks.answers.owns of;
  }

  goes_exactly : GoesExactly asked
  goes_exactly = record {
    steps = stepped idp_rules Answers asked;
    causes = for_a_cause idp_rules Answers asked laws.none_own;
    issues = issues;
    ends = ends_exactly;
    rounds = record {
      begins = λ held bytes r answers. laws.begins asked.node.setup held asked.request asked.now bytes r answers;
      goes_on =
          λ held bytes r are answers. laws.rounds asked.node.setup held asked.request asked.now bytes r are answers;
      once = laws.once;
    };
    starved = keeps_visible idp_rules Answers asked AnswerAlike laws.starved;
    added = adds_its_own idp_rules Answers asked;
  }

pub headline : Laws → (left : ℕ → Image → Type 0) → EachRunCarries IsSetUp IsBadSetUp address key idp_rules Answers Headline
    left
headline laws left =
    carries IsSetUp address key idp_rules Answers IsBadSetUp Says left (λ told file before turns after run. record {
      same = λ asked there.
          asked_same idp_rules Answers (world_of run.provider run.opened) run.serves.last turns run.serves.kept asked
          run.serves.run there;
      each = each_goes GoesExactly (goes_exactly laws) turns;
      kept = λ tells. kept_behind laws.hold left told file before turns after run tells laws.kept;
      since = λ tells.
          kept_since IsSetUp address key idp_rules Answers laws.hold left told file before turns after run tells draws_above;
      ended = λ tells. ended_behind laws.hold left told file before turns after run tells laws.ended;
      stay = λ tells.
          sessions_stay IsSetUp address key idp_rules Answers laws.hold left told file before turns after run tells Began
          IsAsLeft laws.stay;
      as_left = laws.as_left;
    })
