-- The headline follows from how a run goes.
use Rattle.std.specs.Prelude.{List, Option}
use Rattle.saml_outside.specs.Files.{File}
use Rattle.conn_table.specs.Table.{Table}
use Rattle.std.proofs.Common.{◌≡◌, ℕ, subst}
use Rattle.crash_disk.specs.Counts.{Rose}
use Rattle.crash_disk.specs.Disk.{Image}
use Rattle.http_wire.specs.declared.answer.Answer.{Answer}
use Rattle.http_wire.specs.declared.answer.Answer.TheVariants as answers
use Rattle.http_wire.specs.Requests.{Request}
use Rattle.serve_loop.specs.Turns.{Asked, Asks, Run, Turn}
use Rattle.serve_loop.specs.Worlds.{World}
use Rattle.provider_run.specs.Headlines.{EachRunCarries}
use Rattle.provider_run.proofs.Headlines.{adds_its_own, carries, each_goes, for_a_cause, keeps_visible, kept_since, once_recorded, sessions_stay, stepped, of_asked}
use Rattle.provider_run.specs.Runs.{Outside, world_of}
use Rattle.sp_server.specs.Guarding.{AGuardTellsExactly, OnlyASessionIsVouchedFor}
use Rattle.provider_node.specs.Causes.{GivesNoOwnCode}
use Rattle.provider_node.specs.Histories.{IsProviders}
use Rattle.sp_server.specs.Logouts.{NothingElseCloses, OnlyWhereAUserLeaves, OnlyWhereSessionsEnd, WhereverAUserLeaves, WhereverSessionsEnd}
use Rattle.sp_server.specs.Recorded.{IsPosted, WhatIsAskedIsRecorded}
use Rattle.provider_node.specs.Recorded.{WhatIsAnsweredIsRecorded}
use Rattle.sp_server.specs.Sessions.{OnlyWhereAFormOpens, WhereverAFormOpens}
use Rattle.sp_server.specs.Step.{Provider, Answers}
use Rattle.provider_node.specs.Step.{Serves}
use Rattle.request_ledger.specs.Laws.{AnswerAlike, ImagesHoldRecords}
use Rattle.request_ledger.specs.Ledger.{Held}
use Rattle.request_ledger.specs.Record.{request_rules}
use Rattle.sp_runs.specs.Headline.{Headline, ClosesExactly, GoesExactly, GuardsExactly, IsRecordedFirst, KeepsToItsConfig, OpensExactly, Says}
use Rattle.sp_runs.specs.Laws.{AnEndedRegistryAddsNothing, AnEndedRegistryAsksNothing, AnEndedRegistryRecordsNothing, ARunUsesWhatItsRegistryLists, ASessionIsShownByItsRow, EachRequestIsServedByTheSameSetup, EachSessionWasSigned, SessionsStayClosedInARun, WhatARunAcknowledgedIsKeptOnce, WithoutARegistryNothingIsExpired}
use Rattle.sp_runs.specs.Runs.{Begins, IsBadFile, IsServedBy, address, key, served_by}
use Rattle.sp_server.specs.Staying.{IsAsLeft, WasOpened}
use Rattle.provider_node.specs.Staying.{SessionsStayInAService, WhatWasOpenedIsAsLeft}
use Rattle.provider_node.specs.Starving.{RowsAnswerAsBefore}
use Rattle.sp_server.proofs.Histories.{draws_above}

-- the laws on which it stands
pub record Laws : Type 0 where
  pub none_own : GivesNoOwnCode Answers
  pub opens_only : OnlyWhereAFormOpens
  pub opens_wherever : WhereverAFormOpens
  pub signed : EachSessionWasSigned
  pub only_left : OnlyWhereAUserLeaves
  pub only_ended : OnlyWhereSessionsEnd
  pub nothing_else : NothingElseCloses
  pub wherever_left : WhereverAUserLeaves
  pub wherever_ended : WhereverSessionsEnd
  pub posted : WhatIsAnsweredIsRecorded request_rules Answers IsPosted
  pub requested : WhatIsAskedIsRecorded
  pub guard_tells : AGuardTellsExactly
  pub guard_only : OnlyASessionIsVouchedFor
  pub hold : ImagesHoldRecords
  pub kept : WhatARunAcknowledgedIsKeptOnce
  pub closed : SessionsStayClosedInARun
  pub stay : SessionsStayInAService request_rules WasOpened IsAsLeft Answers
  pub as_left : WhatWasOpenedIsAsLeft request_rules WasOpened IsAsLeft
  pub starved : RowsAnswerAsBefore request_rules Answers AnswerAlike
  pub tells : ARunUsesWhatItsRegistryLists
  pub same : EachRequestIsServedByTheSameSetup
  pub ends : AnEndedRegistryRecordsNothing
  pub adds_none : AnEndedRegistryAddsNothing
  pub asks : AnEndedRegistryAsksNothing
  pub without : WithoutARegistryNothingIsExpired
  pub shown : ASessionIsShownByItsRow

serves_of : (found : Held) (request : Request) (now : ℕ) (Risen : Type 0) (one other : Answer) (old new : Provider)
    → one ≡ other → Serves request_rules Answers found request now Risen one old new
    → Serves request_rules Answers found request now Risen other old new
serves_of found request now Risen one other old new same serves =
    subst (λ (a : Answer). Serves request_rules Answers found request now Risen a old new) same serves

module _ (laws : Laws) (asked : Asked Provider) where
  opens_exactly : (before after : World Provider) → OpensExactly asked before after
  opens_exactly before after = record {
    only = λ held answer r answers. laws.opens_only asked.node.setup held asked.request asked.now answer r answers;
    wherever = of_asked asked before after laws.opens_wherever;
  }

  closes_exactly : (before after : World Provider) → ClosesExactly asked before after
  closes_exactly before after = record {
    only_left = λ held answer r answers. laws.only_left asked.node.setup held asked.request asked.now answer r answers;
    only_ended =
        λ held answer r answers. laws.only_ended asked.node.setup held asked.request asked.now answer r answers;
    nothing_else = λ found token row are serves whole live none.
        laws.nothing_else found asked.request asked.now before.disk_faults after.disk_faults asked.answer asked.node
        after.node token row are serves whole live none;
    wherever_left = of_asked asked before after laws.wherever_left;
    wherever_ended = of_asked asked before after laws.wherever_ended;
  }

  recorded_first : (before after : World Provider) → Asks (IsProviders request_rules Answers) asked before after
      → IsRecordedFirst asked before after
  recorded_first before after asks = record {
    posted = once_recorded request_rules Answers asked IsPosted laws.posted before after asks;
    requested = λ found bytes is serves app none.
        laws.requested found asked.request asked.now before.disk_faults after.disk_faults bytes asked.node after.node
        after.disk
        (serves_of found asked.request asked.now (Rose before.disk_faults after.disk_faults) asked.answer
        (answers.Full bytes) asked.node after.node is serves) asks.answers.owns app none;
  }

  guards_exactly : (before after : World Provider) → Asks (IsProviders request_rules Answers) asked before after
      → GuardsExactly asked before after
  guards_exactly before after asks = record {
    tells = λ found asking serves.
        laws.guard_tells found asked.request asked.now before.disk_faults after.disk_faults asked.answer asked.node
        after.node asking serves;
    only = λ at ok.
        laws.guard_only asked.node after.node asked.disk asked.request asked.now before.disk_faults after.disk_faults
        asked.answer at (stepped request_rules Answers asked before after asks).step ok;
  }

  goes_exactly : GoesExactly asked
  goes_exactly = record {
    steps = stepped request_rules Answers asked;
    causes = for_a_cause request_rules Answers asked laws.none_own;
    opens = λ before after asks. opens_exactly before after;
    closes = λ before after asks. closes_exactly before after;
    recorded = recorded_first;
    guards = guards_exactly;
    signed =
        λ issued held answer r all unforged none gives. laws.signed issued asked.node.setup held asked.request
        asked.now r answer all unforged none gives;
    starved = keeps_visible request_rules Answers asked AnswerAlike laws.starved;
    added = adds_its_own request_rules Answers asked;
    shown = λ before after asks. of_asked asked before after laws.shown;
  }

module _ (laws : Laws) where
  to_its_config : (told : Option (List File)) (file : List ℕ) (before opened : Outside) (provider : Provider)
      (turns : List (Turn Provider)) (kept : Table) (behind : World Provider)
      → (begins : Begins told file before provider opened)
      → Run (IsProviders request_rules Answers) (world_of provider opened) turns kept behind
      → KeepsToItsConfig told file before provider opened begins turns
  to_its_config told file before opened provider turns kept behind begins run = record {
    tells = λ line lists. laws.tells told file before opened provider line begins lists;
    same = λ asked there. laws.same told file before opened provider turns kept behind asked begins run there;
    ends =
        λ asked until r expires there late. laws.ends told file before opened provider turns kept behind asked until r
        begins run expires there late;
    adds_none = λ request until now r expires late added.
        laws.adds_none (served_by begins.set_up.setup) until added.held request now added.answer r expires late
        added.adds;
    asks =
        λ asked until expires there late. laws.asks told file before opened provider turns kept behind asked until
        begins run expires there late;
    without =
        λ asked none there. laws.without told file before opened provider turns kept behind asked begins run none there;
  }

  pub headline : (left : ℕ → Image → Type 0) → EachRunCarries IsServedBy IsBadFile address key request_rules Answers Headline
      left
  headline left =
      carries IsServedBy address key request_rules Answers IsBadFile Says left (λ told file before turns after run. record {
        config =
            to_its_config told file before run.opened run.provider turns run.serves.kept run.serves.last run.begins
            run.serves.run;
        each = each_goes GoesExactly (goes_exactly laws) turns;
        once = λ tells.
            laws.kept told file run.budget before run.opened after run.provider run.last turns run.serves.kept
            run.serves.last run.served tells run.begins run.serves.run run.serves.ends;
        since = λ tells.
            kept_since IsServedBy address key request_rules Answers laws.hold left told file before turns after run tells
            draws_above;
        closed = λ tells.
            laws.closed told file run.budget before run.opened after run.provider run.last turns run.serves.kept
            run.serves.last run.served tells run.begins run.serves.run run.serves.ends;
        stay = λ tells.
            sessions_stay IsServedBy address key request_rules Answers laws.hold left told file before turns after run tells
            WasOpened IsAsLeft laws.stay;
        as_left = laws.as_left;
      })
