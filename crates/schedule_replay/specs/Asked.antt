-- The requests that two nodes were asked in a run of a schedule, in order: each that an agent's bytes completed, with its moment, the
-- node as it came, and what the node answered, and no other. Where a disk stopped in it, what was answered was not sent.
use Rattle.std.specs.Prelude.{ℕ, ◌*◌, zero, suc, List, [], ◌∷◌, ◌++◌, Option, None, Some}
use Rattle.post_agent.specs.declared.site.Site.{Site}
use Rattle.post_agent.specs.declared.site.Site.TheVariants.{Sp, Idp}
use Rattle.serve_loop.specs.Turns.{Asked, asked_by}
use Rattle.schedules.specs.declared.step.Step.{Step}
use Rattle.schedules.specs.declared.step.Step.TheVariants as steps
use Rattle.schedule_replay.specs.declared.sending.Sending.{Sending}
use Rattle.schedule_replay.specs.Deployments.{Deployment, ArrivesIfAny, Exchanges, OnSite, Rounds, bytes_of, piece_at}
use Rattle.serve_loop.specs.Worlds.{NodeRules}
use Rattle.schedule_replay.specs.Hosts.{Outcome, Brings}
use Rattle.schedule_replay.specs.Runs.{Ran}
use Rattle.schedule_replay.specs.Steps.{Does, Replays}

-- those that the one node was asked, and those that the other was
pub record BothAsked (S P : Type 0) : Type 0 where
  pub sp : List (Asked S)
  pub idp : List (Asked P)

abbrev pub none_asked : {S P : Type 0} → BothAsked S P
none_asked = record { sp = []; idp = [] }

abbrev pub then_asked : {S P : Type 0} → BothAsked S P → BothAsked S P → BothAsked S P
then_asked earlier later = record { sp = earlier.sp ++ later.sp; idp = earlier.idp ++ later.idp }

module _ {S P : Type 0} (sp : NodeRules S) (idp : NodeRules P) where
  -- a piece came to its node, and may have completed a request
  abbrev pub asked_on : (site : Site) (clock conn : ℕ) (piece : List ℕ) (known : Option Outcome)
      (before after : Deployment S P) → OnSite sp idp site (λ _ node. Brings node clock conn piece known) before after
      → BothAsked S P
  asked_on Sp clock conn piece (Some outcome) before after brings = record { sp = asked_by brings.0.0.turn; idp = [] }
  asked_on Sp clock conn piece None before after brings = record { sp = asked_by brings.0.2.turn; idp = [] }
  asked_on Idp clock conn piece (Some outcome) before after brings = record { sp = []; idp = asked_by brings.0.0.turn }
  asked_on Idp clock conn piece None before after brings = record { sp = []; idp = asked_by brings.0.2.turn }

  abbrev pub asked_if_any : (number : ℕ) (sending : Option Sending) (piece : List ℕ) (before after : Deployment S P)
      → ArrivesIfAny sp idp number sending piece before after → BothAsked S P
  asked_if_any number (Some sending) (byte ∷ piece) before after arrives =
      asked_on sending.request.site before.clock sending.conn (byte ∷ piece) arrives.known before arrives.behind
      arrives.brings
  asked_if_any number sending piece before after same = none_asked

  -- by the rounds of one or two requests
  abbrev pub asked_in_rounds : (number size : ℕ) (first second : Option Sending) (rounds : ℕ) (before after : Deployment S P)
      → Rounds sp idp number size first second rounds before after → BothAsked S P
  asked_in_rounds number size first second zero before after same = none_asked
  asked_in_rounds number size first second (suc rounds) before after (old, between, earlier, one, other) =
      then_asked (asked_in_rounds number size first second rounds before old earlier)
      (then_asked (asked_if_any number first (piece_at (rounds * size) size (bytes_of first)) old between one)
      (asked_if_any number second (piece_at (rounds * size) size (bytes_of second)) between after other))

  abbrev pub asked_exchanging : (number size : ℕ) (first second : Option Sending) (before after : Deployment S P)
      → Exchanges sp idp number size first second before after → BothAsked S P
  asked_exchanging number size first second before after exchanges =
      asked_in_rounds number size first second exchanges.rounds exchanges.both after exchanges.arrive

  -- by a step: one in which agents send requests
  abbrev pub asked_doing : (number : ℕ) (step : Step) (before after : Deployment S P) → Does sp idp number step before after → BothAsked S P
  asked_doing number (steps.Visit agent path) before after does = asked_exchanging number _ _ _ _ after does
  asked_doing number (steps.Submit agent) before after does = asked_exchanging number _ _ _ _ after does
  asked_doing number (steps.Lose agent) before after does = asked_exchanging number _ _ _ _ after does
  asked_doing number (steps.Login agent user password) before after does = asked_exchanging number _ _ _ _ after does
  asked_doing number (steps.Follow agent) before after does = asked_exchanging number _ _ _ _ after does
  asked_doing number (steps.Leave agent site) before after does = asked_exchanging number _ _ _ _ after does
  asked_doing number (steps.Pair first second size) before after does = asked_exchanging number _ _ _ _ after does
  asked_doing number step before after does = none_asked

  -- by the first so many steps
  abbrev pub asked_replaying : (done : ℕ) (all : List Step) (first : Deployment S P) (text : List ℕ) (now : Deployment S P)
      → Replays sp idp done all first text now → BothAsked S P
  asked_replaying zero all first text now none = none_asked
  asked_replaying (suc done) all first text now (step, before, after, earlier, were, is, did, fed, same, printed) =
      then_asked (asked_replaying done all first earlier before were) (asked_doing (suc done) step before after did)

  -- in a run
  abbrev pub asked_in_run : {steps : List Step} {first : Deployment S P} → Ran sp idp steps first → BothAsked S P
  asked_in_run {steps} {first} ran = asked_replaying ran.done steps first ran.text ran.last ran.replays
