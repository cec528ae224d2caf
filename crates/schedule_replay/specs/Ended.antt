-- How the restarts and compactions of two nodes ended in a run of a schedule, in order: those that its steps ask for,
-- and the restart of each node whose disk stopped. Where a disk stopped in one, how it ended was not printed.
use Rattle.std.specs.Prelude.{ℕ, ◌*◌, zero, suc, List, [], ◌∷◌, ◌++◌, Option, None, Some, Result}
use Rattle.gate_journal.specs.declared.fault.OpenFault.{OpenFault}
use Rattle.post_agent.specs.declared.site.Site.{Site}
use Rattle.post_agent.specs.declared.site.Site.TheVariants.{Sp, Idp}
use Rattle.schedules.specs.declared.step.Step.{Step}
use Rattle.schedules.specs.declared.step.Step.TheVariants as steps
use Rattle.schedule_replay.specs.declared.sending.Sending.{Sending}
use Rattle.schedule_replay.specs.Deployments.{Deployment, ArrivesIfAny, Exchanges, Obeys, OnSite, Rounds, bytes_of}
use Rattle.schedule_replay.specs.Deployments.{piece_at}
use Rattle.serve_loop.specs.Worlds.{NodeRules}
use Rattle.schedule_replay.specs.Hosts.{Host, Outcome, Brings, Known, Takes}
use Rattle.schedule_replay.specs.Steps.{Does, Replays}

-- those of the one node, and those of the other
pub record BothEnded : Type 0 where
  pub sp : List (Result (Unit {0}) OpenFault)
  pub idp : List (Result (Unit {0}) OpenFault)

abbrev pub none_ended : BothEnded
none_ended = record { sp = []; idp = [] }

abbrev pub then_ended : BothEnded → BothEnded → BothEnded
then_ended earlier later = record { sp = earlier.sp ++ later.sp; idp = earlier.idp ++ later.idp }

module _ {N : Type 0} (rules : NodeRules N) where
  -- the restart behind an event, where the disk stopped in it
  abbrev pub ended_behind : {A : Type 0} (event : Host N → A → Host N → Type 0) (known : Option A)
      (before after : Host N) → Known rules event known before after → List (Result (Unit {0}) OpenFault)
  ended_behind event (Some result) before after is = []
  ended_behind event None before after is = is.4.0 ∷ []

  -- a call that a step asks for, and the restart behind it, where the disk stopped in it
  abbrev pub ended_by : (call : Host N → Result (Unit {0}) OpenFault → Host N → Type 0)
      (known : Option (Result (Unit {0}) OpenFault)) (before after : Host N)
      → Known rules call known before after → List (Result (Unit {0}) OpenFault)
  ended_by call (Some result) before after is = result ∷ []
  ended_by call None before after is = is.0 ∷ is.4.0 ∷ []

module _ {S P : Type 0} (sp : NodeRules S) (idp : NodeRules P) where
  -- at a piece that came to its node
  abbrev pub ended_on : (site : Site) (clock conn : ℕ) (piece : List ℕ) (known : Option Outcome)
      (before after : Deployment S P) → OnSite sp idp site (λ _ node. Brings node clock conn piece known) before after
      → BothEnded
  ended_on Sp clock conn piece known before after brings =
      record { sp = ended_behind sp (Takes sp clock conn piece) known before.sp after.sp brings.0; idp = [] }
  ended_on Idp clock conn piece known before after brings =
      record { sp = []; idp = ended_behind idp (Takes idp clock conn piece) known before.idp after.idp brings.0 }

  abbrev pub ended_if_any : (number : ℕ) (sending : Option Sending) (piece : List ℕ) (before after : Deployment S P)
      → ArrivesIfAny sp idp number sending piece before after → BothEnded
  ended_if_any number (Some sending) (byte ∷ piece) before after arrives =
      ended_on sending.request.site before.clock sending.conn (byte ∷ piece) arrives.known before arrives.behind
      arrives.brings
  ended_if_any number sending piece before after same = none_ended

  -- in the rounds of one or two requests
  abbrev pub ended_in_rounds : (number size : ℕ) (first second : Option Sending) (rounds : ℕ)
      (before after : Deployment S P) → Rounds sp idp number size first second rounds before after → BothEnded
  ended_in_rounds number size first second zero before after same = none_ended
  ended_in_rounds number size first second (suc rounds) before after (old, between, earlier, one, other) =
      then_ended (ended_in_rounds number size first second rounds before old earlier)
      (then_ended (ended_if_any number first (piece_at (rounds * size) size (bytes_of first)) old between one)
      (ended_if_any number second (piece_at (rounds * size) size (bytes_of second)) between after other))

  abbrev pub ended_exchanging : (number size : ℕ) (first second : Option Sending) (before after : Deployment S P)
      → Exchanges sp idp number size first second before after → BothEnded
  ended_exchanging number size first second before after exchanges =
      ended_in_rounds number size first second exchanges.rounds exchanges.both after exchanges.arrive

  -- where a step asks for a call
  abbrev pub ended_obeying : (number : ℕ) (site : Site) (word : List ℕ)
      (call : (N : Type 0) → NodeRules N → Host N → Result (Unit {0}) OpenFault → Host N → Type 0)
      (before after : Deployment S P) → Obeys sp idp number site word call before after → BothEnded
  ended_obeying number Sp word call before after obeys =
      record { sp = ended_by sp (call S sp) obeys.known before.sp obeys.behind.sp obeys.ends.0; idp = [] }
  ended_obeying number Idp word call before after obeys =
      record { sp = []; idp = ended_by idp (call P idp) obeys.known before.idp obeys.behind.idp obeys.ends.0 }

  -- in a step
  abbrev pub ended_doing : (number : ℕ) (step : Step) (before after : Deployment S P)
      → Does sp idp number step before after → BothEnded
  ended_doing number (steps.Visit agent path) before after does = ended_exchanging number _ _ _ _ after does
  ended_doing number (steps.Submit agent) before after does = ended_exchanging number _ _ _ _ after does
  ended_doing number (steps.Lose agent) before after does = ended_exchanging number _ _ _ _ after does
  ended_doing number (steps.Login agent user password) before after does = ended_exchanging number _ _ _ _ after does
  ended_doing number (steps.Follow agent) before after does = ended_exchanging number _ _ _ _ after does
  ended_doing number (steps.Leave agent site) before after does = ended_exchanging number _ _ _ _ after does
  ended_doing number (steps.Pair first second size) before after does = ended_exchanging number _ _ _ _ after does
  ended_doing number (steps.Restart site) before after does = ended_obeying number site _ _ _ after does
  ended_doing number (steps.Compact site) before after does = ended_obeying number site _ _ _ after does
  ended_doing number step before after does = none_ended

  -- in the first so many steps
  abbrev pub ended_replaying : (done : ℕ) (all : List Step) (first : Deployment S P) (text : List ℕ)
      (now : Deployment S P) → Replays sp idp done all first text now → BothEnded
  ended_replaying zero all first text now none = none_ended
  ended_replaying (suc done) all first text now (step, before, after, earlier, were, is, did, fed, same, printed) =
      then_ended (ended_replaying done all first earlier before were) (ended_doing (suc done) step before after did)
