-- What a run of a schedule over two providers is, in the words of starts.
use Rattle.std.specs.Prelude.{◌≡◌, ℕ, zero, suc, min, List, [], ◌∷◌, Contains}
use Rattle.crash_disk.specs.Disk.{Image}
use Rattle.crash_disk.specs.Moments.{Leaves}
use Rattle.serve_loop.specs.Turns.{Asked}
use Rattle.record_ledger.specs.Laws.{ImagesHoldRecords}
use Rattle.record_ledger.specs.Rules.{RecordRules}
use Rattle.provider_node.specs.Starts.{AreStarts, AreStartsAt, LeftBehind, LeftBehindAt, Start, asked_over}
use Rattle.provider_node.specs.Step.{AnswersBy, Provider}
use Rattle.schedules.specs.declared.step.Step.{Step}
use Rattle.schedule_replay.specs.Asked.{asked_in_run}
use Rattle.schedule_replay.specs.Deployments.{Deployment}
use Rattle.schedule_replay.specs.Hosts.{Host, told}
use Rattle.schedule_replay.specs.Runs.{Ran}
use Rattle.schedule_replay.specs.Steps.{Replays}
use Rattle.saml_time.specs.declared.TheConstants.{LAST}
use Rattle.serve_loop.specs.Worlds.{NodeRules}
use Rattle.provider_node.specs.Node.{provider_rules}
use Rattle.replay_starts.specs.Providers.{IsStartedFrom}

module _ {S P : Type 0} (sp : NodeRules S) (idp : NodeRules P) where
  -- The moments at which the clock stood in the first so many steps, the latest first: at one of them each request of a
  -- step is answered and each compaction is made. None is later than the last moment that there is.
  abbrev pub moments_replaying : (done : ℕ) (all : List Step) (first : Deployment S P) (text : List ℕ)
      (now : Deployment S P) → Replays sp idp done all first text now → List ℕ
  moments_replaying zero all first text now none = []
  moments_replaying (suc done) all first text now (step, before, after, earlier, were, is, did, fed, same, printed) =
      min before.clock LAST ∷ moments_replaying done all first earlier before were

  -- in a run
  abbrev pub moments_in_run : {steps : List Step} {first : Deployment S P} → Ran sp idp steps first → List ℕ
  moments_in_run {steps} {first} ran = moments_replaying ran.done steps first ran.text ran.last ran.replays

-- These are starts of a provider, from the ledger on that it held at first, each of which opens what is left behind the
-- ones before it. In them it was asked these requests and no other, each at one of these moments, at which also each
-- compaction was begun; and its disk may leave nothing at last but what is left behind them.
pub record AreStartsOf {Setup R : Type 0} (rules : RecordRules R) (Answers : AnswersBy Setup R)
    (first last : Host (Provider Setup R)) (asked : List (Asked (Provider Setup R))) (moments : List ℕ)
    (starts : List (Start (Provider Setup R))) : Type 0 where
  pub are : AreStarts rules Answers first.node.ledger.held starts
  pub requests : asked_over starts ≡ asked
  pub left : (image : Image) → Leaves (told last) image → LeftBehind rules Answers first.node.ledger.held starts image
  -- with the moments
  pub are_at : AreStartsAt rules Answers (Contains moments) first.node.ledger.held starts
  pub left_at : (image : Image) → Leaves (told last) image
      → LeftBehindAt rules Answers (Contains moments) first.node.ledger.held starts image

module _ {S A P B : Type 0} (sp_rules : RecordRules A) (SpAnswers : AnswersBy S A) (idp_rules : RecordRules B)
    (IdpAnswers : AnswersBy P B) where
  -- There are such starts of either provider for each run that begins with providers which were started.
  abbrev pub AReplayIsStarts : Type 0
  AReplayIsStarts =
      ImagesHoldRecords sp_rules → ImagesHoldRecords idp_rules
      → (steps : List Step) (first : Deployment (Provider S A) (Provider P B)) (sp_image idp_image : Image)
      → IsStartedFrom sp_rules sp_image first.sp → IsStartedFrom idp_rules idp_image first.idp
      → (ran : Ran (provider_rules sp_rules SpAnswers) (provider_rules idp_rules IdpAnswers) steps first)
      → let asked = asked_in_run (provider_rules sp_rules SpAnswers) (provider_rules idp_rules IdpAnswers) ran in
      let moments = moments_in_run (provider_rules sp_rules SpAnswers) (provider_rules idp_rules IdpAnswers) ran in
      (sp_starts : List (Start (Provider S A))) × (idp_starts : List (Start (Provider P B)))
      × AreStartsOf sp_rules SpAnswers first.sp ran.last.sp asked.sp moments sp_starts
      × AreStartsOf idp_rules IdpAnswers first.idp ran.last.idp asked.idp moments idp_starts
