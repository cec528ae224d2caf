-- Runs of a schedule over the deployment, and what is carried over them.
use Rattle.std.specs.Prelude.{◌≡◌, ℕ, Bool, false, List, [], Option, Some, Result, Ok, Err}
use Rattle.crash_disk.specs.Disk.{empty_image, settled_image}
use Rattle.record_ledger.specs.Rules.{RecordRules}
use Rattle.record_ledger.specs.Calls.{opening}
use Rattle.record_ledger.specs.Ledger.{ledger_in, taken, empty_ledger}
use Rattle.provider_node.specs.Calls.{Makes}
use Rattle.provider_node.specs.Starts.{Start}
use Rattle.provider_node.specs.Step.{OwnsDisk, Provider}
use Rattle.request_ledger.specs.Record.{request_rules}
use Rattle.sp_server.specs.Step as sp
use Rattle.idp_ledger.specs.Record.{idp_rules}
use Rattle.idp_server.specs.Step as idp
use Rattle.schedules.specs.declared.step.Step.{Step}
use Rattle.schedule_replay.specs.declared.fault.ReplayFault.{ReplayFault}
use Rattle.schedule_replay.specs.declared.fault.ReplayFault.TheVariants.{NoMemory}
use Rattle.schedule_replay.specs.declared.tally.Tally.{Tally}
use Rattle.schedule_replay.specs.Asked.{asked_in_run}
use Rattle.schedule_replay.specs.Deployments.{Deployment}
use Rattle.serve_loop.specs.Worlds.{NodeRules}
use Rattle.schedule_replay.specs.Hosts.{Host, told}
use Rattle.schedule_replay.specs.Runs.{Ends, Ran, alone, beginning}
use Rattle.provider_node.specs.Node.{provider_rules}
use Rattle.replay_starts.specs.Replayed.{AreStartsOf, moments_in_run}
use Rattle.both_providers.specs.Together.{Headline}
use Rattle.replay_runs.specs.Deployed.{service_provider, IsIdpConfig}

abbrev pub sp_rules : NodeRules sp.Provider
sp_rules = provider_rules request_rules sp.Answers

abbrev pub idp_rules_of : NodeRules idp.Provider
idp_rules_of = provider_rules idp_rules idp.Answers

-- A provider was started over a disk in memory that was empty at first, and is its own: it holds what that is opened
-- as. The disk took the calls of one opening, all of them, and no other; and no call is to fail or to stop it.
pub record IsStarted {Setup R : Type 0} (records : RecordRules R) (host : Host (Provider Setup R)) : Type 0 where
  pub start : host.disk.start ≡ empty_image
  pub calls : Makes (opening records) (Some (settled_image empty_image)) (told host)
  pub opened : taken (ledger_in records empty_image) ≡ Ok host.node.ledger.held
  pub whole : host.node.ledger.broken ≡ false
  pub own : OwnsDisk records host.node (told host)
  pub no_failure : host.disk.failing ≡ 0
  pub no_stop : host.disk.stopping ≡ 0
  pub runs : host.disk.stopped ≡ false

-- both providers were started, and nothing was done yet
pub record IsBeginning (first : Deployment sp.Provider idp.Provider) : Type 0 where
  pub sp_setup : first.sp.node.setup ≡ service_provider
  pub idp_setup : IsIdpConfig first.idp.node.setup
  pub sp : IsStarted request_rules first.sp
  pub idp : IsStarted idp_rules first.idp
  pub unused : first ≡ beginning (alone first.sp.node first.sp.disk) (alone first.idp.node first.idp.disk)

-- How a run of these steps goes, by what was taken of its output before and after: there was no memory to start it, and
-- nothing was printed; or both providers were started, and it is a run of theirs that ends so. These are the starts of either
-- provider in it, with the requests that it was asked by the bytes of the schedule's agents, each at a moment of the
-- schedule's clock.
pub data Goes (steps : List Step) (quiet : Bool) (sp_starts : List (Start sp.Provider)) (idp_starts : List (Start idp.Provider))
    (result : Result Tally ReplayFault) (before after : Option (List ℕ)) : Type 0 where
  NotBegun : result ≡ Err NoMemory → sp_starts ≡ [] → idp_starts ≡ [] → after ≡ before
      → Goes steps quiet sp_starts idp_starts result before after
  Begun : (first : Deployment sp.Provider idp.Provider) → IsBeginning first
      → (ran : Ran sp_rules idp_rules_of steps first) → Ends sp_rules idp_rules_of ran quiet result before after
      → AreStartsOf request_rules sp.Answers first.sp ran.last.sp (asked_in_run sp_rules idp_rules_of ran).sp
      (moments_in_run sp_rules idp_rules_of ran) sp_starts
      → AreStartsOf idp_rules idp.Answers first.idp ran.last.idp (asked_in_run sp_rules idp_rules_of ran).idp
      (moments_in_run sp_rules idp_rules_of ran) idp_starts
      → Goes steps quiet sp_starts idp_starts result before after

-- What is carried over a run with these starts, which begin with no record: the whole sentence. The service provider opened
-- a session exactly where a form that was posted to it opens one; each is of a login that the identity provider of this run
-- recorded, where only this makes HMACs that match in the forms that were posted and no hash collides; no request opened
-- two, over all restarts, stops and failures of the disks, those whose answer was lost included; and none that an answer
-- closed at the service provider, or ended at the identity provider, is live in what may be left of their disks.
abbrev pub Carries : List (Start sp.Provider) → List (Start idp.Provider) → Type 0
Carries sp_starts idp_starts = Headline empty_ledger sp_starts empty_ledger idp_starts
