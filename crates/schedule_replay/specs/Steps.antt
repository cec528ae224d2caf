-- What a step of a schedule does, and a run of them.
use Rattle.std.specs.Prelude.{◌≡◌, ℕ, zero, suc, Bool, ◌||◌, true, false, List, [], ◌++◌, codes, length, slice_get, max, min, Option, None, Some}
use Rattle.std.specs.Option.{option_map}
use Rattle.crash_disk.specs.Memory.{DiskInMemory}
use Rattle.saml_time.specs.declared.TheConstants.{LAST}
use Rattle.post_agent.specs.declared.seen.Outgoing.{Outgoing}
use Rattle.post_agent.specs.declared.site.Site.{Site}
use Rattle.post_agent.specs.declared.site.Site.TheVariants.{Sp, Idp}
use Rattle.post_agent.specs.Agents.{fresh, visited, submitted, logged_in, followed, left}
use Rattle.schedules.specs.declared.step.Pick.{Pick}
use Rattle.schedules.specs.declared.step.Pick.TheVariants.{Synced, Pending, Marked}
use Rattle.schedules.specs.declared.step.Step.{Step}
use Rattle.schedules.specs.declared.step.Step.TheVariants as steps
use Rattle.schedule_replay.specs.declared.sending.Sending.{Sending}
use Rattle.schedule_replay.specs.Counting.{restarted}
use Rattle.schedule_replay.specs.Deployments.{Deployment, Keeps, Exchanges, Obeys, saying, bytes_of}
use Rattle.serve_loop.specs.Worlds.{NodeRules}
use Rattle.schedule_replay.specs.Hosts.{Compacts, Restarts}

-- what a stop is to leave, as crash_disk numbers it
abbrev pub pick_number : Pick → ℕ
pick_number Synced = 0
pick_number Pending = 1
pick_number Marked = 2

-- the request of an agent, on a connection, where it has one
abbrev pub sending_of : Bool → (agent conn : ℕ) → Option Outgoing → Option Sending
sending_of lost agent conn = option_map (λ one. record { lost = lost; agent = agent; conn = conn; request = one })

-- where an agent has nothing to send, that is printed
abbrev pub saying_none : {S P : Type 0} → ℕ → Option Sending → Deployment S P → Deployment S P
saying_none number None world = saying number (codes "none") world
saying_none number (Some request) world = world

-- something is set at a node's disk
abbrev pub armed : {S P : Type 0} → ℕ → Site → (DiskInMemory → DiskInMemory) → Deployment S P → Deployment S P
armed number Sp set world =
    saying number (codes "armed") (record world { sp = record world.sp { disk = set world.sp.disk } })
armed number Idp set world =
    saying number (codes "armed") (record world { idp = record world.idp { disk = set world.idp.disk } })

-- an agent forgets all
abbrev pub Forgets : {S P : Type 0} → ℕ → (agent : ℕ) → Deployment S P → Deployment S P → Type 0
Forgets number agent before after =
    Keeps agent fresh before.agents after.agents × (after ≡ saying number (codes "fresh") (record before { agents = after.agents }))

-- the step is a request of an agent
abbrev pub IsRequest : Step → Type 0
IsRequest (steps.Now moment) = ⊥
IsRequest (steps.Pair first second size) = ⊥
IsRequest (steps.Fresh agent) = ⊥
IsRequest (steps.Restart site) = ⊥
IsRequest (steps.Crash site call pick) = ⊥
IsRequest (steps.Fail site call) = ⊥
IsRequest (steps.Compact site) = ⊥
IsRequest step = Unit {0}

-- a disk found no memory
abbrev pub is_starved : {S P : Type 0} → Deployment S P → Bool
is_starved world = world.sp.disk.starved || world.idp.disk.starved

module _ {S P : Type 0} (sp : NodeRules S) (idp : NodeRules P) where
  -- one request comes whole, where there is one
  abbrev pub Requests : ℕ → Option Sending → Deployment S P → Deployment S P → Type 0
  Requests number request before after =
      Exchanges sp idp number (max (length (bytes_of request)) 1) request None (saying_none number request before) after

  -- two come in turn, in pieces of so many bytes; that there is nothing to send is printed first
  abbrev pub RequestsTwo : (number size : ℕ) → Option Sending → Option Sending → Deployment S P → Deployment S P → Type 0
  RequestsTwo number size first second before after =
      Exchanges sp idp number (max size 1) first second (saying_none number second (saying_none number first before)) after

  -- a step, by its number
  abbrev pub Does : ℕ → Step → Deployment S P → Deployment S P → Type 0
  -- the clock of both nodes stands at this moment
  Does number (steps.Now moment) before after = after ≡ saying number (codes "now") (record before { clock = moment })
  Does number (steps.Visit agent path) before after =
      Requests number (sending_of false agent 0 (Some (visited path (before.agents agent)))) before after
  Does number (steps.Submit agent) before after = Requests number (sending_of false agent 0 (submitted (before.agents agent))) before after
  Does number (steps.Lose agent) before after = Requests number (sending_of true agent 0 (submitted (before.agents agent))) before after
  Does number (steps.Login agent user password) before after =
      Requests number (sending_of false agent 0 (logged_in user password (before.agents agent))) before after
  Does number (steps.Follow agent) before after = Requests number (sending_of false agent 0 (followed (before.agents agent))) before after
  Does number (steps.Leave agent site) before after =
      Requests number (sending_of false agent 0 (Some (left site (before.agents agent)))) before after
  Does number (steps.Pair first second size) before after =
      RequestsTwo number size (sending_of false first 0 (submitted (before.agents first)))
      (sending_of false second 1 (submitted (before.agents second))) before after
  Does number (steps.Fresh agent) before after = Forgets number agent before after
  -- a node is started again, and that is counted
  Does number (steps.Restart site) before after =
      Obeys sp idp number site (codes "restart") (λ _ node. Restarts node)
      (record before { tally = restarted before.tally }) after
  -- a stop and a failure of a disk, counted from its next changing call
  Does number (steps.Crash site call pick) before after =
      after ≡ armed number site (λ disk. record disk { stopping = call; pick = pick_number pick }) before
  Does number (steps.Fail site call) before after =
      after ≡ armed number site (λ disk. record disk { failing = call }) before
  Does number (steps.Compact site) before after =
      Obeys sp idp number site (codes "compact") (λ _ node. Compacts node (min before.clock LAST)) before after

  -- The first so many steps of a schedule were done, one after the other, from this deployment on, and no disk found no memory. All that
  -- they print is `text`.
  abbrev pub Replays : ℕ → List Step → Deployment S P → List ℕ → Deployment S P → Type 0
  Replays zero all first text now = (text ≡ []) × (now ≡ first)
  Replays (suc done) all first text now =
      (step : Step) × (before : Deployment S P) × (after : Deployment S P) × (earlier : List ℕ)
      × Replays done all first earlier before × (slice_get all done ≡ Some step) × Does (suc done) step before after
      × (is_starved after ≡ false)
      × (now ≡ record after { lines = [] }) × (text ≡ earlier ++ after.lines)
