-- Two nodes and the user agents that reach them.
use Rattle.std.specs.Prelude.{◌≡◌, ◌≢◌, ℕ, ◌*◌, ◌≤◌, zero, suc, max, Bool, true, false, List, [], ◌∷◌, ◌++◌, length, take, drop, Option, None, Some, Result}
use Rattle.std.specs.Option.{option_map, option_map_or}
use Rattle.gate_journal.specs.declared.fault.OpenFault.{OpenFault}
use Rattle.serve_loop.specs.Turns.{Taken}
use Rattle.post_agent.specs.declared.seen.Seen.{Seen}
use Rattle.post_agent.specs.declared.site.Site.{Site}
use Rattle.post_agent.specs.declared.site.Site.TheVariants.{Sp, Idp}
use Rattle.post_agent.specs.Agents.{fresh}
use Rattle.post_agent.specs.Received.{Receives}
use Rattle.post_agent.specs.States.{State}
use Rattle.schedule_replay.specs.declared.sending.Sending.{Sending}
use Rattle.schedule_replay.specs.declared.tally.Tally.{Tally}
use Rattle.schedule_replay.specs.Counting.{counted, restarted}
use Rattle.serve_loop.specs.Worlds.{NodeRules}
use Rattle.schedule_replay.specs.Hosts.{Host, Outcome, Silent, Sent, Serves, Brings, Known, without_connections}
use Rattle.schedule_replay.specs.Lines.{line, answer_words, stopped_words, result_words}

-- The clock of both nodes, the nodes, what each agent keeps, what was counted, and the lines of the step that is done.
pub record Deployment (S P : Type 0) : Type 0 where
  pub clock : ℕ
  pub sp : Host S
  pub idp : Host P
  pub agents : ℕ → State
  pub tally : Tally
  pub lines : List ℕ

abbrev pub saying : {S P : Type 0} → ℕ → List ℕ → Deployment S P → Deployment S P
saying number words world = record world { lines = world.lines ++ line number words }

-- one agent keeps something else, and the others what they kept
pub record Keeps (agent : ℕ) (state : State) (before after : ℕ → State) : Type 0 where
  pub its : after agent ≡ state
  pub others : (other : ℕ) → other ≢ agent → after other ≡ before other

-- Bytes come back to the agent that sent a request: it receives them, or they were lost on their way and it is as it was. What they show
-- is seen all the same.
abbrev pub ComesBack : (lost : Bool) (agent : ℕ) → Site → List ℕ → (ℕ → State) → Seen → (ℕ → State) → Type 0
ComesBack true agent site bytes before seen after = (state : State) × Receives site bytes fresh seen state × (after ≡ before)
ComesBack false agent site bytes before seen after =
    (state : State) × Receives site bytes (before agent) seen state × Keeps agent state before after

-- a piece of a request from this place on
abbrev pub piece_at : (at size : ℕ) → List ℕ → List ℕ
piece_at at size bytes = take size (drop at bytes)

-- the bytes of a request that there is
abbrev pub bytes_of : Option Sending → List ℕ
bytes_of sending = option_map_or (λ one. one.request.bytes) sending []

-- the connections of an earlier step have ended
abbrev pub unconnected : {S P : Type 0} → Deployment S P → Deployment S P
unconnected world = record world { sp = without_connections world.sp; idp = without_connections world.idp }

-- What is known of an event at a node is printed: where its disk stopped, that is, and the start behind it is counted.
abbrev pub shows : {S P : Type 0} → ℕ → Site → Option (List ℕ) → Deployment S P → Deployment S P
shows number site None world = saying number (stopped_words site) (record world { tally = restarted world.tally })
shows number site (Some words) world = saying number words world

-- What an agent and the output get of a piece: where the disk stopped, that is printed; else they get nothing, or the answer
-- is counted, received and printed.
abbrev pub Hears : {S P : Type 0} → ℕ → Sending → Option Outcome → Deployment S P → Deployment S P → Type 0
Hears number sending None before after = after ≡ shows number sending.request.site None before
Hears number sending (Some Silent) before after = after ≡ before
Hears number sending (Some (Sent path bytes)) before after =
    (seen : Seen) × ComesBack sending.lost sending.agent sending.request.site bytes before.agents seen after.agents
    × (after
    ≡ saying number (answer_words sending.request.site seen)
    (record before { agents = after.agents; tally = counted path seen before.tally }))

module _ {S P : Type 0} (sp : NodeRules S) (idp : NodeRules P) where
  -- something is done at one node, by its rules, and the other is as it was
  abbrev pub OnSite : Site → ((N : Type 0) → NodeRules N → Host N → Host N → Type 0) → Deployment S P → Deployment S P
      → Type 0
  OnSite Sp does before after = does S sp before.sp after.sp × (after ≡ record before { sp = after.sp })
  OnSite Idp does before after = does P idp before.idp after.idp × (after ≡ record before { idp = after.idp })

  -- A piece of a request comes to its node.
  pub record Arrives (number : ℕ) (sending : Sending) (piece : List ℕ) (before after : Deployment S P) : Type 0 where
    pub known : Option Outcome
    pub behind : Deployment S P
    pub brings : OnSite sending.request.site (λ _ node. Brings node before.clock sending.conn piece known) before behind
    pub hears : Hears number sending known behind after

  -- It comes where there is a request, and it has bytes.
  abbrev pub ArrivesIfAny : ℕ → Option Sending → List ℕ → Deployment S P → Deployment S P → Type 0
  ArrivesIfAny number (Some sending) (byte ∷ piece) before after = Arrives number sending (byte ∷ piece) before after
  ArrivesIfAny number sending piece before after = after ≡ before

  -- So many rounds: in each comes the next piece of the first request, and then that of the second.
  abbrev pub Rounds : ℕ → (size : ℕ) → Option Sending → Option Sending → ℕ → Deployment S P → Deployment S P → Type 0
  Rounds number size first second zero before after = after ≡ before
  Rounds number size first second (suc rounds) before after =
      (old : Deployment S P) × (between : Deployment S P) × Rounds number size first second rounds before old
      × ArrivesIfAny number first (piece_at (rounds * size) size (bytes_of first)) old between
      × ArrivesIfAny number second (piece_at (rounds * size) size (bytes_of second)) between after

  -- A connection of its own starts for a request that there is.
  abbrev pub Starts : Option Sending → Deployment S P → Deployment S P → Type 0
  Starts None before after = after ≡ before
  Starts (Some sending) before after =
      OnSite sending.request.site (λ _ node. Serves node before.clock (Taken sending.conn)) before after

  -- One or two requests come to their nodes, in pieces of at most so many bytes, the two in turn, until all bytes came.
  pub record Exchanges (number size : ℕ) (first second : Option Sending) (before after : Deployment S P) : Type 0 where
    pub one : Deployment S P
    pub both : Deployment S P
    pub starts : Starts first (unconnected before) one
    pub starts_other : Starts second one both
    pub rounds : ℕ
    pub all : max (length (bytes_of first)) (length (bytes_of second)) ≤ rounds * size
    pub arrive : Rounds number size first second rounds both after

  -- A node does what a schedule asks for, and how that ended is printed, by this word where it ended well.
  pub record Obeys (number : ℕ) (site : Site) (word : List ℕ)
      (call : (N : Type 0) → NodeRules N → Host N → Result (Unit {0}) OpenFault → Host N → Type 0)
      (before after : Deployment S P) : Type 0 where
    pub known : Option (Result (Unit {0}) OpenFault)
    pub behind : Deployment S P
    pub ends : OnSite site (λ N node. Known node (call N node) known) before behind
    pub shown : after ≡ shows number site (option_map (result_words word) known) behind
