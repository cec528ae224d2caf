-- The starts of two providers in a replay, step by step.
use Rattle.std.specs.Prelude.{ℕ, ◌*◌, zero, suc, codes, Contains, Option, None, Some, Result, min}
use Rattle.std.specs.FinMap as finite
use Rattle.std.proofs.Common.{◌≡◌, List, [], ◌∷◌, ◌++◌, refl, sym, ap, subst, ◌∙◌, append_assoc, arith}
use Rattle.std.proofs.lemmas.List.{append-nil}
use Rattle.crash_disk.specs.Memory.{DiskInMemory}
use Rattle.gate_journal.specs.declared.fault.OpenFault.{OpenFault}
use Rattle.conn_table.specs.Table.{Table}
use Rattle.post_agent.specs.declared.site.Site.{Site}
use Rattle.post_agent.specs.declared.site.Site.TheVariants.{Sp, Idp}
use Rattle.serve_loop.specs.Turns.{Asked, Taken, asked_by}
use Rattle.record_ledger.specs.Laws.{ImagesHoldRecords}
use Rattle.record_ledger.specs.Ledger.{Held}
use Rattle.record_ledger.specs.Rules.{RecordRules}
use Rattle.provider_node.specs.Step.{AnswersBy, Provider}
use Rattle.saml_time.specs.declared.TheConstants.{LAST}
use Rattle.schedules.specs.declared.step.Step.{Step}
use Rattle.schedules.specs.declared.step.Step.TheVariants as steps
use Rattle.schedule_replay.specs.declared.sending.Sending.{Sending}
use Rattle.schedule_replay.specs.Asked.{BothAsked, asked_doing, asked_exchanging, asked_if_any, asked_in_rounds, asked_on, asked_replaying, none_asked, then_asked}
use Rattle.schedule_replay.specs.Counting.{restarted as count}
use Rattle.schedule_replay.specs.Deployments.{Arrives, ArrivesIfAny, Deployment, Exchanges, Hears, Obeys, OnSite, Rounds, Starts, bytes_of, piece_at, shows, unconnected}
use Rattle.serve_loop.specs.Worlds.{NodeRules}
use Rattle.schedule_replay.specs.Hosts.{Brings, Compacts, Host, Known, Outcome, Restarts, Sent, Serves, Silent}
use Rattle.schedule_replay.specs.Steps.{Does, Replays, Requests, RequestsTwo, armed, saying_none}
use Rattle.provider_node.specs.Node.{provider_rules}
use Rattle.replay_starts.specs.Replayed.{AReplayIsStarts, moments_in_run, moments_replaying}
use Rattle.replay_starts.proofs.Anywhen.{at_any, left_at_any}
use Rattle.replay_starts.proofs.Going.{LetsGo, SoFar, asked_as, begun, compacted, known_so, left_behind, restarted, served, stopped_so, taken_so, unconnected_at}
use Rattle.replay_starts.proofs.Worlds.{still}

-- ---- lists of requests

module _ {S P : Type 0} where
  nothing_more : (a : BothAsked S P) → then_asked a none_asked ≡ a
  nothing_more a = λ i. record { sp = append-nil a.sp i; idp = append-nil a.idp i }

  joined : (a b c : BothAsked S P) → then_asked (then_asked a b) c ≡ then_asked a (then_asked b c)
  joined a b c = λ i. record { sp = append_assoc a.sp b.sp c.sp i; idp = append_assoc a.idp b.idp c.idp i }

-- ---- parts of a deployment that stay

module _ {S P : Type 0} where
  -- the nodes and the clock are as they were
  record AreSame (before after : Deployment S P) : Type 0 where
    clock : after.clock ≡ before.clock
    sp : after.sp ≡ before.sp
    idp : after.idp ≡ before.idp

  all_same : (world : Deployment S P) → AreSame world world
  all_same world = record { clock = refl; sp = refl; idp = refl }

  silent_none : (number : ℕ) (request : Option Sending) (world : Deployment S P)
      → AreSame world (saying_none number request world)
  silent_none number None world = record { clock = refl; sp = refl; idp = refl }
  silent_none number (Some request) world = all_same world

  heard : (number : ℕ) (sending : Sending) (known : Option Outcome) (before after : Deployment S P)
      → Hears number sending known before after → AreSame before after
  heard number sending None before after same = record {
    clock = ap (λ (w : Deployment S P). w.clock) same;
    sp = ap (λ (w : Deployment S P). w.sp) same;
    idp = ap (λ (w : Deployment S P). w.idp) same;
  }
  heard number sending (Some Silent) before after same = record {
    clock = ap (λ (w : Deployment S P). w.clock) same;
    sp = ap (λ (w : Deployment S P). w.sp) same;
    idp = ap (λ (w : Deployment S P). w.idp) same;
  }
  heard number sending (Some (Sent path bytes)) before after (seen, comes, same) = record {
    clock = ap (λ (w : Deployment S P). w.clock) same;
    sp = ap (λ (w : Deployment S P). w.sp) same;
    idp = ap (λ (w : Deployment S P). w.idp) same;
  }

  shown_same : (number : ℕ) (site : Site) (words : Option (List ℕ)) (world : Deployment S P)
      → ((shows number site words world).sp ≡ world.sp) × ((shows number site words world).idp ≡ world.idp)
  shown_same number site None world = (refl, refl)
  shown_same number site (Some words) world = (refl, refl)

module _ {S A P B : Type 0} (sp_rules : RecordRules A) (SpAnswers : AnswersBy S A) (idp_rules : RecordRules B)
    (IdpAnswers : AnswersBy P B) (sp_hold : ImagesHoldRecords sp_rules) (idp_hold : ImagesHoldRecords idp_rules)
    (IsMoment : ℕ → Type 0) (sp_start : Held A) (idp_start : Held B) where
  abbrev World : Type 0
  World = Deployment (Provider S A) (Provider P B)

  abbrev Requested : Type 0
  Requested = BothAsked (Provider S A) (Provider P B)

  abbrev sp : NodeRules (Provider S A)
  sp = provider_rules sp_rules SpAnswers

  abbrev idp : NodeRules (Provider P B)
  idp = provider_rules idp_rules IdpAnswers

  abbrev SpSoFar : Host (Provider S A) → Table → List (Asked (Provider S A)) → Type 0
  SpSoFar host kept asked = SoFar sp_rules SpAnswers IsMoment sp_start (still host) kept asked

  abbrev IdpSoFar : Host (Provider P B) → Table → List (Asked (Provider P B)) → Type 0
  IdpSoFar host kept asked = SoFar idp_rules IdpAnswers IsMoment idp_start (still host) kept asked

  -- starts of both up to here, with the connections that are kept, or with others, which are let go
  record Connected (world : World) (asked : Requested) : Type 0 where
    moment : IsMoment (min world.clock LAST)
    at_sp : SpSoFar world.sp world.sp.kept asked.sp
    at_idp : IdpSoFar world.idp world.idp.kept asked.idp

  -- the clock stands at a moment, as before
  clocked : (before after : World) → after.clock ≡ before.clock → IsMoment (min before.clock LAST)
      → IsMoment (min after.clock LAST)
  clocked before after same moment = subst (λ (n : ℕ). IsMoment (min n LAST)) (sym same) moment

  record Loose (world : World) (asked : Requested) : Type 0 where
    sp_kept : Table
    idp_kept : Table
    at_sp : SpSoFar world.sp sp_kept asked.sp
    at_idp : IdpSoFar world.idp idp_kept asked.idp

  loosened : (world : World) (asked : Requested) → Connected world asked → Loose world asked
  loosened world asked c =
      record { sp_kept = world.sp.kept; idp_kept = world.idp.kept; at_sp = c.at_sp; at_idp = c.at_idp }

  moved : (before after : World) (asked : Requested) → AreSame before after
      → Connected before asked → Connected after asked
  moved before after asked same c = record {
    moment = clocked before after same.clock c.moment;
    at_sp = subst (λ (h : Host (Provider S A)). SpSoFar h h.kept asked.sp) (sym same.sp) c.at_sp;
    at_idp = subst (λ (h : Host (Provider P B)). IdpSoFar h h.kept asked.idp) (sym same.idp) c.at_idp;
  }

  slid : (before after : World) (asked : Requested) → (after.sp ≡ before.sp) × (after.idp ≡ before.idp)
      → Loose before asked → Loose after asked
  slid before after asked same c = record {
    sp_kept = c.sp_kept;
    idp_kept = c.idp_kept;
    at_sp = subst (λ (h : Host (Provider S A)). SpSoFar h c.sp_kept asked.sp) (sym same.0) c.at_sp;
    at_idp = subst (λ (h : Host (Provider P B)). IdpSoFar h c.idp_kept asked.idp) (sym same.1) c.at_idp;
  }

  -- nothing more was asked
  unasked : (world : World) (asked : Requested) → Loose world asked → Loose world (then_asked asked none_asked)
  unasked world asked c = subst (Loose world) (sym (nothing_more asked)) c

  -- ---- a piece

  -- a node to which nothing was done
  sp_same : (before after : World) (asked : Requested) → after.sp ≡ before.sp → SpSoFar before.sp before.sp.kept asked.sp
      → SpSoFar after.sp after.sp.kept (asked.sp ++ [])
  sp_same before after asked same s =
      subst (λ (h : Host (Provider S A)). SpSoFar h h.kept (asked.sp ++ [])) (sym same)
      (asked_as sp_rules SpAnswers IsMoment sp_start (still before.sp) before.sp.kept asked.sp (asked.sp ++ [])
      (sym (append-nil asked.sp)) s)

  idp_same : (before after : World) (asked : Requested) → after.idp ≡ before.idp
      → IdpSoFar before.idp before.idp.kept asked.idp → IdpSoFar after.idp after.idp.kept (asked.idp ++ [])
  idp_same before after asked same s =
      subst (λ (h : Host (Provider P B)). IdpSoFar h h.kept (asked.idp ++ [])) (sym same)
      (asked_as idp_rules IdpAnswers IsMoment idp_start (still before.idp) before.idp.kept asked.idp (asked.idp ++ [])
      (sym (append-nil asked.idp)) s)

  brought_on : (site : Site) (conn : ℕ) (piece : List ℕ) (known : Option Outcome) (before after : World)
      (asked : Requested)
      → (brings : OnSite sp idp site (λ _ node. Brings node before.clock conn piece known) before after)
      → Connected before asked
      → Connected after (then_asked asked (asked_on sp idp site before.clock conn piece known before after brings))
  brought_on Sp conn piece (Some outcome) before after asked brings c = record {
    moment = clocked before after (ap (λ (w : World). w.clock) brings.1) c.moment;
    at_sp =
        taken_so sp_rules SpAnswers IsMoment sp_start sp_hold before.clock conn piece before.sp after.sp outcome
        asked.sp c.moment brings.0.0 c.at_sp;
    at_idp = idp_same before after asked (ap (λ (w : World). w.idp) brings.1) c.at_idp;
  }
  brought_on Sp conn piece None before after asked brings c = record {
    moment = clocked before after (ap (λ (w : World). w.clock) brings.1) c.moment;
    at_sp =
        stopped_so sp_rules SpAnswers IsMoment sp_start sp_hold brings.0.1 after.sp
        (asked.sp ++ asked_by brings.0.2.turn) brings.0.4
        (taken_so sp_rules SpAnswers IsMoment sp_start sp_hold before.clock conn piece before.sp brings.0.1
        brings.0.0 asked.sp c.moment brings.0.2 c.at_sp);
    at_idp = idp_same before after asked (ap (λ (w : World). w.idp) brings.1) c.at_idp;
  }
  brought_on Idp conn piece (Some outcome) before after asked brings c = record {
    moment = clocked before after (ap (λ (w : World). w.clock) brings.1) c.moment;
    at_sp = sp_same before after asked (ap (λ (w : World). w.sp) brings.1) c.at_sp;
    at_idp =
        taken_so idp_rules IdpAnswers IsMoment idp_start idp_hold before.clock conn piece before.idp after.idp outcome
        asked.idp c.moment brings.0.0 c.at_idp;
  }
  brought_on Idp conn piece None before after asked brings c = record {
    moment = clocked before after (ap (λ (w : World). w.clock) brings.1) c.moment;
    at_sp = sp_same before after asked (ap (λ (w : World). w.sp) brings.1) c.at_sp;
    at_idp =
        stopped_so idp_rules IdpAnswers IsMoment idp_start idp_hold brings.0.1 after.idp
        (asked.idp ++ asked_by brings.0.2.turn) brings.0.4
        (taken_so idp_rules IdpAnswers IsMoment idp_start idp_hold before.clock conn piece before.idp brings.0.1
        brings.0.0 asked.idp c.moment brings.0.2 c.at_idp);
  }

  arrived : (number : ℕ) (sending : Sending) (piece : List ℕ) (before after : World) (asked : Requested)
      → (arrives : Arrives sp idp number sending piece before after) → Connected before asked
      → Connected after
      (then_asked asked
      (asked_on sp idp sending.request.site before.clock sending.conn piece arrives.known before arrives.behind arrives.brings))
  arrived number sending piece before after asked arrives c =
      moved arrives.behind after _ (heard number sending arrives.known arrives.behind after arrives.hears)
      (brought_on sending.request.site sending.conn piece arrives.known before arrives.behind asked
      arrives.brings c)

  still_same : (before after : World) (asked : Requested) → after ≡ before → Connected before asked
      → Connected after (then_asked asked none_asked)
  still_same before after asked same c =
      subst (λ (w : World). Connected w (then_asked asked none_asked)) (sym same)
      (subst (Connected before) (sym (nothing_more asked)) c)

  arrived_if_any : (number : ℕ) (sending : Option Sending) (piece : List ℕ) (before after : World) (asked : Requested)
      → (arrives : ArrivesIfAny sp idp number sending piece before after) → Connected before asked
      → Connected after (then_asked asked (asked_if_any sp idp number sending piece before after arrives))
  arrived_if_any number None piece before after asked arrives c = still_same before after asked arrives c
  arrived_if_any number (Some sending) [] before after asked arrives c = still_same before after asked arrives c
  arrived_if_any number (Some sending) (byte ∷ piece) before after asked arrives c =
      arrived number sending (byte ∷ piece) before after asked arrives c

  -- ---- requests

  rounds_went : (number size : ℕ) (first second : Option Sending) (rounds : ℕ) (before after : World)
      (asked : Requested) → (went : Rounds sp idp number size first second rounds before after)
      → Connected before asked
      → Connected after
      (then_asked asked (asked_in_rounds sp idp number size first second rounds before after went))
  rounds_went number size first second zero before after asked same c = still_same before after asked same c
  rounds_went number size first second (suc rounds) before after asked (old, between, earlier, one, other) c =
      let were = asked_in_rounds sp idp number size first second rounds before old earlier in
      let of_first = piece_at (rounds * size) size (bytes_of first) in
      let of_second = piece_at (rounds * size) size (bytes_of second) in
      let by_one = asked_if_any sp idp number first of_first old between one in
      let by_other = asked_if_any sp idp number second of_second between after other in
      let now = arrived_if_any number second of_second between after
      (then_asked (then_asked asked were) by_one) other
      (arrived_if_any number first of_first old between (then_asked asked were) one
      (rounds_went number size first second rounds before old asked earlier c)) in
      subst (Connected after) (joined (then_asked asked were) by_one by_other ∙ joined asked were _) now

  started_on : (site : Site) (conn : ℕ) (before after : World) (asked : Requested)
      → OnSite sp idp site (λ _ node. Serves node before.clock (Taken conn)) before after
      → Connected before asked → Connected after asked
  started_on Sp conn before after asked serves c = record {
    moment = clocked before after (ap (λ (w : World). w.clock) serves.1) c.moment;
    at_sp =
        asked_as sp_rules SpAnswers IsMoment sp_start (still after.sp) after.sp.kept (asked.sp ++ []) asked.sp
        (append-nil asked.sp)
        (served sp_rules SpAnswers IsMoment sp_start before.clock (Taken conn) before.sp after.sp asked.sp c.moment
        serves.0 c.at_sp);
    at_idp =
        subst (λ (h : Host (Provider P B)). IdpSoFar h h.kept asked.idp) (sym (ap (λ (w : World). w.idp) serves.1))
        c.at_idp;
  }
  started_on Idp conn before after asked serves c = record {
    moment = clocked before after (ap (λ (w : World). w.clock) serves.1) c.moment;
    at_sp =
        subst (λ (h : Host (Provider S A)). SpSoFar h h.kept asked.sp) (sym (ap (λ (w : World). w.sp) serves.1))
        c.at_sp;
    at_idp =
        asked_as idp_rules IdpAnswers IsMoment idp_start (still after.idp) after.idp.kept (asked.idp ++ []) asked.idp
        (append-nil asked.idp)
        (served idp_rules IdpAnswers IsMoment idp_start before.clock (Taken conn) before.idp after.idp asked.idp
        c.moment serves.0 c.at_idp);
  }

  started : (sending : Option Sending) (before after : World) (asked : Requested)
      → Starts sp idp sending before after → Connected before asked → Connected after asked
  started None before after asked same c = subst (λ (w : World). Connected w asked) (sym same) c
  started (Some sending) before after asked starts c =
      started_on sending.request.site sending.conn before after asked starts c

  exchanged : (number size : ℕ) (first second : Option Sending) (before after : World) (asked : Requested)
      → (exchanges : Exchanges sp idp number size first second before after) → IsMoment (min before.clock LAST)
      → Loose before asked
      → Loose after (then_asked asked (asked_exchanging sp idp number size first second before after exchanges))
  exchanged number size first second before after asked e moment c =
      let fresh : Connected (unconnected before) asked = record {
        moment = moment;
        at_sp = unconnected_at sp_rules SpAnswers IsMoment sp_start before.sp c.sp_kept asked.sp c.at_sp;
        at_idp = unconnected_at idp_rules IdpAnswers IsMoment idp_start before.idp c.idp_kept asked.idp c.at_idp;
      } in
      let one = started first (unconnected before) e.one asked e.starts fresh in
      let both = started second e.one e.both asked e.starts_other one in
      loosened after _ (rounds_went number size first second e.rounds e.both after asked e.arrive both)

  requested : (number : ℕ) (request : Option Sending) (before after : World) (asked : Requested)
      → (requests : Requests sp idp number request before after) → IsMoment (min before.clock LAST)
      → Loose before asked → Loose after (then_asked asked (asked_exchanging sp idp number _ _ _ _ after requests))
  requested number request before after asked requests moment c =
      let none = saying_none number request before in
      let same = silent_none number request before in
      exchanged number _ request None none after asked requests (clocked before none same.clock moment)
      (slid before none asked (same.sp, same.idp) c)

  requested_two : (number size : ℕ) (first second : Option Sending) (before after : World) (asked : Requested)
      → (requests : RequestsTwo sp idp number size first second before after) → IsMoment (min before.clock LAST)
      → Loose before asked → Loose after (then_asked asked (asked_exchanging sp idp number _ _ _ _ after requests))
  requested_two number size first second before after asked requests moment c =
      let one = saying_none number first before in
      let both = saying_none number second one in
      let same = silent_none number first before in
      let same_too = silent_none number second one in
      exchanged number _ first second both after asked requests
      (clocked one both same_too.clock (clocked before one same.clock moment))
      (slid one both asked (same_too.sp, same_too.idp) (slid before one asked (same.sp, same.idp) c))

  -- ---- restarts and compactions

  obeyed : (number : ℕ) (site : Site) (word : List ℕ)
      (call : (N : Type 0) → NodeRules N → Host N → Result (Unit {0}) OpenFault → Host N → Type 0) (before after : World)
      (asked : Requested) → LetsGo sp_rules SpAnswers IsMoment sp_start sp_hold (call (Provider S A) sp)
      → LetsGo idp_rules IdpAnswers IsMoment idp_start idp_hold (call (Provider P B) idp)
      → Obeys sp idp number site word call before after → Loose before asked → Loose after asked
  obeyed number site word call before after asked sp_goes idp_goes o c =
      subst (λ (w : World). Loose w asked) (sym o.shown)
      (slid o.behind _ asked (shown_same number site _ _) (on site o.known o.behind o.ends))
    where
      on : (at : Site) (known : Option (Result (Unit {0}) OpenFault)) (behind : World)
          → OnSite sp idp at (λ N node. Known node (call N node) known) before behind → Loose behind asked
      on Sp known behind ends = record {
        sp_kept = finite.empty;
        idp_kept = c.idp_kept;
        at_sp =
            known_so sp_rules SpAnswers IsMoment sp_start sp_hold (call (Provider S A) sp) sp_goes before.sp
            behind.sp known c.sp_kept asked.sp ends.0 c.at_sp;
        at_idp =
            subst (λ (h : Host (Provider P B)). IdpSoFar h c.idp_kept asked.idp)
            (sym (ap (λ (w : World). w.idp) ends.1)) c.at_idp;
      }
      on Idp known behind ends = record {
        sp_kept = c.sp_kept;
        idp_kept = finite.empty;
        at_sp =
            subst (λ (h : Host (Provider S A)). SpSoFar h c.sp_kept asked.sp) (sym (ap (λ (w : World). w.sp) ends.1))
            c.at_sp;
        at_idp =
            known_so idp_rules IdpAnswers IsMoment idp_start idp_hold (call (Provider P B) idp) idp_goes before.idp
            behind.idp known c.idp_kept asked.idp ends.0 c.at_idp;
      }

  compacted_at : (number : ℕ) (site : Site) (now : ℕ) (before after : World) (asked : Requested) → IsMoment now
      → Obeys sp idp number site (codes "compact") (λ _ node. Compacts node now) before after
      → Loose before asked → Loose after asked
  compacted_at number site now before after asked moment o c =
      obeyed number site (codes "compact") (λ _ node. Compacts node now) before after asked
      (λ old new result kept already.
      compacted sp_rules SpAnswers IsMoment sp_start sp_hold now old new result kept already moment)
      (λ old new result kept already.
      compacted idp_rules IdpAnswers IsMoment idp_start idp_hold now old new result kept already moment) o c

  -- a disk that is to fail or to stop is as it was
  armed_at : (number : ℕ) (site : Site) (set : DiskInMemory → DiskInMemory) (before : World) (asked : Requested)
      → (still (record before.sp { disk = set before.sp.disk }) ≡ still before.sp)
      → (still (record before.idp { disk = set before.idp.disk }) ≡ still before.idp)
      → Loose before asked → Loose (armed number site set before) asked
  armed_at number Sp set before asked same_sp same_idp c = record {
    sp_kept = c.sp_kept;
    idp_kept = c.idp_kept;
    at_sp = subst (λ w. SoFar sp_rules SpAnswers IsMoment sp_start w c.sp_kept asked.sp) (sym same_sp) c.at_sp;
    at_idp = c.at_idp;
  }
  armed_at number Idp set before asked same_sp same_idp c = record {
    sp_kept = c.sp_kept;
    idp_kept = c.idp_kept;
    at_sp = c.at_sp;
    at_idp = subst (λ w. SoFar idp_rules IdpAnswers IsMoment idp_start w c.idp_kept asked.idp) (sym same_idp) c.at_idp;
  }

  -- ---- steps

  same_nodes : (before after middle : World) (asked : Requested) → after ≡ middle
      → (middle.sp ≡ before.sp) × (middle.idp ≡ before.idp) → Loose before asked
      → Loose after (then_asked asked none_asked)
  same_nodes before after middle asked same nodes c =
      unasked after asked
      (subst (λ (w : World). Loose w asked) (sym same) (slid before middle asked nodes c))

  step_done : (number : ℕ) (step : Step) (before after : World) (asked : Requested)
      → (does : Does sp idp number step before after) → IsMoment (min before.clock LAST) → Loose before asked
      → Loose after (then_asked asked (asked_doing sp idp number step before after does))
  step_done number (steps.Now moment) before after asked does at c =
      same_nodes before after _ asked does (refl, refl) c
  step_done number (steps.Visit agent path) before after asked does moment c =
      requested number _ before after asked does moment c
  step_done number (steps.Submit agent) before after asked does moment c =
      requested number _ before after asked does moment c
  step_done number (steps.Lose agent) before after asked does moment c =
      requested number _ before after asked does moment c
  step_done number (steps.Login agent user password) before after asked does moment c =
      requested number _ before after asked does moment c
  step_done number (steps.Follow agent) before after asked does moment c =
      requested number _ before after asked does moment c
  step_done number (steps.Leave agent site) before after asked does moment c =
      requested number _ before after asked does moment c
  step_done number (steps.Pair first second size) before after asked does moment c =
      requested_two number size _ _ before after asked does moment c
  step_done number (steps.Fresh agent) before after asked does moment c =
      same_nodes before after _ asked does.1 (refl, refl) c
  step_done number (steps.Restart site) before after asked does moment c =
      let counted = record before { tally = count before.tally } in
      unasked after asked
      (obeyed number site (codes "restart") (λ _ node. Restarts node) counted after asked
      (restarted sp_rules SpAnswers IsMoment sp_start sp_hold)
      (restarted idp_rules IdpAnswers IsMoment idp_start idp_hold) does
      (slid before counted asked (refl, refl) c))
  step_done number (steps.Crash site call pick) before after asked does moment c =
      unasked after asked
      (subst (λ (w : World). Loose w asked) (sym does) (armed_at number site _ before asked refl refl c))
  step_done number (steps.Fail site call) before after asked does moment c =
      unasked after asked
      (subst (λ (w : World). Loose w asked) (sym does) (armed_at number site _ before asked refl refl c))
  step_done number (steps.Compact site) before after asked does moment c =
      unasked after asked (compacted_at number site _ before after asked moment does c)

  replayed : (done : ℕ) (all : List Step) (first : World) (text : List ℕ) (now : World)
      → (replays : Replays sp idp done all first text now)
      → ((m : ℕ) → Contains (moments_replaying sp idp done all first text now replays) m → IsMoment m)
      → Loose first none_asked
      → Loose now (asked_replaying sp idp done all first text now replays)
  replayed zero all first text now none within c = subst (λ (w : World). Loose w none_asked) (sym none.1) c
  replayed (suc done) all first text now (step, before, after, earlier, were, is, did, fed, same, printed) within c =
      let asked = asked_replaying sp idp done all first earlier before were in
      let then = then_asked asked (asked_doing sp idp (suc done) step before after did) in
      subst (λ (w : World). Loose w then) (sym same)
      (slid after (record after { lines = [] }) then (refl, refl)
      (step_done (suc done) step before after asked did (within _ (zero, omega arith, refl))
      (replayed done all first earlier before were
      (λ m there. within m (suc there.0, omega (arith, there.1), there.2)) c)))

-- ---- the law

module _ {S A P B : Type 0} (sp_rules : RecordRules A) (SpAnswers : AnswersBy S A) (idp_rules : RecordRules B)
    (IdpAnswers : AnswersBy P B) where
  pub a_replay_is_starts : AReplayIsStarts sp_rules SpAnswers idp_rules IdpAnswers
  a_replay_is_starts sp_hold idp_hold steps first sp_image idp_image sp_started idp_started ran =
      let sp_start = first.sp.node.ledger.held in
      let idp_start = first.idp.node.ledger.held in
      let moments = moments_in_run (provider_rules sp_rules SpAnswers) (provider_rules idp_rules IdpAnswers) ran in
      let IsMoment : ℕ → Type 0 = Contains moments in
      let done = replayed sp_rules SpAnswers idp_rules IdpAnswers sp_hold idp_hold IsMoment sp_start idp_start ran.done
      steps first ran.text ran.last ran.replays (λ m there. there)
      (record {
        sp_kept = finite.empty;
        idp_kept = finite.empty;
        at_sp = begun sp_rules SpAnswers IsMoment sp_hold sp_image first.sp sp_started;
        at_idp = begun idp_rules IdpAnswers IsMoment idp_hold idp_image first.idp idp_started;
      }) in
      let sp_left = left_behind sp_rules SpAnswers IsMoment sp_start (still ran.last.sp) done.sp_kept _ done.at_sp in
      let idp_left = left_behind idp_rules IdpAnswers IsMoment idp_start (still ran.last.idp) done.idp_kept _
      done.at_idp in (
        done.at_sp.starts,
        done.at_idp.starts,
        record {
          are = at_any sp_rules SpAnswers IsMoment sp_start done.at_sp.starts done.at_sp.are;
          requests = done.at_sp.requests;
          left = λ image is.
              left_at_any sp_rules SpAnswers IsMoment sp_start done.at_sp.starts image (sp_left image is);
          are_at = done.at_sp.are;
          left_at = sp_left;
        },
        record {
          are = at_any idp_rules IdpAnswers IsMoment idp_start done.at_idp.starts done.at_idp.are;
          requests = done.at_idp.requests;
          left = λ image is.
              left_at_any idp_rules IdpAnswers IsMoment idp_start done.at_idp.starts image (idp_left image is);
          are_at = done.at_idp.are;
          left_at = idp_left;
        },
      )
