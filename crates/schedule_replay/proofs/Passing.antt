-- What becomes of both disks and of the count of restarts at the events of a replay.
use Rattle.std.specs.Prelude.{◌≡◌, ℕ, zero, suc, ◌+◌, ◌*◌, ◌≤◌, true, false, List, [], ◌∷◌, length, min, codes, Option, None, Some, Result}
use Rattle.std.specs.Option.{option_map}
use Rattle.std.proofs.Common.{refl, sym, ◌∙◌, ap, subst, arith}
use Rattle.crash_disk.specs.Memory.{DiskInMemory, Call, after_calls}
use Rattle.crash_disk.specs.Moments.{IsMadeByCalls}
use Rattle.gate_journal.specs.declared.fault.OpenFault.{OpenFault}
use Rattle.saml_time.specs.declared.TheConstants.{LAST}
use Rattle.serve_loop.specs.Turns.{Taken}
use Rattle.post_agent.specs.declared.site.Site.{Site}
use Rattle.post_agent.specs.declared.site.Site.TheVariants.{Sp, Idp}
use Rattle.schedule_replay.specs.declared.sending.Sending.{Sending}
use Rattle.schedule_replay.specs.Counting.{restarted}
use Rattle.schedule_replay.specs.Deployments.{Deployment, OnSite, Hears, Arrives, ArrivesIfAny, Rounds, Starts, Exchanges, Obeys, bytes_of, piece_at, shows, unconnected}
use Rattle.schedule_replay.specs.Faults.{faults_in, stops_taken}
use Rattle.serve_loop.specs.Worlds.{NodeRules}
use Rattle.schedule_replay.specs.Hosts.{Host, Outcome, Silent, Sent, Brings, Compacts, Known, Recovers, Restarts, Serves, Takes, resumed}
use Rattle.schedule_replay.specs.Lines.{result_words}
use Rattle.schedule_replay.proofs.Calling.{made_called}
use Rattle.schedule_replay.proofs.Going.{Goes, Went, goes_nowhere, goes_then, still_runs, went_again, went_on}

-- what of a deployment tells of its faults
pub record Counts : Type 0 where
  pub sp : DiskInMemory
  pub idp : DiskInMemory
  pub restarts : ℕ

abbrev pub counts_of : {S P : Type 0} → Deployment S P → Counts
counts_of world = record { sp = world.sp.disk; idp = world.idp.disk; restarts = world.tally.restarts }

-- So many restarts were asked for, and so many failures and stops set at either node. Each further restart that was counted is of a stop.
pub record Passes (asked : ℕ) (failures stops : Site → ℕ) (old new : Counts) : Type 0 where
  pub sp : old.sp.stopped ≡ false → Goes (failures Sp) (stops Sp) old.sp new.sp
  pub idp : old.idp.stopped ≡ false → Goes (failures Idp) (stops Idp) old.idp new.idp
  pub restarts :
      old.sp.stopped ≡ false → old.idp.stopped ≡ false
      → new.restarts + stops_taken old.sp + stops_taken old.idp ≤ old.restarts + asked + stops_taken new.sp + stops_taken new.idp

-- nothing is set
abbrev pub none : Site → ℕ
none site = 0

pub passes_not : (counts : Counts) → Passes 0 none none counts counts
passes_not counts = record {
  sp = λ ran. goes_nowhere counts.sp ran;
  idp = λ ran. goes_nowhere counts.idp ran;
  restarts = λ ran other. omega arith;
}

pub passes_then : (a b : ℕ) (f s g t : Site → ℕ) (old mid new : Counts) → Passes a f s old mid → Passes b g t mid new
    → Passes (a + b) (λ site. f site + g site) (λ site. s site + t site) old new
passes_then a b f s g t old mid new first second = record {
  sp = λ ran. goes_then (f Sp) (s Sp) (g Sp) (t Sp) old.sp mid.sp new.sp (first.sp ran) (second.sp (first.sp ran).runs);
  idp = λ ran. goes_then (f Idp) (s Idp) (g Idp) (t Idp) old.idp mid.idp new.idp (first.idp ran) (second.idp (first.idp ran).runs);
  restarts = λ ran other.
      let earlier = first.restarts ran other in
      let later = second.restarts (first.sp ran).runs (first.idp other).runs in
      omega arith;
}

-- a step or an event in which nothing is set
abbrev pub Passes0 : Counts → Counts → Type 0
Passes0 old new = Passes 0 none none old new

pub passes_both : (old mid new : Counts) → Passes0 old mid → Passes0 mid new → Passes0 old new
passes_both old mid new first second = passes_then 0 0 none none none none old mid new first second

-- ---- at one node

-- that calls fail only where that was set, as crash_disk says
abbrev pub CallsFailWhereSet : Type 0
CallsFailWhereSet =
    (m : DiskInMemory) (calls : List Call) → (after_calls calls m).starved ≡ false → (after_calls calls m).stopped ≡ false
    → faults_in (after_calls calls m) ≤ faults_in m

-- how often a disk stopped in an event of which this is known
abbrev pub stops_behind : {A : Type 0} → Option A → ℕ
stops_behind None = 1
stops_behind (Some shown) = 0

module _ (only : CallsFailWhereSet) where
  no_more : (old new : DiskInMemory) → IsMadeByCalls (Some old) (Some new) → new.stopped ≡ false → new.starved ≡ false → faults_in new ≤ faults_in old
  no_more old new (calls, is) runs fed =
      subst (λ (m : DiskInMemory). faults_in m ≤ faults_in old) (sym is)
      (only old calls (sym (ap (λ (m : DiskInMemory). m.starved) is) ∙ fed) (sym (ap (λ (m : DiskInMemory). m.stopped) is) ∙ runs))

  goes_on : (old new : DiskInMemory) → IsMadeByCalls (Some old) (Some new) → old.stopped ≡ false → new.stopped ≡ false → Went 0 old new
  goes_on old new made ran runs = went_on old new ran runs (made_called old new made) (no_more old new made runs)

  module _ {N : Type 0} (rules : NodeRules N) where
    -- a connection starts: the log is as long as before
    serves_start : (now conn : ℕ) (before after : Host N) → Serves rules now (Taken conn) before after → before.disk.stopped ≡ false
        → Went 0 before.disk after.disk
    serves_start now conn before after serves ran =
        let as_long : length after.disk.log ≡ length before.disk.log = ap (λ w. w.moment) serves.does.1 in
        let made : IsMadeByCalls (Some before.disk) (Some after.disk) = serves.leaves.calls in
        goes_on before.disk after.disk made ran (still_runs before.disk after.disk ran (made_called before.disk after.disk made) as_long)

    recovers : (before behind after : Host N) → IsMadeByCalls (Some before.disk) (Some behind.disk) → before.disk.stopped ≡ false
        → behind.disk.stopped ≡ true → Recovers rules behind after → Went 1 before.disk after.disk
    recovers before behind after made ran stopped (result, again) =
        let later : IsMadeByCalls (Some (resumed behind).disk) (Some after.disk) = again.leaves.calls in
        went_again before.disk behind.disk (resumed behind).disk after.disk ran stopped refl (made_called before.disk behind.disk made)
        (made_called (resumed behind).disk after.disk later)

    -- an event in which calls made the one disk of the other
    event_known : {A : Type 0} (event : Host N → A → Host N → Type 0) (known : Option A) (before after : Host N)
        → ((old : Host N) (result : A) (new : Host N) → event old result new → IsMadeByCalls (Some old.disk) (Some new.disk))
        → Known rules event known before after → before.disk.stopped ≡ false → Went (stops_behind known) before.disk after.disk
    event_known event (Some result) before after made (is, runs) ran =
        goes_on before.disk after.disk (made before result after is) ran runs
    event_known event None before after made (result, behind, is, stopped, again) ran =
        recovers before behind after (made before result behind is) ran stopped again

    brings : (now conn : ℕ) (piece : List ℕ) (known : Option Outcome) (before after : Host N) → Brings rules now conn piece known before after
        → before.disk.stopped ≡ false → Went (stops_behind known) before.disk after.disk
    brings now conn piece known before after brought ran =
        event_known (Takes rules now conn piece) known before after (λ old outcome new takes. takes.serves.leaves.calls) brought ran

    restart_known : (known : Option (Result (Unit {0}) OpenFault)) (before after : Host N) → Known rules (Restarts rules) known before after
        → before.disk.stopped ≡ false → Went (stops_behind known) before.disk after.disk
    restart_known known before after is ran =
        event_known (Restarts rules) known before after (λ old result new restarts. restarts.leaves.calls) is ran

    compaction_known : (now : ℕ) (known : Option (Result (Unit {0}) OpenFault)) (before after : Host N)
        → Known rules (Compacts rules now) known before after → before.disk.stopped ≡ false
        → Went (stops_behind known) before.disk after.disk
    compaction_known now known before after is ran =
        event_known (Compacts rules now) known before after (λ old result new compacts. compacts.leaves.calls) is ran

-- ---- in a deployment

-- One disk stopped so many times, and nothing was counted yet.
pub record Moves (stops : ℕ) (old new : Counts) : Type 0 where
  pub sp : old.sp.stopped ≡ false → Goes 0 0 old.sp new.sp
  pub idp : old.idp.stopped ≡ false → Goes 0 0 old.idp new.idp
  pub taken :
      old.sp.stopped ≡ false → old.idp.stopped ≡ false
      → stops_taken new.sp + stops_taken new.idp ≡ stops_taken old.sp + stops_taken old.idp + stops
  pub restarts : new.restarts ≡ old.restarts

-- At most so many restarts were counted, and the disks are as they were.
pub record Tells (restarts : ℕ) (old new : Counts) : Type 0 where
  pub sp : new.sp ≡ old.sp
  pub idp : new.idp ≡ old.idp
  pub counted : new.restarts ≤ old.restarts + restarts

tells_of : (stops asked restarts : ℕ) (old mid new : Counts) → restarts ≤ stops + asked → Moves stops old mid → Tells restarts mid new
    → Passes asked none none old new
tells_of stops asked restarts old mid new few moves tells = record {
  sp = λ ran. subst (Goes 0 0 old.sp) (sym tells.sp) (moves.sp ran);
  idp = λ ran. subst (Goes 0 0 old.idp) (sym tells.idp) (moves.idp ran);
  restarts = λ ran other.
      let one = ap stops_taken tells.sp in
      let two = ap stops_taken tells.idp in
      let all = moves.taken ran other in
      let counted = tells.counted in
      let same = moves.restarts in
      omega arith;
}

module _ {S P : Type 0} (sp : NodeRules S) (idp : NodeRules P) where
  on_site : (stops : ℕ) (site : Site) (does : (N : Type 0) → NodeRules N → Host N → Host N → Type 0) (before after : Deployment S P)
      → ((old new : Host S) → does S sp old new → old.disk.stopped ≡ false → Went stops old.disk new.disk)
      → ((old new : Host P) → does P idp old new → old.disk.stopped ≡ false → Went stops old.disk new.disk)
      → OnSite sp idp site does before after → Moves stops (counts_of before) (counts_of after)
  on_site stops Sp all before after sp_goes idp_goes (does, is) =
      let same : after.idp.disk ≡ before.idp.disk = ap (λ (w : Deployment S P). w.idp.disk) is in
      record {
        sp = λ ran. (sp_goes before.sp after.sp does ran).goes;
        idp = λ ran. subst (Goes 0 0 before.idp.disk) (sym same) (goes_nowhere before.idp.disk ran);
        taken = λ ran other.
            let mine = (sp_goes before.sp after.sp does ran).taken in
            let others = ap stops_taken same in
            omega arith;
        restarts = ap (λ (w : Deployment S P). w.tally.restarts) is;
      }
  on_site stops Idp all before after sp_goes idp_goes (does, is) =
      let same : after.sp.disk ≡ before.sp.disk = ap (λ (w : Deployment S P). w.sp.disk) is in
      record {
        sp = λ ran. subst (Goes 0 0 before.sp.disk) (sym same) (goes_nowhere before.sp.disk ran);
        idp = λ ran. (idp_goes before.idp after.idp does ran).goes;
        taken = λ other ran.
            let mine = (idp_goes before.idp after.idp does ran).taken in
            let others = ap stops_taken same in
            omega arith;
        restarts = ap (λ (w : Deployment S P). w.tally.restarts) is;
      }

module _ {S P : Type 0} where
  -- a deployment of which the same is counted
  as_counted : (restarts : ℕ) (before after made : Deployment S P) → after ≡ made → Tells restarts (counts_of before) (counts_of made)
      → Tells restarts (counts_of before) (counts_of after)
  as_counted restarts before after made is tells = subst (λ (w : Deployment S P). Tells restarts (counts_of before) (counts_of w)) (sym is) tells

  hears : (number : ℕ) (sending : Sending) (known : Option Outcome) (before after : Deployment S P) → Hears number sending known before after
      → Tells (stops_behind known) (counts_of before) (counts_of after)
  hears number sending None before after is = as_counted 1 before after _ is (record { sp = refl; idp = refl; counted = omega arith })
  hears number sending (Some Silent) before after is =
      as_counted 0 before after _ is (record { sp = refl; idp = refl; counted = omega arith })
  hears number sending (Some (Sent path bytes)) before after (seen, comes, is) =
      as_counted 0 before after _ is (record { sp = refl; idp = refl; counted = omega arith })

  shown_all : (number : ℕ) (site : Site) (words : List ℕ) (shown : Option (Result (Unit {0}) OpenFault)) (before after : Deployment S P)
      → after ≡ shows number site (option_map (result_words words) shown) before → Tells (stops_behind shown) (counts_of before) (counts_of after)
  shown_all number site words None before after is = as_counted 1 before after _ is (record { sp = refl; idp = refl; counted = omega arith })
  shown_all number site words (Some result) before after is =
      as_counted 0 before after _ is (record { sp = refl; idp = refl; counted = omega arith })

module _ (only : CallsFailWhereSet) {S P : Type 0} (sp : NodeRules S) (idp : NodeRules P) where
  arrives : (number : ℕ) (sending : Sending) (piece : List ℕ) (before after : Deployment S P) → Arrives sp idp number sending piece before after
      → Passes0 (counts_of before) (counts_of after)
  arrives number sending piece before after a =
      let moves : Moves (stops_behind a.known) (counts_of before) (counts_of a.behind) =
      on_site sp idp (stops_behind a.known) sending.request.site (λ _ node. Brings node before.clock sending.conn piece a.known) before a.behind
      (λ old new does ran. brings only sp before.clock sending.conn piece a.known old new does ran)
      (λ old new does ran. brings only idp before.clock sending.conn piece a.known old new does ran) a.brings
      in
      tells_of (stops_behind a.known) 0 (stops_behind a.known) (counts_of before) (counts_of a.behind) (counts_of after) (omega arith) moves
      (hears number sending a.known a.behind after a.hears)

  same : (before after : Deployment S P) → after ≡ before → Passes0 (counts_of before) (counts_of after)
  same before after is = subst (λ (w : Deployment S P). Passes0 (counts_of before) (counts_of w)) (sym is) (passes_not (counts_of before))

  arrives_if_any : (number : ℕ) (sending : Option Sending) (piece : List ℕ) (before after : Deployment S P)
      → ArrivesIfAny sp idp number sending piece before after → Passes0 (counts_of before) (counts_of after)
  arrives_if_any number None piece before after is = same before after is
  arrives_if_any number (Some sending) [] before after is = same before after is
  arrives_if_any number (Some sending) (byte ∷ piece) before after a =
      arrives number sending (byte ∷ piece) before after a

  in_rounds : (number size : ℕ) (first second : Option Sending) (rounds : ℕ) (before after : Deployment S P)
      → Rounds sp idp number size first second rounds before after → Passes0 (counts_of before) (counts_of after)
  in_rounds number size first second zero before after is = same before after is
  in_rounds number size first second (suc rounds) before after (old, between, earlier, one, other) =
      passes_both (counts_of before) (counts_of old) (counts_of after) (in_rounds number size first second rounds before old earlier)
      (passes_both (counts_of old) (counts_of between) (counts_of after)
      (arrives_if_any number first (piece_at (rounds * size) size (bytes_of first)) old between one)
      (arrives_if_any number second (piece_at (rounds * size) size (bytes_of second)) between after other))

  starts : (sending : Option Sending) (before after : Deployment S P) → Starts sp idp sending before after
      → Passes0 (counts_of before) (counts_of after)
  starts None before after is = same before after is
  starts (Some sending) before after does =
      let moves : Moves 0 (counts_of before) (counts_of after) =
      on_site sp idp 0 sending.request.site (λ _ node. Serves node before.clock (Taken sending.conn)) before after
      (λ old new serves ran. serves_start only sp before.clock sending.conn old new serves ran)
      (λ old new serves ran. serves_start only idp before.clock sending.conn old new serves ran) does
      in
      tells_of 0 0 0 (counts_of before) (counts_of after) (counts_of after) (omega arith) moves
      (record { sp = refl; idp = refl; counted = omega arith })

  pub exchanges : (number size : ℕ) (first second : Option Sending) (before after : Deployment S P)
      → Exchanges sp idp number size first second before after → Passes0 (counts_of before) (counts_of after)
  exchanges number size first second before after e =
      passes_both (counts_of before) (counts_of e.one) (counts_of after) (starts first (unconnected before) e.one e.starts)
      (passes_both (counts_of e.one) (counts_of e.both) (counts_of after) (starts second e.one e.both e.starts_other)
      (in_rounds number size first second e.rounds e.both after e.arrive))

  -- a call that a schedule asks for
  obeys : (number : ℕ) (site : Site) (word : List ℕ) (call : (N : Type 0) → NodeRules N → Host N → Result (Unit {0}) OpenFault → Host N → Type 0)
      (before after : Deployment S P)
      → ((known : Option (Result (Unit {0}) OpenFault)) (old new : Host S) → Known sp (call S sp) known old new → old.disk.stopped ≡ false
      → Went (stops_behind known) old.disk new.disk)
      → ((known : Option (Result (Unit {0}) OpenFault)) (old new : Host P) → Known idp (call P idp) known old new → old.disk.stopped ≡ false
      → Went (stops_behind known) old.disk new.disk)
      → Obeys sp idp number site word call before after → Passes0 (counts_of before) (counts_of after)
  obeys number site word call before after sp_goes idp_goes o =
      let moves : Moves (stops_behind o.known) (counts_of before) (counts_of o.behind) =
      on_site sp idp (stops_behind o.known) site (λ N node. Known node (call N node) o.known) before o.behind (sp_goes o.known) (idp_goes o.known)
      o.ends
      in
      tells_of (stops_behind o.known) 0 (stops_behind o.known) (counts_of before) (counts_of o.behind) (counts_of after) (omega arith) moves
      (shown_all number site word o.known o.behind after o.shown)

  -- a restart that is counted
  counts_restart : (world : Deployment S P) → Passes 1 none none (counts_of world) (counts_of (record world { tally = restarted world.tally }))
  counts_restart world = record {
    sp = λ ran. goes_nowhere world.sp.disk ran;
    idp = λ ran. goes_nowhere world.idp.disk ran;
    restarts = λ ran other. omega arith;
  }

  pub restarts_at : (number : ℕ) (site : Site) (before after : Deployment S P)
      → Obeys sp idp number site (codes "restart") (λ _ node. Restarts node) (record before { tally = restarted before.tally }) after
      → Passes 1 none none (counts_of before) (counts_of after)
  restarts_at number site before after o =
      let counted = record before { tally = restarted before.tally } in
      passes_then 1 0 none none none none (counts_of before) (counts_of counted) (counts_of after) (counts_restart before)
      (obeys number site (codes "restart") (λ _ node. Restarts node) counted after (λ known old new is ran. restart_known only sp known old new is ran)
      (λ known old new is ran. restart_known only idp known old new is ran) o)

  pub compacts_at : (number : ℕ) (site : Site) (before after : Deployment S P)
      → Obeys sp idp number site (codes "compact") (λ _ node. Compacts node (min before.clock LAST)) before after
      → Passes0 (counts_of before) (counts_of after)
  compacts_at number site before after o =
      obeys number site (codes "compact") (λ _ node. Compacts node (min before.clock LAST)) before after
      (λ known old new is ran. compaction_known only sp (min before.clock LAST) known old new is ran)
      (λ known old new is ran. compaction_known only idp (min before.clock LAST) known old new is ran) o
