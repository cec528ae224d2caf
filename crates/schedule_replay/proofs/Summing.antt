-- What was set in all steps of a replay, and what came of it.
use Rattle.std.specs.Prelude.{◌≡◌, ℕ, zero, suc, ◌+◌, Bool, true, false, ◌||◌, List, [], take, count_by, slice_get, Option, None, Some}
use Rattle.std.proofs.Common.{refl, sym, ◌∙◌, ap, subst, arith}
use Rattle.std.proofs.Math.Seq.{take-suc}
use Rattle.std.proofs.lemmas.List.Sums.{sum_by_push}
use Rattle.std.proofs.lemmas.Option.{get_or_from_slice_get, slice_get_within}
use Rattle.crash_disk.specs.Memory.{due}
use Rattle.post_agent.specs.declared.site.Site.{Site}
use Rattle.post_agent.specs.declared.site.Site.TheVariants.{Sp, Idp}
use Rattle.schedules.specs.declared.step.Step.{Step}
use Rattle.schedules.specs.declared.step.Step.TheVariants as steps
use Rattle.schedule_replay.specs.declared.sending.Sending.{Sending}
use Rattle.schedule_replay.specs.Deployments.{Deployment}
use Rattle.schedule_replay.specs.Faults.{DisksRunOn, FailuresAreSet, FaultsAreSetOrOfStops, IsRunning, RestartsAreAskedOrSet, StopsAreSet, asks_restart, disk_of, failures_set, faults_in, is_node, restarts_asked, sets_failure, sets_stop, stops_set}
use Rattle.serve_loop.specs.Worlds.{NodeRules}
use Rattle.schedule_replay.specs.Steps.{Does, Replays, armed, is_starved, pick_number, saying_none}
use Rattle.schedule_replay.proofs.Calling.{flag}
use Rattle.schedule_replay.proofs.Going.{Goes, goes_failing, goes_faults, goes_nowhere, goes_stopping}
use Rattle.schedule_replay.proofs.Passing.{CallsFailWhereSet, Counts, Passes, Passes0, compacts_at, counts_of, exchanges, none, passes_not, passes_then, restarts_at}

-- ---- how many steps there are of a kind

counted_more : (p : Step → Bool) (done : ℕ) (all : List Step) (step : Step) → slice_get all done ≡ Some step
    → count_by p (take (suc done) all) ≡ count_by p (take done all) + flag (p step)
counted_more p done all step is =
    let longer = take-suc all done step (slice_get_within all done step is) in
    let its = get_or_from_slice_get all done step step is in
    ap (count_by p) longer ∙ sum_by_push (λ s. flag (p s)) (take done all) _ ∙ ap (λ s. count_by p (take done all) + flag (p s)) its

-- as many were set
goes_as : {f s g t : ℕ} (old new : _) → f ≡ g → s ≡ t → Goes f s old new → Goes g t old new
goes_as {s = s} {g = g} old new more most goes = subst (λ n. Goes g n old new) most (subst (λ n. Goes n s old new) more goes)

passes_as : (a b : ℕ) (f s g t : Site → ℕ) (old new : Counts) → a ≡ b → ((site : Site) → f site ≡ g site) → ((site : Site) → s site ≡ t site)
    → Passes a f s old new → Passes b g t old new
passes_as a b f s g t old new asked more most passes = record {
  sp = λ ran. goes_as old.sp new.sp (more Sp) (most Sp) (passes.sp ran);
  idp = λ ran. goes_as old.idp new.idp (more Idp) (most Idp) (passes.idp ran);
  restarts = λ ran other. let counted = passes.restarts ran other in omega arith;
}

-- ---- a step

module _ {S P : Type 0} where
  arms_failing : (number call : ℕ) (node : Site) (before : Deployment S P)
      → Passes 0 (λ site. flag (is_node site node)) none (counts_of before)
      (counts_of (armed number node (λ disk. record disk { failing = call }) before))
  arms_failing number call Sp before = record {
    sp = λ ran. goes_failing call before.sp.disk ran;
    idp = λ ran. goes_nowhere before.idp.disk ran;
    restarts = λ ran other. omega arith;
  }
  arms_failing number call Idp before = record {
    sp = λ ran. goes_nowhere before.sp.disk ran;
    idp = λ ran. goes_failing call before.idp.disk ran;
    restarts = λ ran other. omega arith;
  }

  arms_stopping : (number call pick : ℕ) (node : Site) (before : Deployment S P)
      → Passes 0 none (λ site. flag (is_node site node)) (counts_of before)
      (counts_of (armed number node (λ disk. record disk { stopping = call; pick = pick }) before))
  arms_stopping number call pick Sp before = record {
    sp = λ ran. goes_stopping call pick before.sp.disk ran;
    idp = λ ran. goes_nowhere before.idp.disk ran;
    restarts = λ ran other. omega arith;
  }
  arms_stopping number call pick Idp before = record {
    sp = λ ran. goes_nowhere before.sp.disk ran;
    idp = λ ran. goes_stopping call pick before.idp.disk ran;
    restarts = λ ran other. omega arith;
  }

  -- what is said is not counted
  not_counted : (number : ℕ) (request : Option Sending) (before : Deployment S P) → counts_of (saying_none number request before) ≡ counts_of before
  not_counted number None before = refl
  not_counted number (Some request) before = refl

module _ (only : CallsFailWhereSet) {S P : Type 0} (sp : NodeRules S) (idp : NodeRules P) where
  does : (number : ℕ) (step : Step) (before after : Deployment S P) → Does sp idp number step before after
      → Passes (flag (asks_restart step)) (λ site. flag (sets_failure site step)) (λ site. flag (sets_stop site step)) (counts_of before)
      (counts_of after)
  does number (steps.Now moment) before after is =
      subst (λ (w : Deployment S P). Passes0 (counts_of before) (counts_of w)) (sym is) (passes_not (counts_of before))
  does number (steps.Visit agent path) before after did = exchanges only sp idp number _ _ _ _ after did
  does number (steps.Submit agent) before after did =
      subst (λ (c : Counts). Passes0 c (counts_of after)) (not_counted number _ before) (exchanges only sp idp number _ _ _ _ after did)
  does number (steps.Lose agent) before after did =
      subst (λ (c : Counts). Passes0 c (counts_of after)) (not_counted number _ before) (exchanges only sp idp number _ _ _ _ after did)
  does number (steps.Login agent user password) before after did =
      subst (λ (c : Counts). Passes0 c (counts_of after)) (not_counted number _ before) (exchanges only sp idp number _ _ _ _ after did)
  does number (steps.Follow agent) before after did =
      subst (λ (c : Counts). Passes0 c (counts_of after)) (not_counted number _ before) (exchanges only sp idp number _ _ _ _ after did)
  does number (steps.Leave agent site) before after did = exchanges only sp idp number _ _ _ _ after did
  does number (steps.Pair first second size) before after did =
      subst (λ (c : Counts). Passes0 c (counts_of after)) (not_counted number _ _ ∙ not_counted number _ before)
      (exchanges only sp idp number _ _ _ _ after did)
  does number (steps.Fresh agent) before after did =
      subst (λ (w : Deployment S P). Passes0 (counts_of before) (counts_of w)) (sym did.1) (passes_not (counts_of before))
  does number (steps.Restart site) before after did = restarts_at only sp idp number site before after did
  does number (steps.Crash site call pick) before after is =
      subst (λ (w : Deployment S P). Passes 0 none (λ node. flag (is_node node site)) (counts_of before) (counts_of w)) (sym is)
      (arms_stopping number call (pick_number pick) site before)
  does number (steps.Fail site call) before after is =
      subst (λ (w : Deployment S P). Passes 0 (λ node. flag (is_node node site)) none (counts_of before) (counts_of w)) (sym is)
      (arms_failing number call site before)
  does number (steps.Compact site) before after did = compacts_at only sp idp number site before after did

  -- ---- all steps

  replays : (done : ℕ) (all : List Step) (first : Deployment S P) (text : List ℕ) (last : Deployment S P)
      → Replays sp idp done all first text last
      → Passes (restarts_asked done all) (λ site. failures_set site done all) (λ site. stops_set site done all) (counts_of first) (counts_of last)
  replays zero all first text last (nothing, is) =
      subst (λ (w : Deployment S P). Passes0 (counts_of first) (counts_of w)) (sym is) (passes_not (counts_of first))
  replays (suc done) all first text last (step, before, after, earlier, were, is, did, fed, same, printed) =
      let past = replays done all first earlier before were in
      let now = does (suc done) step before after did in
      let both = passes_then _ _ _ _ _ _ (counts_of first) (counts_of before) (counts_of after) past now in
      subst
      (λ (w : Deployment S P).
      Passes (restarts_asked (suc done) all) (λ site. failures_set site (suc done) all) (λ site. stops_set site (suc done) all) (counts_of first)
      (counts_of w))
      (sym same)
      (passes_as _ _ _ _ _ _ (counts_of first) (counts_of after) (sym (counted_more asks_restart done all step is))
      (λ site. sym (counted_more (sets_failure site) done all step is)) (λ site. sym (counted_more (sets_stop site) done all step is)) both)

  -- ---- at one node

  at_node : (a : ℕ) (f s : Site → ℕ) (site : Site) (before after : Deployment S P) → Passes a f s (counts_of before) (counts_of after)
      → IsRunning site before → Goes (f site) (s site) (disk_of site before) (disk_of site after)
  at_node a f s Sp before after passes ran = passes.sp ran
  at_node a f s Idp before after passes ran = passes.idp ran

  goes_at : (done : ℕ) (all : List Step) (first : Deployment S P) (text : List ℕ) (last : Deployment S P)
      → Replays sp idp done all first text last → (site : Site) → IsRunning site first
      → Goes (failures_set site done all) (stops_set site done all) (disk_of site first) (disk_of site last)
  goes_at done all first text last run site ran = at_node _ _ _ site first last (replays done all first text last run) ran

  not_starved : (a b : Bool) → (a || b) ≡ false → (a ≡ false) × (b ≡ false)
  not_starved true b is = absurd (cc)
  not_starved false b is = (refl, is)

  fed_at : (site : Site) (after last : Deployment S P) → is_starved after ≡ false → last ≡ record after { lines = [] }
      → ((disk_of site after).starved ≡ false) × (disk_of site last ≡ disk_of site after)
  fed_at Sp after last fed same =
      ((not_starved after.sp.disk.starved after.idp.disk.starved fed).0, ap (λ (w : Deployment S P). w.sp.disk) same)
  fed_at Idp after last fed same =
      ((not_starved after.sp.disk.starved after.idp.disk.starved fed).1, ap (λ (w : Deployment S P). w.idp.disk) same)

  -- ---- the laws

  pub disks_run_on : DisksRunOn sp idp
  disks_run_on done all first text last run site ran = (goes_at done all first text last run site ran).runs

  pub stops_are_set : StopsAreSet sp idp
  stops_are_set done all first text last run site ran = (goes_at done all first text last run site ran).to_come

  pub restarts_are_asked_or_set : RestartsAreAskedOrSet sp idp
  restarts_are_asked_or_set done all first text last run ran other =
      let passes = replays done all first text last run in
      let counted = passes.restarts ran other in
      let at_sp = (passes.sp ran).to_come in
      let at_idp = (passes.idp other).to_come in
      omega arith

  pub failures_are_set : FailuresAreSet sp idp
  failures_are_set zero all first text last (nothing, is) site ran unset none_set =
      let same = ap (λ (w : Deployment S P). faults_in (disk_of site w)) is in omega arith
  failures_are_set (suc done) all first text last (step, before, after, earlier, were, is, did, fed, same, printed) site ran unset none_set =
      let goes = goes_at (suc done) all first text last (step, before, after, earlier, were, is, did, fed, same, printed) site ran in
      let its = fed_at site after last fed same in
      let unstopped = ap due unset in
      let to_come = goes.to_come in
      goes.fails (ap (λ d. d.starved) its.1 ∙ its.0) (omega arith)

  pub faults_are_set_or_of_stops : FaultsAreSetOrOfStops sp idp
  faults_are_set_or_of_stops zero all first text last (nothing, is) site ran =
      let same = ap (λ (w : Deployment S P). faults_in (disk_of site w)) is in omega arith
  faults_are_set_or_of_stops (suc done) all first text last (step, before, after, earlier, were, is, did, fed, same, printed) site ran =
      let past = faults_are_set_or_of_stops done all first earlier before were site ran in
      let runs = disks_run_on done all first earlier before were site ran in
      let goes = at_node _ _ _ site before after (does (suc done) step before after did) runs in
      let its = fed_at site after last fed same in
      let faults = goes_faults _ _ (disk_of site before) (disk_of site after) goes its.0 in
      let more = counted_more (sets_failure site) done all step is in
      let left = ap faults_in its.1 in
      omega arith
