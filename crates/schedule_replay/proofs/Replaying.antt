-- The steps that were done so far, and what was printed of them.
use Rattle.std.specs.Prelude.{◌≡◌, ◌≢◌, ℕ, suc, ◌+◌, Bool, true, false, List, [], ◌++◌, length, take, slice_get, Option, None, Some, Result}
use Rattle.std.proofs.Common.{refl, inl, Err, sym, ap, ◌∙◌, subst, arith, append_assoc}
use Rattle.std.proofs.Math.Seq.{take-append-add}
use Rattle.std.proofs.lemmas.List.{append-nil}
use Rattle.crash_disk.specs.Memory.{DiskInMemory}
use Rattle.post_agent.specs.Agents.{fresh}
use Rattle.post_agent.specs.States.{State}
use Rattle.saml_outside.specs.Sinks.{then_bytes}
use Rattle.schedules.specs.declared.step.Step.{Step}
use Rattle.schedule_replay.specs.declared.fault.ReplayFault.{ReplayFault}
use Rattle.schedule_replay.specs.declared.fault.ReplayFault.TheVariants.{WriteFault, NoMemory}
use Rattle.schedule_replay.specs.declared.tally.Tally.{Tally}
use Rattle.schedule_replay.specs.Counting.{nothing_counted}
use Rattle.schedule_replay.specs.Deployments.{Deployment}
use Rattle.serve_loop.specs.Worlds.{NodeRules}
use Rattle.schedule_replay.specs.Hosts.{Host}
use Rattle.schedule_replay.specs.Runs.{Ends, Ran, alone, beginning, shown}
use Rattle.schedule_replay.specs.Steps.{Does, Replays, is_starved}
use Rattle.schedule_replay.specs.Views.{HasNodes}

-- ---- what was printed

shown_two : (quiet : Bool) (a b : List ℕ) → shown quiet (a ++ b) ≡ shown quiet a ++ shown quiet b
shown_two true a b = refl
shown_two false a b = refl

pub printed_two : (taken : Option (List ℕ)) (a b : List ℕ) → then_bytes (then_bytes taken a) b ≡ then_bytes taken (a ++ b)
printed_two None a b = refl
printed_two (Some front) a b = ap (λ (all : List ℕ). Some all) (append_assoc front a b)

-- the lines of one step more
pub printed_more : (quiet : Bool) (first before after : Option (List ℕ)) (earlier lines : List ℕ) →
    before ≡ then_bytes first (shown quiet earlier) → after ≡ then_bytes before (shown quiet lines) →
    after ≡ then_bytes first (shown quiet (earlier ++ lines))
printed_more quiet first before after earlier lines was is =
    is ∙ ap (λ (t : Option (List ℕ)). then_bytes t (shown quiet lines)) was ∙ printed_two first (shown quiet earlier) (shown quiet lines)
    ∙ ap (λ (text : List ℕ). then_bytes first text) (sym (shown_two quiet earlier lines))

-- and a part of them
pub printed_part : (quiet : Bool) (first before after : Option (List ℕ)) (earlier lines : List ℕ) (n : ℕ) →
    before ≡ then_bytes first (shown quiet earlier) → after ≡ then_bytes before (take n (shown quiet lines)) →
    after ≡ then_bytes first (take (length (shown quiet earlier) + n) (shown quiet (earlier ++ lines)))
printed_part quiet first before after earlier lines n was is =
    is ∙ ap (λ (t : Option (List ℕ)). then_bytes t (take n (shown quiet lines))) was ∙ printed_two first (shown quiet earlier) (take n (shown quiet lines))
    ∙ ap (λ (text : List ℕ). then_bytes first text)
    (sym (ap (take (length (shown quiet earlier) + n)) (shown_two quiet earlier lines) ∙ take-append-add (shown quiet earlier) (shown quiet lines) n))

-- ---- what was done

module _ {S P : Type 0} (sp : NodeRules S) (idp : NodeRules P) where
  -- one step more
  pub one_more : (done : ℕ) (steps : List Step) (step : Step) (first before after : Deployment S P) (earlier : List ℕ) →
      Replays sp idp done steps first earlier before → slice_get steps done ≡ Some step → Does sp idp (done + 1) step before after →
      is_starved after ≡ false → Replays sp idp (done + 1) steps first (earlier ++ after.lines) (record after { lines = [] })
  one_more done steps step first before after earlier were is did fed =
      let next : suc done ≡ done + 1 = omega arith in
      subst (λ (n : ℕ). Replays sp idp n steps first (earlier ++ after.lines) (record after { lines = [] })) next (
        step,
        before,
        after,
        earlier,
        were,
        is,
        subst (λ (n : ℕ). Does sp idp n step before after) (sym next) did,
        fed,
        refl,
        refl,
      )

  -- ---- how it ended

  -- It ended so, and left a deployment that has this where it did not end for want of memory.
  abbrev pub Ended : (steps : List Step) (quiet : Bool) → Deployment S P → (Deployment S P → Type 0) → Result Tally ReplayFault
      → Option (List ℕ) → Option (List ℕ) → Type 0
  Ended steps quiet first left result before after =
      (ran : Ran sp idp steps first) × Ends sp idp ran quiet result before after × (result ≢ Err NoMemory → left ran.last)

  -- What is known where the steps ended early, and why.
  pub ends_early : (steps : List Step) (quiet : Bool) (first now : Deployment S P) (fault : ReplayFault) (before after : Option (List ℕ)) →
      (fault ≡ WriteFault → (done : ℕ) × (text : List ℕ) × (last : Deployment S P) × (n : ℕ) × Replays sp idp done steps first text last
      × HasNodes last now × (after ≡ then_bytes before (take n (shown quiet text)))) →
      (fault ≡ NoMemory → (done : ℕ) × (text : List ℕ) × (last : Deployment S P) × Replays sp idp done steps first text last
      × (after ≡ then_bytes before (shown quiet text))) →
      Ended steps quiet first (λ last. HasNodes last now) (Err fault) before after
  ends_early steps quiet first now WriteFault before after written starved =
      let w = written refl in
      (record { done = w.0; text = w.1; last = w.2; replays = w.4 }, (w.3, inl w.6), λ fed. w.5)
  ends_early steps quiet first now NoMemory before after written starved =
      let s = starved refl in
      (record { done = s.0; text = s.1; last = s.2; replays = s.3 }, s.4, λ fed. absurd (fed refl))

  -- a run that leaves a deployment that has P leaves one that has Q, where each that has P has Q
  pub ends_so : (steps : List Step) (quiet : Bool) (first : Deployment S P) (left then : Deployment S P → Type 0)
      (result : Result Tally ReplayFault) (before after : Option (List ℕ)) → ((last : Deployment S P) → left last → then last) →
      Ended steps quiet first left result before after → Ended steps quiet first then result before after
  ends_so steps quiet first left then result before after so e = (e.0, e.1, λ fed. so e.0.last (e.2 fed))

-- the last line behind the others, or a part of it
pub printed_last : (first before after : Option (List ℕ)) (text line last : List ℕ) →
    before ≡ then_bytes first text → after ≡ then_bytes before line → line ≡ last → after ≡ then_bytes first (text ++ last)
printed_last first before after text line last was is same =
    is ∙ ap (λ (t : Option (List ℕ)). then_bytes t line) was ∙ printed_two first text line ∙ ap (λ (l : List ℕ). then_bytes first (text ++ l)) same

-- nothing was printed yet
pub printed_none : (quiet : Bool) (taken : Option (List ℕ)) → taken ≡ then_bytes taken (shown quiet [])
printed_none true None = refl
printed_none false None = refl
printed_none true (Some front) = ap (λ (all : List ℕ). Some all) (sym (append-nil front))
printed_none false (Some front) = ap (λ (all : List ℕ). Some all) (sym (append-nil front))

-- a deployment whose parts are those at the beginning
pub is_beginning : {S P : Type 0} (world : Deployment S P) (sp : S) (sp_disk : DiskInMemory) (idp : P) (idp_disk : DiskInMemory) →
    world.clock ≡ 0 → world.sp ≡ alone sp sp_disk → world.idp ≡ alone idp idp_disk → world.agents ≡ (λ agent. fresh) →
    world.tally ≡ nothing_counted → world.lines ≡ [] → world ≡ beginning (alone sp sp_disk) (alone idp idp_disk)
is_beginning world sp sp_disk idp idp_disk clock at_sp at_idp agents tally lines =
    let a = record world { clock = 0 } in
    let b = record a { sp = alone sp sp_disk } in
    let c = record b { idp = alone idp idp_disk } in
    let d = record c { agents = λ agent. fresh } in
    let e = record d { tally = nothing_counted } in
    ap (λ (x : ℕ). record world { clock = x }) clock ∙ ap (λ (x : Host _). record a { sp = x }) at_sp
    ∙ ap (λ (x : Host _). record b { idp = x }) at_idp ∙ ap (λ (x : ℕ → State). record c { agents = x }) agents
    ∙ ap (λ (x : Tally). record d { tally = x }) tally ∙ ap (λ (x : List ℕ). record e { lines = x }) lines
