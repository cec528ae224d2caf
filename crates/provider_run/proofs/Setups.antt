-- A provider serves by what it was set up with, at each request of a run.
use Rattle.std.specs.Prelude.{Contains, Option}
use Rattle.std.proofs.Common.{◌≡◌, ⊎_elim, ℕ, zero, suc, List, [], ◌∷◌, sym, subst, ap, ◌∙◌, arith}
use Rattle.std.proofs.lemmas.List.Elements.{Contains-append_cases}
use Rattle.crash_disk.specs.Counts.{Rose}
use Rattle.crash_disk.specs.Disk.{DiskState}
use Rattle.conn_table.specs.Table.{Table}
use Rattle.http_wire.specs.declared.answer.Answer.{Answer}
use Rattle.http_wire.specs.Requests.{Request}
use Rattle.serve_loop.specs.Turns.{Asked, Turn, asked_in, asked_by, Run}
use Rattle.serve_loop.specs.Worlds.{World}
use Rattle.serve_loop.proofs.Quiet.{Asking, Goes, Quiet, goes}
use Rattle.record_ledger.specs.Rules.{RecordRules}
use Rattle.record_ledger.specs.Ledger.{Held}
use Rattle.provider_node.specs.Histories.{IsProviders}
use Rattle.provider_node.specs.Step as any
use Rattle.provider_node.specs.Step.{AnswersBy, Provider, Serves, Steps}

module _ {Setup R : Type 0} (rules : RecordRules R) (Answers : AnswersBy Setup R) where
  -- ---- one request

  module _ (found : Held R)
      (request : Request) (now : ℕ) (Risen : Type 0) (answer : Answer) (old new : Provider Setup R) where
    serves_same : Serves rules Answers found request now Risen answer old new → new.setup ≡ old.setup
    serves_same (any.Plain answers whole) = whole.setup
    serves_same (any.Recorded r answers place whole) = whole.setup
    serves_same (any.RecordedAfterCompaction held r room answers place whole) = whole.setup
    serves_same (any.NoPlace held r another room answers still is whole) = whole.setup
    serves_same (any.Failed wanted other wants risen is broken) = broken.setup
    serves_same (any.Starved held which is whole) = whole.setup

  module _ (old : Provider Setup R) (disk : Option DiskState)
      (request : Request) (now : ℕ) (Risen : Type 0) (answer : Answer) (new : Provider Setup R) where
    step_same : Steps rules Answers old disk request now Risen answer new → new.setup ≡ old.setup
    step_same (any.WithLedger whole serves) = serves_same old.ledger.held request now Risen answer old new serves
    step_same (any.WithOpened found broken is serves) = serves_same found request now Risen answer old new serves
    step_same (any.NotOpened was risen is broken) = broken.setup
    step_same (any.Strange was none is broken) = broken.setup
    step_same (any.StarvedAtOpening was is broken) = broken.setup

  -- ---- one turn

  -- what a world is served by
  abbrev setup_in : World (Provider Setup R) → Setup
  setup_in w = w.node.setup

  turn_same : (turn : Turn (Provider Setup R)) (new : Table) (w later : World (Provider Setup R))
      → Goes (IsProviders rules Answers) w new later turn → setup_in later ≡ setup_in w
  turn_same turn new w later (Quiet none same) = ap setup_in same
  turn_same turn new w later (Asking piece one old answers) =
      ap setup_in answers.sends.same ∙ step_same w.node w.disk one.request one.now
      (Rose w.disk_faults answers.told.disk_faults) one.answer answers.told.node answers.asks.answers.does.step

  -- the one that is asked is asked by
  asked_here : (turn : Turn (Provider Setup R)) (new : Table) (w later : World (Provider Setup R))
      (asked : Asked (Provider Setup R)) → Goes (IsProviders rules Answers) w new later turn
      → Contains (asked_by turn) asked → asked.node.setup ≡ setup_in w
  asked_here turn new w later asked (Quiet none same) there =
      absurd (omega (arith, (subst (λ (l : List (Asked (Provider Setup R))). Contains l asked) none there).1))
  asked_here turn new w later asked (Asking piece one old answers) (zero, within, is) =
      ap (λ (a : Asked (Provider Setup R)). a.node.setup) (sym is)
      ∙ ap (λ (p : Provider Setup R). p.setup) answers.asks.node
  asked_here turn new w later asked (Asking piece one old answers) (suc k, within, is) = absurd (omega arith)

  -- ---- all turns

  run_same : (first last : World (Provider Setup R)) (turns : List (Turn (Provider Setup R))) (kept : Table)
      → Run (IsProviders rules Answers) first turns kept last → setup_in last ≡ setup_in first
  run_same first last [] kept run = ap setup_in run.1
  run_same first last (turn ∷ past) kept (old, before, given, run, next, does) =
      turn_same turn kept given last (goes (IsProviders rules Answers) given kept last turn old does)
      ∙ ap setup_in next.same ∙ run_same first before past old run

  -- at each request of a run the provider is served by what it began with
  pub asked_same : (first last : World (Provider Setup R)) (turns : List (Turn (Provider Setup R)))
      (kept : Table) (asked : Asked (Provider Setup R)) → Run (IsProviders rules Answers) first turns kept last
      → Contains (asked_in turns) asked → asked.node.setup ≡ first.node.setup
  asked_same first last [] kept asked run (k, within, is) = absurd (omega arith)
  asked_same first last (turn ∷ past) kept asked (old, before, given, run, next, does) there =
      ⊎_elim (asked_same first before past old asked run) (λ here. asked_here turn kept
      given last asked (goes (IsProviders rules Answers) given kept last turn old does) here ∙ ap setup_in next.same
      ∙ run_same first before past old run) (Contains-append_cases (asked_in past) (asked_by turn) asked there)
