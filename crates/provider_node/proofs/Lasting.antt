-- What was acknowledged is kept from then on, also inside later answers.
use Rattle.std.specs.Prelude.{Contains, is_some, IsSome, Option, None, Some}
use Rattle.std.specs.List.{AllByRecursion}
use Rattle.std.proofs.Common.{◌≡◌, ◌∙◌, List, [], ◌∷◌, ◌++◌, ℕ, refl, sym, subst, ap, arith, ⊎_elim}
use Rattle.crash_disk.specs.Disk.{Image}
use Rattle.conn_table.specs.Table.{Table}
use Rattle.serve_loop.specs.Serving.{LeavesInOrder, LeavesSince, LeftInside}
use Rattle.serve_loop.specs.Turns.{AreTold, Asked, Turn, Run, asked_by}
use Rattle.serve_loop.specs.Worlds.{NodeLeaves, World}
use Rattle.serve_loop.proofs.InOrder.{inside_split, inside_turn}
use Rattle.serve_loop.proofs.Quiet.{Asking, Goes, Quiet, goes}
use Rattle.record_ledger.specs.Rules.{RecordRules}
use Rattle.record_ledger.specs.Ledger.{Held}
use Rattle.record_ledger.specs.Laws.{ImagesHoldRecords}
use Rattle.record_ledger.specs.Runs.{Event}
use Rattle.provider_node.specs.Added.{DrawsAbove}
use Rattle.provider_node.specs.Step.{AnswersBy, Provider, StepLeaves}
use Rattle.provider_node.specs.Histories.{AreBehind, Another, CameFrom, HoldsWhatCame, Includes, IsAtStart, IsProviders}
use Rattle.provider_node.specs.Histories.{This, moments_of}
use Rattle.provider_node.specs.Lasting.{AreInEachSince, AreKeptSince, StayIn}
use Rattle.provider_node.proofs.Histories.{AreMoments, Holds, all_told, asked_goes, begins, moment_at}
use Rattle.provider_node.proofs.Histories.{holds_same, moments_are, step_left}
use Rattle.std.specs.Option.{option_to_list}

-- ---- a history in which more records were added is one in which fewer were

includes_fewer : {R : Type 0} (events : List (Event R)) (r : R) (records : List R)
    → Includes events (r ∷ records) → Includes events records
includes_fewer [] r records includes = elim includes [ ]
includes_fewer (event ∷ past) r records (This includes) = Another includes
includes_fewer (event ∷ past) r records (Another includes) = Another (includes_fewer past r records includes)

module _ {R : Type 0} (rules : RecordRules R) (IsMoment : ℕ → Type 0) where
  came_fewer : (start held : Held R) (r : Option R) (earlier : List R)
      → CameFrom rules IsMoment start (option_to_list r ++ earlier) held → CameFrom rules IsMoment start earlier held
  came_fewer start held None earlier came = came
  came_fewer start held (Some r) earlier came = record {
    events = came.events;
    leads = came.leads;
    includes = includes_fewer came.events r earlier came.includes;
    at = came.at;
  }

came_behind : {Setup R : Type 0} (rules : RecordRules R) (Answers : AnswersBy Setup R) (IsMoment : ℕ → Type 0)
    (start held : Held R) (asked : List (Asked (Provider Setup R))) (earlier records : List R) → AreBehind rules Answers
    asked earlier records → CameFrom rules IsMoment start records held → CameFrom rules IsMoment start earlier held
came_behind rules Answers IsMoment start held [] earlier records same came =
    subst (λ (l : List _). CameFrom rules IsMoment start l held) same came
came_behind rules Answers IsMoment start held (one ∷ others) earlier records (r, stands, is) came = came_fewer rules
    IsMoment start held r earlier (subst (λ (l : List _). CameFrom rules IsMoment start l held) is came)

-- ---- from each point on

module _ {Setup R : Type 0} (rules : RecordRules R) (Answers : AnswersBy Setup R)
    (law : ImagesHoldRecords rules) (numbers : DrawsAbove rules Answers) (IsMoment : ℕ → Type 0)
    (first : World (Provider Setup R)) (at : IsAtStart rules first) (tells : IsSome first.disk) where
  abbrev Known : World (Provider Setup R) → List R → Type 0
  Known w records = Holds rules IsMoment first.node.ledger.held w records

  -- a world in which the provider and the disk are the same
  stays : (w later : World (Provider Setup R)) (records : List R)
      → later.node ≡ w.node → later.disk ≡ w.disk → Known w records → Known later records
  stays w later records node disk holds =
      holds_same rules Answers law numbers IsMoment first.node.ledger.held w later records node disk holds

  abbrev Behind : List R → Turn (Provider Setup R) → World (Provider Setup R) → Type 0
  Behind earlier turn later =
      (records : List R) × AreBehind rules Answers (asked_by turn) earlier records × Known later records

  passes : (earlier : List R) (turn : Turn (Provider Setup R)) (new : Table) (w later : World (Provider Setup R))
      → AllByRecursion (λ (one : Asked (Provider Setup R)). IsSome one.disk) (asked_by turn)
      → AllByRecursion (λ (one : Asked (Provider Setup R)). IsMoment one.now) (asked_by turn)
      → Goes (IsProviders rules Answers) w new later turn → Known w earlier → Behind earlier turn later
  passes earlier turn new w later told moment (Quiet none same) holds = (
    earlier,
    subst (λ (l : List (Asked (Provider Setup R))). AreBehind rules Answers l earlier earlier) (sym none) refl,
    stays w later earlier
        (ap (λ (x : World (Provider Setup R)). x.node) same) (ap (λ (x : World (Provider Setup R)). x.disk) same) holds,
  )
  passes earlier turn new w later told moment (Asking piece one old answers) holds =
      let (r, stands, now_holds) = asked_goes rules Answers
      law numbers IsMoment first.node.ledger.held one w answers.told earlier told.0 moment.0 holds answers.asks in (
        option_to_list r ++ earlier,
        (r, stands, refl),
        stays answers.told later (option_to_list r ++ earlier) (ap (λ (x : World (Provider Setup R)). x.node)
            answers.sends.same) (ap (λ (x : World (Provider Setup R)). x.disk) answers.sends.same) now_holds,
      )

  module _ (left : ℕ → Image → Type 0) where
    -- what a crash inside the answers to these requests leaves has these records
    abbrev HaveInside : List R → List (Asked (Provider Setup R)) → Type 0
    HaveInside records later = (image : Image) → LeftInside (StepLeaves rules Answers) later image
        → HoldsWhatCame rules IsMoment first.node.ledger.held records image

    since_point : (now : World (Provider Setup R)) (records : List R) (later : List (Asked (Provider Setup R)))
        → Known now records → HaveInside records later → LeavesSince (StepLeaves rules Answers) left now later
        → AreInEachSince rules Answers IsMoment left first now.moment records
    since_point now records later holds inside since image might =
        ⊎_elim (holds.disk image) (inside image) (since.only image might)

    -- what a crash inside an answer leaves, at such a moment
    abbrev LeavesAt : NodeLeaves (Provider Setup R)
    LeavesAt old disk request now image = IsMoment now × StepLeaves rules Answers old disk request now image

    -- the records that were acknowledged, what is known then, and that they stay, whatever requests come later
    abbrev Follows : (turns : List (Turn (Provider Setup R))) (kept : Table) (now : World (Provider Setup R))
        → Run (IsProviders rules Answers) first turns kept now → Type 0
    Follows turns kept now run = (records : List R) × Known now records × ((later : List (Asked (Provider Setup R)))
        → HaveInside records later → LeavesInOrder (IsProviders rules Answers) (StepLeaves rules Answers)
        left first turns kept now run later → StayIn rules Answers IsMoment left first turns kept now run records)

    follows : (turns : List (Turn (Provider Setup R)))
        (kept : Table) (now : World (Provider Setup R)) (run : Run (IsProviders rules Answers) first turns kept now)
        → AreTold turns → AreMoments IsMoment turns → Follows turns kept now run
    follows [] kept now run told moments =
        let holds = stays first now [] (ap (λ (x : World (Provider Setup R)). x.node) run.1)
        (ap (λ (x : World (Provider Setup R)). x.disk) run.1) (begins rules IsMoment first at) in
        ([], holds, λ later inside since. (refl, since_point now [] later holds inside since))
    follows (turn ∷ past) kept now (old, before, given, did, next, does) told moments =
        let (earlier, was, stay) = follows past old before did told.1 moments.1 in
        let disk = ap (λ (x : World (Provider Setup R)). x.disk) next.same in
        let found = stays before given earlier (ap (λ (x : World (Provider Setup R)). x.node) next.same) disk was in
        let (records, behind, holds) = passes earlier turn kept given now told.0 moments.0
        (goes (IsProviders rules Answers) given kept now turn old does) found in
        let tells_now : IsSome given.disk = ap is_some disk
        ∙ (all_told rules Answers first before past old tells did).1 in
        let in_turn : HaveInside earlier (asked_by turn) = λ image among. let (asked, then, asks, might) = inside_turn
        (IsProviders rules Answers) LeavesAt turn old given kept now does image
        (among.0, among.1, (moment_at IsMoment (asked_by turn) among.0 moments.0 among.1, among.2)) in
        step_left rules Answers law numbers IsMoment first.node.ledger.held
        earlier given tells_now asks.answers.reads found asked.now might.0 asked.request image might.1 in (
          records,
          holds,
          λ later inside in_order.
              let fewer : HaveInside earlier later = λ image there. let (held, is, came) = inside image there in (
                held,
                is,
                came_behind rules Answers IsMoment first.node.ledger.held held
                    (asked_by turn) earlier records behind came,
              ) in (
                earlier,
                behind,
                since_point now records later holds inside in_order.0,
                stay (asked_by turn ++ later) (λ image either. ⊎_elim (in_turn image) (fewer image)
                    (inside_split (StepLeaves rules Answers) (asked_by turn) later image either)) in_order.1,
              ),
        )

module _ {Setup R : Type 0} (rules : RecordRules R)
    (Answers : AnswersBy Setup R) (law : ImagesHoldRecords rules) (numbers : DrawsAbove rules Answers)
    (first : World (Provider Setup R)) (at : IsAtStart rules first) (tells : IsSome first.disk) where
  pub kept_since : (left : ℕ → Image → Type 0) (turns : List (Turn (Provider Setup R)))
      (kept : Table) (last : World (Provider Setup R)) (run : Run (IsProviders rules Answers) first turns kept last)
      → LeavesInOrder (IsProviders rules Answers) (StepLeaves rules Answers) left first turns kept last run []
      → AreKeptSince rules Answers left first turns kept last run
  kept_since left turns kept last run in_order = let IsMoment : ℕ → Type 0 = Contains (moments_of turns) in
      let (records, holds, stay) = follows rules Answers law numbers IsMoment first at tells left turns kept last run
      (all_told rules Answers first last turns kept tells run).0 (moments_are IsMoment turns (λ now there. there)) in
      (records, stay [] (λ image found. absurd (omega (arith, found.1.1))) in_order)
