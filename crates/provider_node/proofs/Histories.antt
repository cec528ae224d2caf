-- The histories of what a provider's disk may hold, from turn to turn.
use Rattle.std.specs.Prelude.{Contains, map, IfSome, IsSome, Option, None, Some, Ok}
use Rattle.std.proofs.Common.{◌≡◌, ◌⊎◌, ⊎_elim, inl, inr, ℕ, zero, suc, ◌≤◌, List, [], ◌∷◌, ◌++◌, sym, subst, refl, ap}
use Rattle.std.proofs.Common.{◌∙◌, true, false, append_assoc, arith}
use Rattle.std.proofs.lemmas.List.{append-nil}
use Rattle.std.proofs.lemmas.List.Elements.{All-from_recursion, Contains-append_left, Contains-append_right}
use Rattle.std.specs.List.{AllByRecursion}
use Rattle.crash_disk.specs.Disk.{Image, DiskState, MayLeave, image_of}
use Rattle.crash_disk.specs.Counts.{Rose}
use Rattle.crash_disk.specs.Moments.{Leaves}
use Rattle.conn_table.specs.Table.{Table}
use Rattle.http_wire.specs.Requests.{Request}
use Rattle.ledger_rules.specs.Numbers.{Drawn}
use Rattle.serve_loop.specs.Worlds.{World}
use Rattle.serve_loop.specs.Turns.{AreTold, Asked, Asks, Turn, Run, asked_by}
use Rattle.serve_loop.proofs.Quiet.{Asking, Goes as GoesOn, IsButTheLink, Quiet, goes}
use Rattle.record_ledger.specs.Rules.{RecordRules}
use Rattle.record_ledger.specs.Ledger.{Held, LeftByOpening, held_with, ledger_in, migrated, next_number, taken}
use Rattle.record_ledger.specs.Compacting.{Compacts}
use Rattle.record_ledger.specs.Laws.{ImagesHoldRecords}
use Rattle.record_ledger.specs.Runs as events
use Rattle.record_ledger.specs.Runs.{Event, Adds, Opens, Leads}
use Rattle.record_ledger.proofs.Records.{record_there}
use Rattle.provider_node.specs.declared.codes.TheConstants.{DISK_FAULT, FOREIGN, FULL, NO_MEMORY}
use Rattle.serve_loop.proofs.Telling.{goes_on_reading, goes_on_telling}
use Rattle.provider_node.specs.Node.{provider_rules}
use Rattle.provider_node.specs.Added.{DrawsAbove, IsAbove}
use Rattle.provider_node.specs.Histories.{Another, AreAcknowledged, AreBehind, AreKept, AreKeptSo, CameFrom}
use Rattle.provider_node.specs.Histories.{CompactsWhere, Includes, moments_of, ForAnswer, ForCode}
use Rattle.provider_node.specs.Histories.{HoldsWhatCame, HoldsWhatCameSo, IsAtStart, IsProviders, Nothing, Stands}
use Rattle.provider_node.specs.Histories.{This}
use Rattle.provider_node.specs.Causes.{Finds, IsAnsweredOver}
use Rattle.provider_node.specs.Calls.{CompactingLeaves}
use Rattle.provider_node.specs.Node as node
use Rattle.provider_node.specs.Node.{CompactionLeaves}
use Rattle.provider_node.specs.Step as steps
use Rattle.provider_node.specs.Step.{AnswersBy, Ledger, Owns, Provider, IsWhole, MakesRoom, OwnsDisk, Serves}
use Rattle.provider_node.specs.Step.{ServingLeaves, StepLeaves, Steps}
use Rattle.provider_node.proofs.Serving.{settled}
use Rattle.std.specs.Option.{option_to_list}

-- ---- what came of a ledger

pub above_of_each : {R : Type 0} (rules : RecordRules R) (held : Held R) (made r : R) → made ≡ r
    → AllByRecursion (λ (d : Drawn). next_number rules held ≤ d.number) (rules.drawn made) → IsAbove rules held r
above_of_each rules held made r same each =
    subst (IsAbove rules held) same (All-from_recursion (λ (d : Drawn). next_number rules held ≤ d.number) _ each)

module _ {R : Type 0} (rules : RecordRules R) (IsMoment : ℕ → Type 0) (start : Held R) where
  came_by : {records : List R} {held : Held R} (events : List (Event R)) → Leads rules start events held
      → Includes events records → CompactsWhere IsMoment events → CameFrom rules IsMoment start records held
  came_by events leads includes at = record { events = events; leads = leads; includes = includes; at = at }

  pub added : (records : List R) (held : Held R) (r : R) → rules.is_record held.records r ≡ true → IsAbove rules held r
      → CameFrom rules IsMoment start records held → CameFrom rules IsMoment start (r ∷ records) (held_with r held)
  added records held r is above came =
      came_by (Adds r ∷ came.events) (held, came.leads, is, above, refl) (This came.includes) came.at

  added_unknown : (records : List R) (held : Held R) (r : R) → rules.is_record held.records r ≡ true → IsAbove rules
      held r → CameFrom rules IsMoment start records held → CameFrom rules IsMoment start records (held_with r held)
  added_unknown records held r is above came =
      came_by (Adds r ∷ came.events) (held, came.leads, is, above, refl) (Another came.includes) came.at

  compacted : (records : List R) (now : ℕ) (found held : Held R) → IsMoment now → Compacts rules now found held
      → CameFrom rules IsMoment start records found → CameFrom rules IsMoment start records held
  compacted records now found held moment made came =
      came_by (events.Compacts now ∷ came.events) (found, came.leads, made) (Another came.includes) (moment, came.at)

  reopened : (records : List R) (before found : Held R) → migrated before ≡ found
      → CameFrom rules IsMoment start records before → CameFrom rules IsMoment start records found
  reopened records before found is came =
      came_by (Opens ∷ came.events) (before, came.leads, sym is) (Another came.includes) came.at

  -- what is opened of an image
  pub opened_from : (records : List R) (image : Image) (found : Held R) → HoldsWhatCame rules IsMoment
      start records image → taken (ledger_in rules image) ≡ Ok found → CameFrom rules IsMoment start records found
  opened_from records image found (before, is, came) opens = reopened records before found
      (let same : taken (Ok (Some before)) ≡ Ok found = sym (ap taken is) ∙ opens in cc) came

  -- what is opened of a disk that tells
  found_told : (records : List R) (told : Option DiskState) (found : Held R) → IsSome told → IfSome told (λ d. MayLeave
      d (image_of d)) → ((image : Image) → Leaves told image → HoldsWhatCame rules IsMoment start records image)
      → IfSome told (λ d. taken (ledger_in rules (image_of d)) ≡ Ok found) → CameFrom rules IsMoment start records found
  found_told records None found tells reads each is = cc
  found_told records (Some d) found tells reads each is =
      opened_from records (image_of d) found (each (image_of d) reads) is

  -- what a crash leaves inside an opening
  pub opening_left : (records : List R) (told : Option DiskState) (image : Image) → IsSome told
      → ((i : Image) → Leaves told i → HoldsWhatCame rules IsMoment start records i) → LeftByOpening rules told image
      → HoldsWhatCame rules IsMoment start records image
  opening_left records None image tells each left = cc
  opening_left records (Some d) image tells each (first, may, inl same) =
      let (held, is, came) = each first may in (held, same ∙ is, came)
  opening_left records (Some d) image tells each (first, may, inr (found, opens, is)) =
      (found, is, opened_from records first found (each first may) opens)

-- ---- the moments of turns

abbrev pub AreMoments : {N : Type 0} (IsMoment : ℕ → Type 0) → List (Turn N) → Type 0
AreMoments IsMoment [] = Unit {0}
AreMoments IsMoment (turn ∷ past) = AllByRecursion (λ one. IsMoment one.now) (asked_by turn) × AreMoments IsMoment past

each_moment : {N : Type 0} (IsMoment : ℕ → Type 0) (asked : List (Asked N)) → ((now : ℕ)
    → Contains (map (λ one. one.now) asked) now → IsMoment now) → AllByRecursion (λ one. IsMoment one.now) asked
each_moment IsMoment [] is = tt
each_moment IsMoment (one ∷ others) is = (
  is one.now (0, omega arith, refl),
  each_moment IsMoment others (λ now there. is now (suc there.0, omega (arith, there.1), there.2)),
)

pub moments_are : {N : Type 0} (IsMoment : ℕ → Type 0) (turns : List (Turn N))
    → ((now : ℕ) → Contains (moments_of turns) now → IsMoment now) → AreMoments IsMoment turns
moments_are IsMoment [] is = tt
moments_are IsMoment (turn ∷ past) is = (
  each_moment IsMoment (asked_by turn)
      (λ now there. is now (Contains-append_left (map (λ one. one.now) (asked_by turn)) (moments_of past) now there)),
  moments_are IsMoment past
      (λ now there. is now (Contains-append_right (map (λ one. one.now) (asked_by turn)) (moments_of past) now there)),
)

pub moment_at : {N : Type 0} (IsMoment : ℕ → Type 0) (asked : List (Asked N)) (one : Asked N)
    → AllByRecursion (λ (x : Asked N). IsMoment x.now) asked → Contains asked one → IsMoment one.now
moment_at IsMoment [] one all there = absurd (omega (arith, there.1))
moment_at {N} IsMoment (x ∷ xs) one all (zero, less, is) = subst (λ (a : Asked N). IsMoment a.now) is all.0
moment_at IsMoment (x ∷ xs) one all (suc k, less, is) = moment_at IsMoment xs one all.1 (k, omega (arith, less), is)

-- ---- what is known of a provider, its disk and the records that were acknowledged

pub record Holds {Setup R : Type 0} (rules : RecordRules R)
    (IsMoment : ℕ → Type 0) (start : Held R) (w : World (Provider Setup R)) (records : List R) : Type 0 where
  pub own : OwnsDisk rules w.node w.disk
  pub disk : (image : Image) → Leaves w.disk image → HoldsWhatCame rules IsMoment start records image

module _ {Setup R : Type 0} (rules : RecordRules R) (Answers : AnswersBy Setup R)
    (law : ImagesHoldRecords rules) (numbers : DrawsAbove rules Answers) (IsMoment : ℕ → Type 0) (start : Held R) where
  -- a record is added, as an image shows
  is_new : (held : Held R) (r : R) (image : Image)
      → ledger_in rules image ≡ Ok (Some (held_with r held)) → rules.is_record held.records r ≡ true
  is_new held r image is = record_there rules [] held.records [] r (law image (held_with r held) is)

  -- what a crash leaves while a request is served
  module _ (records : List R) (setup : Setup) (found : Held R)
      (request : Request) (now : ℕ) (moment : IsMoment now) (came : CameFrom rules IsMoment start records found) where
    roomed : (held : Held R) → (held ≡ found) ⊎ MakesRoom rules Answers setup found request now held
        → CameFrom rules IsMoment start records held
    roomed held (inl same) = subst (CameFrom rules IsMoment start records) (sym same) came
    roomed held (inr room) = compacted rules IsMoment start records now found held moment room.made came

    serving_left : (told : Option DiskState) (image : Image) → ServingLeaves
        rules Answers setup found request now told image → HoldsWhatCame rules IsMoment start records image
    serving_left told image (steps.AtFirst is may) = (found, is, came)
    serving_left told image (steps.InCompaction room left) = ⊎_elim (λ is. (found, is, came)) (λ (held, made, is).
        (held, is, compacted rules IsMoment start records now found held moment made came)) left.stands
    serving_left told image (steps.InCommit one left) =
        let over = roomed one.held (⊎_elim (λ same. inl same.0) (λ made. inr made.0) one.over) in
        ⊎_elim (λ is. (one.held, is, over)) (λ is. (
          held_with one.r one.held,
          is,
          added_unknown rules IsMoment start records one.held one.r
              (is_new one.held one.r image is) (numbers setup one.held request now one.answer one.r one.adds) over,
        )) left.stands

module _ {Setup R : Type 0} (rules : RecordRules R) (Answers : AnswersBy Setup R)
    (law : ImagesHoldRecords rules) (numbers : DrawsAbove rules Answers) (IsMoment : ℕ → Type 0) (start : Held R) where
  abbrev Known : World (Provider Setup R) → List R → Type 0
  Known w records = Holds rules IsMoment start w records

  pub holds_same : (w later : World (Provider Setup R)) (records : List R)
      → later.node ≡ w.node → later.disk ≡ w.disk → Known w records → Known later records
  holds_same w later records node disk holds = record {
    own = subst (λ (p : Provider Setup R). OwnsDisk rules p later.disk)
        (sym node) (subst (λ (d : Option DiskState). OwnsDisk rules w.node d) (sym disk) holds.own);
    disk = λ image left. holds.disk image (subst (λ (d : Option DiskState). Leaves d image) disk left);
  }

  -- the ledger that is found: what a whole provider has
  pub found_whole : (records : List R) (told : Option DiskState) (ledger : Ledger R) → IsSome told → IfSome told
      (λ d. MayLeave d (image_of d)) → ledger.broken ≡ false → Owns rules told ledger → ((image : Image) → Leaves
      told image → HoldsWhatCame rules IsMoment start records image) → CameFrom rules IsMoment start records ledger.held
  found_whole records None ledger tells reads whole own each = cc
  found_whole records (Some d) ledger tells reads whole own each =
      let is = settled rules (Some d) ledger (image_of d) whole own reads in
      let (held, there, came) = each (image_of d) reads in
      let same : held ≡ ledger.held = (let e = sym there ∙ is in cc) in
      subst (CameFrom rules IsMoment start records) same came

  module _ (records : List R) (w : World (Provider Setup R)) (tells : IsSome w.disk) (reads : IfSome
      w.disk (λ d. MayLeave d (image_of d))) (holds : Known w records) (now : ℕ) (moment : IsMoment now) where
    whole_came : w.node.ledger.broken ≡ false → CameFrom rules IsMoment start records w.node.ledger.held
    whole_came whole = found_whole records w.disk w.node.ledger tells reads whole holds.own holds.disk

    pub step_left : (request : Request) (image : Image)
        → StepLeaves rules Answers w.node w.disk request now image → HoldsWhatCame rules IsMoment start records image
    step_left request image (steps.InLedger whole left) = serving_left rules Answers law numbers
        IsMoment start records w.node.setup w.node.ledger.held request now moment (whole_came whole) w.disk image left
    step_left request image (steps.InOpened found opened broken is made left) =
        serving_left rules Answers law numbers IsMoment start records w.node.setup found request now moment
        (found_told rules IsMoment start records w.disk found tells reads holds.disk is) opened image left
    step_left request image (steps.InOpening broken left) =
        opening_left rules IsMoment start records w.disk image tells holds.disk left.stands

    -- what a crash leaves inside a compaction of a ledger that is found
    compacting_left : (found : Held R) (told : Option DiskState) (image : Image) → CameFrom rules IsMoment start
        records found → CompactingLeaves rules now found told image → HoldsWhatCame rules IsMoment start records image
    compacting_left found told image came left = ⊎_elim (λ is. (found, is, came)) (λ (held, made, is).
        (held, is, compacted rules IsMoment start records now found held moment made came)) left.stands

    pub compaction_left : (image : Image)
        → CompactionLeaves rules w.node w.disk now image → HoldsWhatCame rules IsMoment start records image
    compaction_left image (node.InCompaction whole left) =
        compacting_left w.node.ledger.held w.disk image (whole_came whole) left
    compaction_left image (node.InCompactionOfOpened found opened broken is made left) = compacting_left found
        opened image (found_told rules IsMoment start records w.disk found tells reads holds.disk is) left
    compaction_left image (node.InRestart broken left) =
        opening_left rules IsMoment start records w.disk image tells holds.disk left.stands

  -- what a request does
  abbrev Goes : List R → Asked (Provider Setup R) → World (Provider Setup R) → Type 0
  Goes records one later = (r : Option R) × Stands rules Answers one r × Known later (option_to_list r ++ records)

  module _ (one : Asked (Provider Setup R)) (w later : World (Provider Setup R)) (records : List R)
      (tells : IsSome w.disk) (node : one.node ≡ w.node) (disk : one.disk ≡ w.disk)
      (reads : IfSome w.disk (λ d. MayLeave d (image_of d))) (holds : Known w records)
      (own : OwnsDisk rules later.node later.disk) (left_over : (image : Image)
      → Leaves later.disk image → StepLeaves rules Answers w.node w.disk one.request one.now image)
      (Risen : Type 0) (moment : IsMoment one.now) where
    -- the answer, over the ledger that the step of the request finds, or over what its one compaction makes of this
    stands : (found held : Held R) (adds : Option R) → Finds rules w.node w.disk found
        → (held ≡ found) ⊎ MakesRoom rules Answers w.node.setup found one.request one.now held
        → Answers w.node.setup held one.request one.now one.answer adds → Stands rules Answers one adds
    stands found held adds finds which answers =
        let over : IsAnsweredOver rules Answers w.node w.disk one.request one.now one.answer adds =
        record { held = held; answers = answers; over = (found, finds, which) } in
        ForAnswer adds
        (subst (λ (p : Provider Setup R). IsAnsweredOver rules Answers p one.disk one.request one.now one.answer adds)
        (sym node)
        (subst (λ (d : Option DiskState). IsAnsweredOver rules Answers w.node d one.request one.now one.answer adds)
        (sym disk) over))

    added_behind : (held : Held R) (r : R)
        → Answers w.node.setup held one.request one.now one.answer (Some r) → CameFrom rules IsMoment start records held
        → IsWhole w.node later.node (held_with r held) → Known later (r ∷ records)
    added_behind held r answers came whole = record {
      own = own;
      disk =
          λ image left. let is = settled rules later.disk later.node.ledger image whole.unbroken own left
          ∙ ap (λ (h : Held R). Ok (Some h)) whole.is in (
            held_with r held,
            is,
            added rules IsMoment start records held r (is_new rules Answers law numbers IsMoment
                start held r image is) (numbers w.node.setup held one.request one.now one.answer r answers) came,
          );
    }

    -- a provider that is whole behind the request, and one that is broken
    wholly : (held : Held R)
        → CameFrom rules IsMoment start records held → IsWhole w.node later.node held → Known later records
    wholly held came whole = record {
      own = own;
      disk = λ image left. (
        later.node.ledger.held,
        settled rules later.disk later.node.ledger image whole.unbroken own left,
        subst (CameFrom rules IsMoment start records) (sym whole.is) came,
      );
    }

    brokenly : Known later records
    brokenly = record {
      own = own;
      disk =
          λ image there. step_left records w tells reads holds one.now moment one.request image (left_over image there);
    }

    served : (found : Held R) → Finds rules w.node w.disk found → CameFrom rules IsMoment start records found
        → Serves rules Answers found one.request one.now Risen one.answer w.node later.node → Goes records one later
    served found finds came (steps.Plain answers whole) =
        (None, stands found found None finds (inl refl) answers, wholly found came whole)
    served found finds came (steps.Recorded r answers place whole) = (
      Some r,
      stands found found (Some r) finds (inl refl) answers,
      added_behind found r answers came whole,
    )
    served found finds came (steps.RecordedAfterCompaction held r room answers place whole) =
        let then = compacted rules IsMoment start records one.now found held moment room.made came in (
          Some r,
          stands found held (Some r) finds (inr room) answers,
          added_behind held r answers then whole,
        )
    served found finds came (steps.NoPlace held r another room answers still is whole) = (
      None,
      ForCode FULL (1, omega arith, refl) is,
      wholly held (compacted rules IsMoment start records one.now found held moment room.made came) whole,
    )
    served found finds came (steps.Failed wanted other wants risen is broken) =
        (None, ForCode DISK_FAULT (0, omega arith, refl) is, brokenly)
    served found finds came (steps.Starved held which is whole) =
        let then = roomed rules
        Answers law numbers IsMoment start records w.node.setup found one.request one.now moment came held which in
        (None, ForCode NO_MEMORY (2, omega arith, refl) is, wholly held then whole)

    stepped : Steps rules Answers w.node w.disk one.request one.now Risen one.answer later.node → Goes records one later
    stepped (steps.WithLedger whole serves) =
        served w.node.ledger.held (inl (whole, refl))
        (whole_came records w tells reads holds one.now moment whole) serves
    stepped (steps.WithOpened found broken is serves) =
        served found (inr (broken, is))
        (found_told rules IsMoment start records w.disk found tells reads holds.disk is) serves
    stepped (steps.NotOpened was risen is broken) = (None, ForCode DISK_FAULT (0, omega arith, refl) is, brokenly)
    stepped (steps.Strange was none is broken) = (None, ForCode FOREIGN (3, omega arith, refl) is, brokenly)
    stepped (steps.StarvedAtOpening was is broken) = (None, ForCode NO_MEMORY (2, omega arith, refl) is, brokenly)

  -- what a request does to a world
  pub asked_goes : (one : Asked (Provider Setup R)) (w later : World (Provider Setup R)) (records : List R)
      → IsSome one.disk
      → IsMoment one.now → Known w records → Asks (IsProviders rules Answers) one w later → Goes records one later
  asked_goes one w later records tells moment holds asks =
      stepped one w later records (subst IsSome asks.disk tells) asks.node asks.disk asks.answers.reads
      holds asks.answers.owns asks.answers.left (Rose w.disk_faults later.disk_faults) moment asks.answers.does.step

  -- ---- the world from turn to turn

  -- the records that were acknowledged in turns, behind those from before, and what is known then
  pub record Knows (former : List R) (turns : List (Turn (Provider Setup R))) (w : World (Provider Setup R)) : Type 0
    where
      pub records : List R
      pub are : AreAcknowledged rules Answers turns records
      pub all : List R
      pub joined : all ≡ records ++ former
      pub holds : Known w all

  but_link : (w later : World (Provider Setup R)) (records : List R)
      → IsButTheLink w later → Known w records → Known later records
  but_link w later records same holds = holds_same w later records
      (ap (λ (x : World (Provider Setup R)). x.node) same) (ap (λ (x : World (Provider Setup R)). x.disk) same) holds

  passes : (former : List R) (turns : List (Turn (Provider Setup R))) (turn : Turn (Provider Setup R)) (new : Table)
      (w later : World (Provider Setup R)) → AllByRecursion (λ (one : Asked (Provider Setup R)). IsSome one.disk)
      (asked_by turn) → AllByRecursion (λ (one : Asked (Provider Setup R)). IsMoment one.now) (asked_by turn)
      → GoesOn (IsProviders rules Answers) w new later turn → Knows former turns w → Knows former (turn ∷ turns) later
  passes former turns turn new w later told at (Quiet none same) knows = record {
    records = knows.records;
    are = (
      knows.records,
      knows.are,
      subst (λ (l : List (Asked (Provider Setup R))). AreBehind rules Answers l knows.records knows.records) (sym none)
          refl,
    );
    all = knows.all;
    joined = knows.joined;
    holds = but_link w later knows.all same knows.holds;
  }
  passes former turns turn new w later told at (Asking piece one old answers) knows =
      let (r, stands, holds) = asked_goes one w answers.told knows.all told.0 at.0 knows.holds answers.asks in
      record {
        records = option_to_list r ++ knows.records;
        are = (knows.records, knows.are, (r, stands, refl));
        all = option_to_list r ++ knows.all;
        joined = ap (λ (l : List R). option_to_list r ++ l) knows.joined ∙ sym (append_assoc (option_to_list r) knows.records former);
        holds = but_link answers.told later (option_to_list r ++ knows.all) answers.sends.same holds;
      }

  pub known_behind : (former : List R) (first last : World (Provider Setup R))
      (turns : List (Turn (Provider Setup R))) (kept : Table) → Known first former → AreTold turns
      → AreMoments IsMoment turns → Run (IsProviders rules Answers) first turns kept last → Knows former turns last
  known_behind former first last [] kept begins told at run = record {
    records = [];
    are = refl;
    all = former;
    joined = refl;
    holds = subst (λ (x : World (Provider Setup R)). Known x former) (sym run.1) begins;
  }
  known_behind former first last (turn ∷ past) kept begins told at (old, before, given, run, next, does) =
      let knows = known_behind former first before past old begins told.1 at.1 run in
      passes former past turn kept given last told.0 at.0
      (goes (IsProviders rules Answers) given kept last turn old does) (record {
        records = knows.records;
        are = knows.are;
        all = knows.all;
        joined = knows.joined;
        holds = holds_same before given knows.all (ap (λ (x : World (Provider Setup R)). x.node) next.same)
            (ap (λ (x : World (Provider Setup R)). x.disk) next.same) knows.holds;
      })

  -- those of the turns alone
  pub known : (first last : World (Provider Setup R)) (turns : List (Turn (Provider Setup R))) (kept : Table)
      → Known first [] → AreTold turns → AreMoments IsMoment turns → Run (IsProviders rules Answers)
      first turns kept last → (records : List R) × AreAcknowledged rules Answers turns records × Known last records
  known first last turns kept begins told at run =
      let knows = known_behind [] first last turns kept begins told at run in
      (knows.records, knows.are, subst (Known last) (knows.joined ∙ append-nil knows.records) knows.holds)

-- at the start
pub came_itself : {R : Type 0} (rules : RecordRules R) (IsMoment : ℕ → Type 0) (start : Held R)
    → CameFrom rules IsMoment start [] start
came_itself rules IsMoment start = record { events = []; leads = refl; includes = Nothing; at = tt }

pub begins : {Setup R : Type 0} (rules : RecordRules R) (IsMoment : ℕ → Type 0) (first : World (Provider Setup R))
    → IsAtStart rules first → Holds rules IsMoment first.node.ledger.held first []
begins rules IsMoment first at = record {
  own = at.own;
  disk = λ image left. (
    first.node.ledger.held,
    settled rules first.disk first.node.ledger image at.whole at.own left,
    came_itself rules IsMoment first.node.ledger.held,
  );
}

-- ---- the laws

-- an image that a disk may leave which tells
pub an_image : (told : Option DiskState)
    → IsSome told → IfSome told (λ d. MayLeave d (image_of d)) → (image : Image) × Leaves told image
an_image None tells reads = cc
an_image (Some d) tells reads = (image_of d, reads)

module _ {Setup R : Type 0} (rules : RecordRules R) (Answers : AnswersBy Setup R) where
  -- a disk that tells at first tells all along, and in the end an image may be left of it
  pub all_told : (first last : World (Provider Setup R)) (turns : List (Turn (Provider Setup R))) (kept : Table)
      → IsSome first.disk → Run (IsProviders rules Answers) first turns kept last → AreTold turns × IsSome last.disk
  all_told first last turns kept tells run =
      goes_on_telling (provider_rules rules Answers) first turns kept last run tells

  pub some_left : (first last : World (Provider Setup R)) (turns : List (Turn (Provider Setup R))) (kept : Table)
      → IsAtStart rules first → IsSome first.disk
      → Run (IsProviders rules Answers) first turns kept last → (image : Image) × Leaves last.disk image
  some_left first last turns kept at tells run =
      an_image last.disk (all_told first last turns kept tells run).1 (goes_on_reading
      (provider_rules rules Answers) first turns kept last run at.reads)

  pub what_is_kept : (law : ImagesHoldRecords rules) (numbers : DrawsAbove rules Answers) (first last : World
      (Provider Setup R)) (turns : List (Turn (Provider Setup R))) (kept : Table) → IsAtStart rules first → IsSome
      first.disk → Run (IsProviders rules Answers) first turns kept last → AreKept rules Answers first last turns
  what_is_kept law numbers first last turns kept at tells run = let told = all_told first last turns kept tells run in
      let IsMoment : ℕ → Type 0 = Contains (moments_of turns) in
      let knows = known rules Answers law numbers IsMoment first.node.ledger.held first last turns kept
      (begins rules IsMoment first at) told.0 (moments_are IsMoment turns (λ now there. there)) run in
      record { records = knows.0; are = knows.1; kept = knows.2.disk }

-- ---- what else holds of what is kept

module _ {Setup R : Type 0} (rules : RecordRules R) (Answers : AnswersBy Setup R)
    (Holds : List R → Image → Type 0) (last : World (Provider Setup R)) (turns : List (Turn (Provider Setup R)))
    (kept : AreKeptSo rules Answers Holds last turns) where
  abbrev pub kept_so : (IsSo : List R → Image → Type 0)
      → ((image : Image) → Holds kept.records image → IsSo kept.records image) → AreKeptSo rules Answers IsSo last turns
  kept_so IsSo so =
      record { records = kept.records; are = kept.are; kept = λ image left. so image (kept.kept image left) }

  -- and of a disk that leaves nothing more
  abbrev pub kept_then : (later : World (Provider Setup R))
      → ((image : Image) → Leaves later.disk image → Leaves last.disk image) → AreKeptSo rules Answers Holds later turns
  kept_then later no_more =
      record { records = kept.records; are = kept.are; kept = λ image left. kept.kept image (no_more image left) }

-- and of its history, where it holds of each
pub came_so : {R : Type 0} (rules : RecordRules R) (IsSo : Held R → List (Event R) → Type 0) (IsMoment : ℕ → Type 0)
    (start : Held R) → ((held : Held R) (events : List (Event R)) → Leads rules start events held → IsSo start events)
    → (records : List R) (image : Image) → HoldsWhatCame rules IsMoment start records image
    → HoldsWhatCameSo rules IsSo IsMoment start records image
came_so rules IsSo IsMoment start so records image (held, is, came) =
    record { held = held; is = is; came = came; so = so held came.events came.leads }
