-- That each record behind starts has its request.
use Rattle.std.specs.Prelude.{Contains, IfSome, IsSome, Option, None, Some, Result, Ok, Err}
use Rattle.std.proofs.Common.{◌≡◌, ◌∙◌, ⊎_elim, inl, inr, ℕ, suc, List, [], ◌∷◌, sym, subst, refl, ap, arith}
use Rattle.std.proofs.Common.{◌==◌, false}
use Rattle.std.proofs.lemmas.List.Elements.{Contains-append_left, Contains-append_right}
use Rattle.crash_disk.specs.Disk.{Image, DiskState, MayLeave, image_of}
use Rattle.crash_disk.specs.Moments.{Leaves}
use Rattle.conn_table.specs.Table.{Table}
use Rattle.gate_journal.specs.Format.{Fault}
use Rattle.http_wire.specs.Requests.{Request}
use Rattle.http_wire.specs.declared.answer.Answer.TheVariants.{Fixed}
use Rattle.serve_loop.specs.Turns.{Asked, Asks, Run, Turn, asked_by, asked_in}
use Rattle.serve_loop.specs.Worlds.{World}
use Rattle.serve_loop.proofs.Quiet.{Asking, Goes, Quiet, goes}
use Rattle.record_ledger.specs.Rules.{RecordRules}
use Rattle.record_ledger.specs.Ledger.{Held, LeftByOpening, empty_ledger, ledger_in, migrated, taken}
use Rattle.provider_node.specs.Calls.{CompactingLeaves}
use Rattle.provider_node.specs.Causes.{IsAddedOver}
use Rattle.provider_node.specs.Histories.{AnyMoment, IsProviders}
use Rattle.provider_node.specs.Node as nodes
use Rattle.provider_node.specs.Node.{CompactionLeaves}
use Rattle.provider_node.specs.Origins.{Answered, EachRecordHasItsRequest, HasItsRequest, MayBeCut, WasAsked}
use Rattle.provider_node.specs.Starts.{AreStarts, Behind, Cut, InAnswer, InCompaction, IsNext, LeftBehind, LeftFromAt}
use Rattle.provider_node.specs.Starts.{Served, Start, Unopened, asked_over, last_of, turns_of}
use Rattle.provider_node.specs.Step as steps
use Rattle.provider_node.specs.Step.{AnswersBy, Ledger, Owns, OwnsDisk, Provider, StepLeaves}
use Rattle.provider_node.proofs.Added.{among_compacted, in_serving}
use Rattle.provider_node.proofs.Opened.{migrated_records}
use Rattle.provider_node.proofs.Serving.{settled}

-- ---- what is opened

module _ {R : Type 0} (P : R → Type 0) where
  -- each record of a ledger is such
  abbrev Each : Held R → Type 0
  Each held = (r : R) → Contains held.records r → P r

  -- so it is of a ledger that was migrated, and of the one before
  each_migrated : (held : Held R) → Each held → Each (migrated held)
  each_migrated held each r there =
      each r (subst (λ (l : List R). Contains l r) (migrated_records held (held.version == 1)) there)

  each_before : (held : Held R) → Each (migrated held) → Each held
  each_before held each r there =
      each r (subst (λ (l : List R). Contains l r) (sym (migrated_records held (held.version == 1))) there)

  -- each record of what is opened from these is such
  abbrev EachOpened : Result (Option (Held R)) Fault → Type 0
  EachOpened found = (held : Held R) → taken found ≡ Ok held → Each held

  opened_some : (found : Result (Option (Held R)) Fault) (held : Held R) → found ≡ Ok (Some held) → EachOpened found
      → Each held
  opened_some found held is each = each_before held (each (migrated held) (ap taken is))

  some_opened : (found : Result (Option (Held R)) Fault) (held : Held R) → found ≡ Ok (Some held) → Each held
      → EachOpened found
  some_opened found held is each other opens =
      let same : migrated held ≡ other = (let e : Ok (migrated held) ≡ Ok other = sym (ap taken is) ∙ opens in cc) in
      subst Each same (each_migrated held each)

  -- it is so, where it is so of the ledger that they stand for
  by_found : (found : Result (Option (Held R)) Fault)
      → ((held : Held R) → found ≡ Ok (Some held) → Each held) → EachOpened found
  by_found (Ok None) each held opens =
      let same : empty_ledger ≡ held = cc in
      subst Each same (λ r there. absurd (omega (arith, there.1)))
  by_found (Ok (Some before)) each held opens = some_opened (Ok (Some before)) before refl (each before refl) held opens
  by_found (Err fault) each held opens = absurd (cc)

-- ---- what a disk may leave

module _ {Setup R : Type 0} (rules : RecordRules R) (Answers : AnswersBy Setup R) (P : R → Type 0) where
  -- each record of what may be opened from an image is such
  abbrev EachIn : Image → Type 0
  EachIn image = EachOpened P (ledger_in rules image)

  abbrev EachLeft : Option DiskState → Type 0
  EachLeft told = (image : Image) → Leaves told image → EachIn image

  -- what a crash leaves inside an opening
  in_opening : (told : Option DiskState) (image : Image) → IsSome told → EachLeft told → LeftByOpening rules told image
      → EachIn image
  in_opening None image tells each left = cc
  in_opening (Some d) image tells each (first, may, inl same) =
      λ held opens. each first may held (sym (ap taken same) ∙ opens)
  in_opening (Some d) image tells each (first, may, inr (found, opens, is)) =
      some_opened P (ledger_in rules image) found is (each first may found opens)

  -- what is opened from the disk
  in_opened : (told : Option DiskState) (found : Held R) → IsSome told → IfSome told (λ d. MayLeave d (image_of d))
      → EachLeft told → IfSome told (λ d. taken (ledger_in rules (image_of d)) ≡ Ok found) → Each P found
  in_opened None found tells reads each is = cc
  in_opened (Some d) found tells reads each is = each (image_of d) reads found is

  -- a world in which the disk tells, and each record of what it may leave is such
  record Known (w : World (Provider Setup R)) : Type 0 where
    tells : IsSome w.disk
    reads : IfSome w.disk (λ d. MayLeave d (image_of d))
    own : OwnsDisk rules w.node w.disk
    each : EachLeft w.disk

  -- those of a ledger that is whole
  whole_at : (told : Option DiskState) (ledger : Ledger R) → IsSome told → IfSome told (λ d. MayLeave d (image_of d))
      → ledger.broken ≡ false → Owns rules told ledger → EachLeft told → Each P ledger.held
  whole_at None ledger tells reads whole own each = cc
  whole_at (Some d) ledger tells reads whole own each = opened_some P (ledger_in rules (image_of d)) ledger.held
      (settled rules (Some d) ledger (image_of d) whole own reads) (each (image_of d) reads)

  module _ (w : World (Provider Setup R)) (known : Known w) where
    whole_each : w.node.ledger.broken ≡ false → Each P w.node.ledger.held
    whole_each whole = whole_at w.disk w.node.ledger known.tells known.reads whole known.own known.each

    -- what a crash leaves inside the answer to a request, each record that it adds being such
    step_each : (request : Request) (now : ℕ)
        → ((r : R) → IsAddedOver rules Answers w.node w.disk request now r → P r) → (image : Image)
        → StepLeaves rules Answers w.node w.disk request now image → EachIn image
    step_each request now adds image (steps.InLedger whole left) =
        by_found P (ledger_in rules image) (λ held is r there. ⊎_elim (λ stood. whole_each whole r stood)
        (λ added. adds r added) (in_serving rules Answers w.node w.disk request now r w.node.ledger.held
        (inl (whole, refl)) w.disk image held is there left))
    step_each request now adds image (steps.InOpened found opened broken stands made left) =
        by_found P (ledger_in rules image) (λ held is r there. ⊎_elim
        (λ stood. in_opened w.disk found known.tells known.reads known.each stands r stood) (λ added. adds r added)
        (in_serving rules Answers w.node w.disk request now r found (inr (broken, stands)) opened image held is there
        left))
    step_each request now adds image (steps.InOpening broken left) =
        in_opening w.disk image known.tells known.each left.stands

    -- and inside a compaction
    compacting_each : (now : ℕ) (found : Held R) (told : Option DiskState) (image : Image) → Each P found
        → CompactingLeaves rules now found told image → EachIn image
    compacting_each now found told image each left = ⊎_elim
        (λ is. some_opened P (ledger_in rules image) found is each)
        (λ (held, made, is). some_opened P (ledger_in rules image) held is
        (λ r there. each r (among_compacted rules now found held r made there))) left.stands

    compaction_each : (now : ℕ) (image : Image) → CompactionLeaves rules w.node w.disk now image → EachIn image
    compaction_each now image (nodes.InCompaction whole left) =
        compacting_each now w.node.ledger.held w.disk image (whole_each whole) left
    compaction_each now image (nodes.InCompactionOfOpened found opened broken is made left) =
        compacting_each now found opened image (in_opened w.disk found known.tells known.reads known.each is) left
    compaction_each now image (nodes.InRestart broken left) =
        in_opening w.disk image known.tells known.each left.stands

  -- ---- from turn to turn

  abbrev AddsSuch : List (Asked (Provider Setup R)) → Type 0
  AddsSuch asked = (one : Asked (Provider Setup R)) (r : R) → Contains asked one
      → IsAddedOver rules Answers one.node one.disk one.request one.now r → P r

  known_same : (w later : World (Provider Setup R)) → later.node ≡ w.node → later.disk ≡ w.disk → Known w → Known later
  known_same w later node disk known = record {
    tells = subst IsSome (sym disk) known.tells;
    reads = subst (λ (o : Option DiskState). IfSome o (λ d. MayLeave d (image_of d))) (sym disk) known.reads;
    own = subst (λ (p : Provider Setup R). OwnsDisk rules p later.disk) (sym node)
        (subst (λ (o : Option DiskState). OwnsDisk rules w.node o) (sym disk) known.own);
    each = λ image left. known.each image (subst (λ (o : Option DiskState). Leaves o image) disk left);
  }

  known_asked : (one : Asked (Provider Setup R)) (w later : World (Provider Setup R))
      → Asks (IsProviders rules Answers) one w later
      → ((r : R) → IsAddedOver rules Answers one.node one.disk one.request one.now r → P r) → Known w → Known later
  known_asked one w later asks adds known = record {
    tells = asks.answers.tells ∙ known.tells;
    reads = asks.answers.reads_later;
    own = asks.answers.owns;
    each = λ image left. step_each w known one.request one.now (λ r added. adds r
        (subst (λ (p : Provider Setup R). IsAddedOver rules Answers p one.disk one.request one.now r) (sym asks.node)
        (subst (λ (o : Option DiskState). IsAddedOver rules Answers w.node o one.request one.now r) (sym asks.disk)
        added))) image (asks.answers.left image left);
  }

  passes : (turn : Turn (Provider Setup R)) (new : Table) (w later : World (Provider Setup R))
      → AddsSuch (asked_by turn) → Goes (IsProviders rules Answers) w new later turn → Known w → Known later
  passes turn new w later adds (Quiet none same) known = known_same w later
      (ap (λ (x : World (Provider Setup R)). x.node) same) (ap (λ (x : World (Provider Setup R)). x.disk) same) known
  passes turn new w later adds (Asking piece one old answers) known = known_same answers.told later
      (ap (λ (x : World (Provider Setup R)). x.node) answers.sends.same)
      (ap (λ (x : World (Provider Setup R)). x.disk) answers.sends.same)
      (known_asked one w answers.told answers.asks (λ r added. adds one r (0, omega arith, refl) added) known)

  known_behind : (first last : World (Provider Setup R)) (turns : List (Turn (Provider Setup R))) (kept : Table)
      → Known first → AddsSuch (asked_in turns) → Run (IsProviders rules Answers) first turns kept last → Known last
  known_behind first last [] kept known adds run = known_same first last
      (ap (λ (x : World (Provider Setup R)). x.node) run.1) (ap (λ (x : World (Provider Setup R)). x.disk) run.1) known
  known_behind first last (turn ∷ past) kept known adds (old, before, given, did, next, does) =
      let earlier = known_behind first before past old known
      (λ one r there. adds one r (Contains-append_left (asked_in past) (asked_by turn) one there)) did in
      passes turn kept given last
      (λ one r there. adds one r (Contains-append_right (asked_in past) (asked_by turn) one there))
      (goes (IsProviders rules Answers) given kept last turn old does)
      (known_same before given (ap (λ (x : World (Provider Setup R)). x.node) next.same)
      (ap (λ (x : World (Provider Setup R)). x.disk) next.same) earlier)

-- ---- over starts

more : {N : Type 0} (one : Start N) (earlier : List (Start N)) (asked : Asked N) → WasAsked earlier asked
    → WasAsked (one ∷ earlier) asked
more one earlier asked (Answered there) =
    Answered (Contains-append_left (asked_over earlier) (asked_in (turns_of one)) asked there)
more one earlier asked (MayBeCut other last among is node disk) =
    MayBeCut other last (suc among.0, omega (arith, among.1), among.2) is node disk

module _ {Setup R : Type 0} (rules : RecordRules R) (Answers : AnswersBy Setup R) (start : Held R)
    (all : List (Start (Provider Setup R))) where
  abbrev Has : R → Type 0
  Has = HasItsRequest rules Answers start all

  abbrev Among : List (Start (Provider Setup R)) → Type 0
  Among these = (asked : Asked (Provider Setup R)) → WasAsked these asked → WasAsked all asked

  abbrev In : Image → Type 0
  In = EachIn rules Answers Has

  -- what may be left of a node that served
  left_from : (last : World (Provider Setup R)) → Known rules Answers Has last
      → ((asked : Asked (Provider Setup R)) (r : R) → asked.node ≡ last.node → asked.disk ≡ last.disk
      → IsAddedOver rules Answers asked.node asked.disk asked.request asked.now r → Has r) → (image : Image)
      → LeftFromAt rules Answers AnyMoment last image → In image
  left_from last known adds image (Behind left) = known.each image left
  left_from last known adds image (InAnswer request now moment left) = step_each rules Answers Has last known request
      now (λ r added. adds (record {
        conn = 0;
        request = request;
        now = now;
        node = last.node;
        disk = last.disk;
        answer = Fixed 0;
      }) r refl refl added) image left
  left_from last known adds image (InCompaction now moment left) =
      compaction_each rules Answers Has last known now image left

  -- what may be left of a start that began in a world of which this is known
  left_behind : (one : Start (Provider Setup R)) (earlier : List (Start (Provider Setup R))) → Among (one ∷ earlier)
      → (first last : World (Provider Setup R)) (turns : List (Turn (Provider Setup R))) (kept : Table)
      → turns_of one ≡ turns → last_of one ≡ Some last → Known rules Answers Has first
      → Run (IsProviders rules Answers) first turns kept last → (image : Image)
      → LeftFromAt rules Answers AnyMoment last image → In image
  left_behind one earlier among first last turns kept did is begins run image left = left_from last
      (known_behind rules Answers Has first last turns kept begins (λ asked r there added. inr (
        asked,
        among asked (Answered (Contains-append_right (asked_over earlier) (asked_in (turns_of one)) asked
            (subst (λ (l : List (Turn (Provider Setup R))). Contains (asked_in l) asked) (sym did) there))),
        added,
      )) run) (λ asked r node disk added. inr (
        asked,
        among asked (MayBeCut one last (0, omega arith, refl) is node disk),
        added,
      )) image left

  one_more : (one : Start (Provider Setup R)) (earlier : List (Start (Provider Setup R))) → Among (one ∷ earlier)
      → IsNext rules Answers start earlier one → ((i : Image) → LeftBehind rules Answers start earlier i → In i)
      → (image : Image) → LeftBehind rules Answers start (one ∷ earlier) image → In image
  one_more (Cut told) earlier among next each image left =
      in_opening rules Answers Has told image next.tells (λ i there. each i (next.left i there)) left
  one_more (Served told first turns kept last) earlier among next each image left = let served = next.goes.0 in
      let found = in_opened rules Answers Has told first.node.ledger.held next.tells next.reads
      (λ i there. each i (next.left i there)) served.opened in
      left_behind (Served told first turns kept last) earlier among first last turns kept refl refl (record {
        tells = served.tells;
        reads = served.at.reads;
        own = served.at.own;
        each = λ i there. some_opened Has (ledger_in rules i) first.node.ledger.held
            (settled rules first.disk first.node.ledger i served.at.whole served.at.own there) found;
      }) served.run image left
  one_more (Unopened first turns kept last) earlier among next each image left = let goes = next.goes.0 in
      left_behind (Unopened first turns kept last) earlier among first last turns kept refl refl (record {
        tells = next.tells;
        reads = next.reads;
        own = goes.own;
        each = λ i there. each i (next.left i there);
      }) goes.run image left

  behind : (these : List (Start (Provider Setup R))) → Among these → AreStarts rules Answers start these
      → (image : Image) → LeftBehind rules Answers start these image → In image
  behind [] among are image left = λ held opens r there.
      let same : held ≡ start = (let e : Ok held ≡ Ok start = sym opens ∙ left in cc) in
      inl (subst (λ (h : Held R). Contains h.records r) same there)
  behind (one ∷ earlier) among (next, before) image left = one_more one earlier among next
      (behind earlier (λ asked was. among asked (more one earlier asked was)) before) image left

pub each_has_its_request : {Setup R : Type 0} (rules : RecordRules R) (Answers : AnswersBy Setup R)
    → EachRecordHasItsRequest rules Answers
each_has_its_request rules Answers start starts are image held r left opens there =
    behind rules Answers start starts starts (λ asked was. was) are image left held opens r there
