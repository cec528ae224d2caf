-- That what was acknowledged is kept over several starts.
use Rattle.std.specs.Prelude.{Contains, IfSome, IsSome, Option, None, Some, Ok}
use Rattle.std.proofs.Common.{◌≡◌, inl, inr, ℕ, Bool, true, List, [], ◌∷◌, ◌++◌, sym, subst, refl, ap, ◌∙◌}
use Rattle.crash_disk.specs.Disk.{DiskState, Image, MayLeave, image_of}
use Rattle.crash_disk.specs.Moments.{Leaves}
use Rattle.serve_loop.specs.Worlds.{World}
use Rattle.record_ledger.specs.Rules.{AreRecords, RecordRules}
use Rattle.record_ledger.specs.Ledger.{Held, LeftByOpening, ledger_in, migrated, taken}
use Rattle.record_ledger.specs.Laws.{ImagesHoldRecords}
use Rattle.record_ledger.specs.Runs as events
use Rattle.record_ledger.specs.Runs.{Event, Adds, Opens, Leads}
use Rattle.serve_loop.proofs.Telling.{goes_on_reading}
use Rattle.provider_node.specs.Added.{DrawsAbove}
use Rattle.provider_node.specs.Step.{AnswersBy, Provider, OwnsDisk}
use Rattle.provider_node.specs.Node.{provider_rules}
use Rattle.provider_node.specs.Histories.{AnyMoment, Another, CameFrom, CompactsWhere, HoldsWhatCame, Includes, Nothing}
use Rattle.provider_node.specs.Histories.{This}
use Rattle.provider_node.specs.Points.{AClosedSessionStaysClosed}
use Rattle.provider_node.specs.Starts.{AreKeptOver, AreKeptOverAt, AreKeptOverSo, LeftBehind, LeftBehindAt}
use Rattle.provider_node.specs.Starts.{OpensWhatCameSo}
use Rattle.provider_node.specs.Starts.{AreStarts, AreStartsAt, Behind, Cut, InAnswer, InCompaction, IsNextAt}
use Rattle.provider_node.specs.Starts.{LeftFromAt, OpensWhatCame, Served, StandsAsOpened, Start, StayClosedOverStarts}
use Rattle.provider_node.specs.Starts.{Unopened}
use Rattle.provider_node.proofs.Histories.{Holds, all_told, an_image, begins, came_itself, compaction_left}
use Rattle.provider_node.proofs.Histories.{known, known_behind, moments_are, step_left}

-- ---- one history behind another

module _ {R : Type 0} (rules : RecordRules R) where
  -- what the last event led from, and that it leads on from there whatever led to it
  pub last_event : (start held : Held R) (past : List (Event R)) (event : Event R)
      → Leads rules start (event ∷ past) held → (mid : Held R) × Leads rules start past mid × ((other : Held R)
      (events : List (Event R)) → Leads rules other events mid → Leads rules other (event ∷ events) held)
  last_event start held past (Adds r) (mid, led, is, above, same) =
      (mid, led, λ other events on. (mid, on, is, above, same))
  last_event start held past (events.Compacts now) (mid, led, made) = (mid, led, λ other events on. (mid, on, made))
  last_event start held past Opens (mid, led, same) = (mid, led, λ other events on. (mid, on, same))

  leads_on : (start mid held : Held R) (past later : List (Event R))
      → Leads rules start past mid → Leads rules mid later held → Leads rules start (later ++ past) held
  leads_on start mid held past [] first second = subst (Leads rules start past) (sym second) first
  leads_on start mid held past (event ∷ later) first second =
      let (before, led, more) = last_event mid held later event second in
      more start (later ++ past) (leads_on start mid before past later first led)

includes_on : {R : Type 0} (past later : List (Event R)) (former latest : List R)
    → Includes past former → Includes later latest → Includes (later ++ past) (latest ++ former)
includes_on past [] former [] first Nothing = first
includes_on past [] former (r ∷ latest) first second = elim second [ ]
includes_on past (Adds r ∷ later) former (same ∷ latest) first (This second) =
    This (includes_on past later former latest first second)
includes_on past (event ∷ later) former latest first (Another second) =
    Another (includes_on past later former latest first second)

compacts_on : {R : Type 0} (IsMoment : ℕ → Type 0) (past later : List (Event R))
    → CompactsWhere IsMoment past → CompactsWhere IsMoment later → CompactsWhere IsMoment (later ++ past)
compacts_on IsMoment past [] first second = first
compacts_on IsMoment past (Adds r ∷ later) first second = compacts_on IsMoment past later first second
compacts_on IsMoment past (events.Compacts now ∷ later) first second =
    (second.0, compacts_on IsMoment past later first second.1)
compacts_on IsMoment past (Opens ∷ later) first second = compacts_on IsMoment past later first second

module _ {R : Type 0} (rules : RecordRules R) (IsMoment : ℕ → Type 0) where
  pub came_on : (start mid held : Held R) (former latest : List R) → CameFrom rules IsMoment start former mid
      → CameFrom rules IsMoment mid latest held → CameFrom rules IsMoment start (latest ++ former) held
  came_on start mid held former latest first second = record {
    events = second.events ++ first.events;
    leads = leads_on rules start mid held first.events second.events first.leads second.leads;
    includes = includes_on first.events second.events former latest first.includes second.includes;
    at = compacts_on IsMoment first.events second.events first.at second.at;
  }

  -- a ledger that an image holds is opened
  opens_held : (start : Held R) (records : List R) (image : Image)
      → HoldsWhatCame rules IsMoment start records image → OpensWhatCame rules IsMoment start records image
  opens_held start records image (held, is, came) = record {
    held = migrated held;
    opens = ap taken is;
    came = record {
      events = Opens ∷ came.events;
      leads = (held, came.leads, refl);
      includes = Another came.includes;
      at = came.at;
    };
  }

  -- what is opened of an image inside an opening
  opened_in : (start : Held R) (records : List R) (told : Option DiskState) (image : Image) → IsSome told
      → ((i : Image) → Leaves told i → OpensWhatCame rules IsMoment start records i) → LeftByOpening rules told image
      → OpensWhatCame rules IsMoment start records image
  opened_in start records None image tells each left = cc
  opened_in start records (Some d) image tells each (first, may, inl same) = let before = each first may in
      record { held = before.held; opens = ap taken same ∙ before.opens; came = before.came }
  opened_in start records (Some d) image tells each (first, may, inr (found, opens, is)) =
      let before = each first may in
      let same : before.held ≡ found = (let e = sym before.opens ∙ opens in cc) in
      opens_held start records image (found, is, subst (CameFrom rules IsMoment start records) same before.came)

  -- what is opened of a disk that tells
  opened_told : (start : Held R) (records : List R) (told : Option DiskState) (found : Held R) → IsSome told → IfSome
      told (λ d. MayLeave d (image_of d)) → ((i : Image) → Leaves told i → OpensWhatCame rules IsMoment start records i)
      → IfSome told (λ d. taken (ledger_in rules (image_of d)) ≡ Ok found) → CameFrom rules IsMoment start records found
  opened_told start records None found tells reads each is = cc
  opened_told start records (Some d) found tells reads each is = let before = each (image_of d) reads in
      let same : before.held ≡ found = (let e = sym before.opens ∙ is in cc) in
      subst (CameFrom rules IsMoment start records) same before.came

held_on : {R : Type 0} (rules : RecordRules R) (IsMoment : ℕ → Type 0)
    (start mid : Held R) (former latest : List R) (image : Image) → CameFrom rules IsMoment start former mid
    → HoldsWhatCame rules IsMoment mid latest image → HoldsWhatCame rules IsMoment start (latest ++ former) image
held_on rules IsMoment start mid former latest image first (held, is, came) =
    (held, is, came_on rules IsMoment start mid held former latest first came)

-- ---- one start more

module _ {Setup R : Type 0} (rules : RecordRules R) (Answers : AnswersBy Setup R)
    (law : ImagesHoldRecords rules) (numbers : DrawsAbove rules Answers) (IsMoment : ℕ → Type 0) (start : Held R) where
  -- what may be left of a node that served
  left_from : (last : World (Provider Setup R)) (records : List R) (i : Image) → IsSome last.disk
      → IfSome last.disk (λ d. MayLeave d (image_of d)) → (first : Held R) → Holds rules IsMoment first last records
      → LeftFromAt rules Answers IsMoment last i → HoldsWhatCame rules IsMoment first records i
  left_from last records i tells reads first holds (Behind left) = holds.disk i left
  left_from last records i tells reads first holds (InAnswer request now moment left) =
      step_left rules Answers law numbers IsMoment first records last tells reads holds now moment request i left
  left_from last records i tells reads first holds (InCompaction now moment left) =
      compaction_left rules Answers law numbers IsMoment first records last tells reads holds now moment i left

  -- what is known of a ledger that is not opened, when it begins to serve
  unopened : (first : World (Provider Setup R)) (records : List R)
      → OwnsDisk rules first.node first.disk → StandsAsOpened rules first.disk → ((i : Image) → Leaves first.disk i
      → OpensWhatCame rules IsMoment start records i) → Holds rules IsMoment start first records
  unopened first records own holds each = record {
    own = own;
    disk = λ image left. let (held, is, stays) = holds image left in
        let opens = each image left in let same : opens.held ≡ held = (let e = sym opens.opens ∙ ap taken is in
        cc) in (held, is, subst (CameFrom rules IsMoment start records) same opens.came);
  }

  one_more : (one : Start (Provider Setup R)) (earlier : List (Start (Provider Setup R)))
      → IsNextAt rules Answers IsMoment start earlier one
      → AreKeptOverAt rules Answers IsMoment start earlier → AreKeptOverAt rules Answers IsMoment start (one ∷ earlier)
  one_more (Cut before) earlier next was = record {
    records = was.records;
    are = was.are;
    kept = λ image left. opened_in rules IsMoment start was.records before image next.tells
        (λ i there. was.kept i (next.left i there)) left;
    history = was.history;
  }
  one_more (Served before first turns kept last) earlier next was = let served = next.goes.0 in
      let mid = first.node.ledger.held in
      let came = opened_told rules IsMoment start was.records before mid next.tells next.reads
      (λ i left. was.kept i (next.left i left)) served.opened in
      let told = all_told rules Answers first last turns kept served.tells served.run in
      let reads = goes_on_reading (provider_rules rules Answers) first turns kept last served.run served.at.reads in
      let (records, are, holds) = known rules Answers law numbers IsMoment mid first last turns kept
      (begins rules IsMoment first served.at) told.0 (moments_are IsMoment turns next.goes.1) served.run in
      let (image, left) = an_image last.disk told.1 reads in
      let (held, is, later) = holds.disk image left in
      record {
        records = records ++ was.records;
        are = (records, was.records, are, was.are, refl);
        kept = λ i here. opens_held rules IsMoment start (records ++ was.records) i (held_on rules
            IsMoment start mid was.records records i came (left_from last records i told.1 reads mid holds here));
        history = (held, came_on rules IsMoment start mid held was.records records came later);
      }
  one_more (Unopened first turns kept last) earlier next was = let goes = next.goes.0 in
      let told = all_told rules Answers first last turns kept next.tells goes.run in
      let reads = goes_on_reading
      (provider_rules rules Answers) first turns kept last goes.run next.reads in
      let knows = known_behind rules Answers law numbers IsMoment start was.records first last turns kept
      (unopened first was.records goes.own goes.holds (λ i left. was.kept i (next.left i left))) told.0
      (moments_are IsMoment turns next.goes.1) goes.run in
      let (image, left) = an_image last.disk told.1 reads in
      let (held, is, came) = knows.holds.disk image left in
      record {
        records = knows.all;
        are = (knows.records, was.records, knows.are, was.are, knows.joined);
        kept = λ i here. opens_held rules IsMoment start knows.all i
            (left_from last knows.all i told.1 reads start knows.holds here);
        history = (held, came);
      }

  pub kept_over_at : (starts : List (Start (Provider Setup R)))
      → AreStartsAt rules Answers IsMoment start starts → AreKeptOverAt rules Answers IsMoment start starts
  kept_over_at [] are = record {
    records = [];
    are = refl;
    kept = λ image is. record { held = start; opens = is; came = came_itself rules IsMoment start };
    history = (start, came_itself rules IsMoment start);
  }
  kept_over_at (one ∷ earlier) (next, before) = one_more one earlier next (kept_over_at earlier before)

pub kept_over : {Setup R : Type 0} (rules : RecordRules R) (Answers : AnswersBy Setup R) (law : ImagesHoldRecords rules)
    (numbers : DrawsAbove rules Answers) (start : Held R) (starts : List (Start (Provider Setup R)))
    → AreStarts rules Answers start starts → AreKeptOver rules Answers start starts
kept_over rules Answers law numbers start starts are = kept_over_at rules Answers law numbers AnyMoment start starts are

-- a session that one of these records closed is over behind a history in which they were added
abbrev pub StayOver : {R : Type 0} → RecordRules R → (closes : List ℕ → R → Bool) (IsOver : Held R → List ℕ → Type 0)
    → Type 0
StayOver {R} rules closes IsOver = (start : Held R) → AreRecords rules start.records → (r : R) (token : List ℕ)
    → closes token r ≡ true → (events : List (Event R)) (records : List R) (held : Held R)
    → Includes events records → Contains records r → Leads rules start events held → IsOver held token

module _ {Setup R : Type 0} (rules : RecordRules R) (Answers : AnswersBy Setup R) (law : ImagesHoldRecords rules)
    (numbers : DrawsAbove rules Answers) (IsClosed : Held R → List ℕ → Type 0) (closes : List ℕ → R → Bool)
    (IsOver : Held R → List ℕ → Type 0) where
  pub closed_over : AClosedSessionStaysClosed rules IsClosed IsOver → StayOver rules closes IsOver
      → StayClosedOverStarts rules Answers IsClosed closes IsOver
  closed_over stays over start starts are begun = let kept = kept_over rules Answers law numbers start starts begun in
      let opened : (image : Image) (held : Held R) → LeftBehind rules Answers start starts image
      → taken (ledger_in rules image) ≡ Ok held → CameFrom rules AnyMoment start kept.records held =
      (λ image held left is. let opens = kept.kept image left in
      let same : opens.held ≡ held = (let e = sym opens.opens ∙ is in cc) in
      subst (CameFrom rules AnyMoment start kept.records) same opens.came) in
      record {
        at_first = λ token closed image held left is. let came = opened image held left is in
            stays start held came.events token are closed came.leads;
        records = kept.records;
        are = kept.are;
        since = λ r token has closing image held left is. let came = opened image held left is in
            over start are r token closing came.events kept.records held came.includes has came.leads;
      }

-- what else holds of the histories of what is kept, where it holds of each
abbrev pub kept_over_so : {Setup R : Type 0} (rules : RecordRules R) (Answers : AnswersBy Setup R) (IsSo : Held R → List
    (Event R) → Type 0) (IsMoment : ℕ → Type 0) (start : Held R) (starts : List (Start (Provider Setup R)))
    → ((held : Held R) (events : List (Event R)) → Leads rules start events held → IsSo start events)
    → AreKeptOverAt rules Answers IsMoment start starts
    → AreKeptOverSo rules Answers (LeftBehindAt rules Answers IsMoment start starts)
    (OpensWhatCameSo rules IsSo IsMoment start) starts
kept_over_so rules Answers IsSo IsMoment start starts so kept = record {
  records = kept.records;
  are = kept.are;
  kept =
      λ image left. let opens = kept.kept image left in record {
        held = opens.held;
        opens = opens.opens;
        came = opens.came;
        so = so opens.held opens.came.events opens.came.leads;
      };
}
