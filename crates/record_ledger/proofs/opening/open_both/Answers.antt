use Rattle.std.specs.Prelude.{IfSome, IfNone, IsOk, Option, None, Some}
use Rattle.std.proofs.Common.{◌≡◌, ◌⊎◌, subst, Ok, refl, ⊎_elim, ◌++◌}
use Rattle.crash_disk.specs.Disk.{DiskState, Image, MayLeave, image_of}
use Rattle.crash_disk.specs.Moments.{DiskShown, Leaves, LeavesOnly}
use Rattle.crash_disk.specs.Steps.{then, weaker}
use Rattle.crash_disk.proofs.Following as calls
use Rattle.gate_journal.specs.Format.{journal}
use Rattle.gate_journal.specs.Opening.{Opens, IsEmptyOrNone, opened}
use Rattle.record_ledger.specs.Calls as plans
use Rattle.record_ledger.specs.Calls.{migrating}
use Rattle.record_ledger.specs.Rules.{RecordRules}
use Rattle.record_ledger.specs.Ledger.{IsOpenedFrom, LeftByOpening, ledger_in, held_of, some_held}
use Rattle.record_ledger.specs.Loading.{IsTakenFrom}
use Rattle.record_ledger.proofs.OpenLaws.{at_err, leaves_now, leaves_ok, on_err, opened_version, opens_image, taken_from, taken_opened}
use Rattle.gate_journal.specs.Calls.{opening}
use Rattle.crash_disk.specs.Plans.{after_all}
use Rattle.gate_journal.specs.Journal.{OpenedJournal}
use Rattle.record_ledger.proofs.Planned.{opening_is}
use Rattle.record_ledger.proofs.opening.open_both.Goals as goal
use Rattle.record_ledger.proofs.opening.open_both.Goals.{After-open_journal}
use Rattle.record_ledger.proofs.opening.open_both.Given.{Over}

if_some : (told : Option DiskState) (F : DiskState → Type 0) → ((d : DiskState) → told ≡ Some d → F d) → IfSome told F
if_some None F each = tt
if_some (Some d) F each = each d refl

at_some : (told : Option DiskState) (F : DiskState → Type 0) (d : DiskState) → told ≡ Some d → IfSome told F → F d
at_some told F d is has = subst (λ (o : Option DiskState). IfSome o F) is has

at_none : (told : Option DiskState) (A : Type 0) → told ≡ None → IfNone told A → A
at_none told A is has = subst (λ (o : Option DiskState). IfNone o A) is has

-- what a disk leaves that tells, and one that does not
as_told : {D R : Type 0} (rules : RecordRules R) (shows : D → DiskShown) (old new : D) (told : Option DiskState)
    → ((d : DiskState) → told ≡ Some d → LeavesOnly shows old new (IsOpenedFrom rules d)) → (told ≡ None → LeavesOnly shows old new (λ _. Unit {0}))
    → LeavesOnly shows old new (LeftByOpening rules told)
as_told rules shows old new None some none = none refl
as_told rules shows old new (Some d) some none = some d refl

pub returns-in_err-journal-clause-moments : goal.returns-in_err-journal-clause-moments
returns-in_err-journal-clause-moments g c =
    let shows = g.D.Disk.shows in
    let told = (g.D.Disk.shows c.args.disk.now).told in
    as_told g.S.Standing.rules shows c.args.disk.now c.open_journal.new.disk told
    (λ d is. weaker shows c.args.disk.now c.open_journal.new.disk (Opens d) (IsOpenedFrom g.S.Standing.rules d) (at_some told (λ d. LeavesOnly shows c.args.disk.now c.open_journal.new.disk (Opens d)) d is c.open_journal.ensures.moments) (opens_image g.S.Standing.rules d))
    (λ none. weaker shows c.args.disk.now c.open_journal.new.disk IsEmptyOrNone (λ _. Unit {0}) (at_none told _ none c.open_journal.ensures.untold) (λ _ _. tt))

pub returns-clause-gives : goal.returns-clause-gives
returns-clause-gives g c =
    let told = (g.D.Disk.shows c.args.disk.now).told in
    if_some told (λ d. _) (λ d is.
    let e : opened (journal (image_of d)) ≡ Ok c.in_ok-journal.journal.kept = at_some told (λ d. opened (journal (image_of d)) ≡ Ok c.in_ok-journal.journal.kept) d is c.in_ok-journal.ensures.gives in
    rw (taken_opened g.S.Standing.rules (image_of d) c.in_ok-journal.journal.kept e) (c.take.ensures.gives (opened_version (image_of d) c.in_ok-journal.journal.kept e)))

pub returns-clause-moments : goal.returns-clause-moments
returns-clause-moments g c =
    let shows = g.D.Disk.shows in
    let told = (g.D.Disk.shows c.args.disk.now).told in
    as_told g.S.Standing.rules shows c.args.disk.now c.take.new.disk told (λ d is.
    let e : opened (journal (image_of d)) ≡ Ok c.in_ok-journal.journal.kept = at_some told (λ d. opened (journal (image_of d)) ≡ Ok c.in_ok-journal.journal.kept) d is c.in_ok-journal.ensures.gives in
    let may : MayLeave d (image_of d) = at_some told (λ d. MayLeave d (image_of d)) d is (g.met.D.Disk.reads_an_image c.args.disk.now) in
    then shows c.args.disk.now c.open_journal.new.disk c.take.new.disk (Opens d) (IsTakenFrom g.S.Standing.rules c.in_ok-journal.journal.kept) (IsOpenedFrom g.S.Standing.rules d)
    (at_some told (λ d. LeavesOnly shows c.args.disk.now c.open_journal.new.disk (Opens d)) d is c.open_journal.ensures.moments)
    c.take.ensures.moments (opens_image g.S.Standing.rules d) (λ image from. taken_from g.S.Standing.rules d c.in_ok-journal.journal.kept image may e from))
    (λ none. then shows c.args.disk.now c.open_journal.new.disk c.take.new.disk IsEmptyOrNone (IsTakenFrom g.S.Standing.rules c.in_ok-journal.journal.kept) (λ _. Unit {0})
    (at_none told _ none c.open_journal.ensures.untold) c.take.ensures.moments (λ _ _. tt) (λ _ _. tt))

-- where each image at the start stood for a ledger, each that may be left behind the journal does
still_ok : (g : Over) (c : After-open_journal g) → ((start : Image) → Leaves (g.D.Disk.shows c.args.disk.now).told start → IsOk (ledger_in g.S.Standing.rules start)) → (image : Image) → Leaves (g.D.Disk.shows c.open_journal.new.disk).told image → IsOk (ledger_in g.S.Standing.rules image)
still_ok g c each =
    let shows = g.D.Disk.shows in
    let d0 = c.args.disk.now in
    let d1 = c.open_journal.new.disk in
    leaves_now shows d0 d1 (λ image. IsOk (ledger_in g.S.Standing.rules image)) g.met.D.Disk.counts_now (leaves_ok g.S.Standing.rules shows (g.D.Disk.shows d0).told d0 d1 c.open_journal.ensures.moments c.open_journal.ensures.untold each)

pub returns-in_err-journal-clause-err : goal.returns-in_err-journal-clause-err
returns-in_err-journal-clause-err g c = at_err c.from_residual.result _ (still_ok g (goal.at.returns-in_err-journal-clause-err g c).After-open_journal)

pub returns-clause-err : goal.returns-clause-err
returns-clause-err g c =
    on_err c.take.result _ _ (λ (errs : (image : Image) → Leaves (g.D.Disk.shows c.take.new.disk).told image → Leaves (g.D.Disk.shows c.open_journal.new.disk).told image ⊎ IsOk (ledger_in g.S.Standing.rules image)) each image left.
    ⊎_elim (still_ok g (goal.at.returns-clause-err g c).After-open_journal each image) (λ ok. ok) (errs image left)) c.take.ensures.err

-- THE CHANGING CALLS

pub returns-in_err-journal-clause-calls : goal.returns-in_err-journal-clause-calls
returns-in_err-journal-clause-calls g c =
    calls.breaks_off {T = OpenedJournal} _ c.in_err-journal.field-0.0 c.from_residual.result opening
    (λ d. migrating g.S.Standing.rules (ledger_in g.S.Standing.rules (image_of d)) d) c.args.disk.now c.open_journal.new.disk c.from_residual.ensures.1
    c.in_err-journal.ensures.calls

pub returns-clause-calls : goal.returns-clause-calls
returns-clause-calls g c =
    let rules = g.S.Standing.rules in
    let d0 = c.args.disk.now in
    let d1 = c.open_journal.new.disk in
    let told = (g.D.Disk.shows d0).told in
    let kept = c.in_ok-journal.journal.kept in
    let migration = migrating rules (some_held (held_of rules kept)) in
    calls.follows_same c.take.result (λ d. opening d ++ migration (after_all (opening d) d)) (plans.opening rules) d0 c.take.new.disk
    (if_some told (λ d. _) (λ d is. opening_is rules d kept (at_some told (λ d. opened (journal (image_of d)) ≡ Ok kept) d is c.in_ok-journal.ensures.gives)))
    (calls.then_follows c.take.result opening migration d0 d1 c.take.new.disk (calls.made c.in_ok-journal.journal opening d0 d1 c.in_ok-journal.ensures.calls)
    c.take.ensures.calls)
