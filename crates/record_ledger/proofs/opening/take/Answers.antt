use Rattle.std.proofs.Common.{ℕ, List, sym, ◌∙◌, ap, subst, Ok, inr, ◌≡◌}
use Rattle.crash_disk.proofs.Following as calls
use Rattle.gate_journal.specs.Format.{Kept}
use Rattle.crash_disk.specs.Steps.{weaker}
use Rattle.gate_journal.specs.Journal.{Fits, IsOldOrNew}
use Rattle.record_ledger.specs.Keeping.{StandsFor, held_in}
use Rattle.record_ledger.specs.Loading.{IsTakenFrom, in_version_2, to_version_2}
use Rattle.record_ledger.proofs.LoadLaws.{fits_anew}
use Rattle.record_ledger.proofs.OpenLaws.{stands_in_2, taken_in_2, taken_image, taken_ok, leaves_now, at_err}
use Rattle.record_ledger.specs.Rules.{StandReady}
use Rattle.gate_journal.proofs.Lifting.{always}
use Rattle.crash_disk.specs.Disk.{DiskState}
use Rattle.record_ledger.specs.Calls.{migrating}
use Rattle.record_ledger.specs.Ledger.{held_of, some_held}
use Rattle.record_ledger.proofs.Planned.{migrating_is}
use Rattle.record_ledger.proofs.opening.take.Goals.{After-to_version_2}
use Rattle.record_ledger.proofs.opening.take.Given.{Over}
use Rattle.record_ledger.proofs.opening.take.Goals as goal

pub to_version_2-requires-clause-fits : goal.to_version_2-requires-clause-fits
to_version_2-requires-clause-fits g c one =
    subst Fits (sym c.deref.ensures.value) (fits_anew g.S.Standing.rules (StandReady g.S.Standing.row_rules) c.laws_hold.ensures.bytes c.args.journal.kept.holds.version c.args.journal.kept.holds.payloads c.in_ok-standing.field-0.standing c.in_ok-standing.field-0.payloads.items one c.in_ok-standing.ensures (c.records_fit.ensures.one one))

pub returns-in_err-to_version_2-clause-moments : goal.returns-in_err-to_version_2-clause-moments
returns-in_err-to_version_2-clause-moments g c =
    weaker g.D.Disk.shows c.args.disk.now c.to_version_2.new.disk (IsOldOrNew c.args.journal.kept (in_version_2 c.deref.result.now c.args.journal.kept)) (IsTakenFrom g.S.Standing.rules c.args.journal.kept) c.to_version_2.ensures.moments
    (λ image is. taken_image g.S.Standing.rules (StandReady g.S.Standing.row_rules) c.args.journal.kept c.in_ok-standing.field-0.standing c.in_ok-standing.field-0.payloads.items c.in_ok-standing.ensures image
    (subst (λ (ps : List (List ℕ)). IsOldOrNew c.args.journal.kept (in_version_2 ps c.args.journal.kept) image) c.deref.ensures.value is))

pub returns-clause-gives : goal.returns-clause-gives
returns-clause-gives g c version =
    taken_in_2 g.S.Standing.rules (StandReady g.S.Standing.row_rules) c.args.journal.kept c.in_ok-standing.field-0.standing c.in_ok-standing.field-0.payloads.items c.in_ok-standing.ensures version
    ∙ ap (λ (k : Kept). Ok (held_in g.S.Standing.rules k)) (sym (c.in_ok-to_version_2.ensures.ok.0 ∙ ap (λ (ps : List (List ℕ)). in_version_2 ps c.args.journal.kept) c.deref.ensures.value))

pub returns-clause-whole : goal.returns-clause-whole
returns-clause-whole g c = (
  c.in_ok-to_version_2.ensures.ok.1,
  subst (λ (k : Kept). StandsFor g.S.Standing.rules (StandReady g.S.Standing.row_rules) k.holds c.in_ok-standing.field-0.standing) (sym (c.in_ok-to_version_2.ensures.ok.0 ∙ ap (λ (ps : List (List ℕ)). in_version_2 ps c.args.journal.kept) c.deref.ensures.value))
      (stands_in_2 g.S.Standing.rules (StandReady g.S.Standing.row_rules) c.args.journal.kept c.in_ok-standing.field-0.standing c.in_ok-standing.field-0.payloads.items c.in_ok-standing.ensures c.in_ok-to_version_2.ensures.version),
)

pub returns-clause-moments : goal.returns-clause-moments
returns-clause-moments g c =
    weaker g.D.Disk.shows c.args.disk.now c.to_version_2.new.disk (IsOldOrNew c.args.journal.kept (in_version_2 c.deref.result.now c.args.journal.kept)) (IsTakenFrom g.S.Standing.rules c.args.journal.kept) c.to_version_2.ensures.moments
    (λ image is. taken_image g.S.Standing.rules (StandReady g.S.Standing.row_rules) c.args.journal.kept c.in_ok-standing.field-0.standing c.in_ok-standing.field-0.payloads.items c.in_ok-standing.ensures image
    (subst (λ (ps : List (List ℕ)). IsOldOrNew c.args.journal.kept (in_version_2 ps c.args.journal.kept) image) c.deref.ensures.value is))

pub returns-in_err-to_version_2-clause-err : goal.returns-in_err-to_version_2-clause-err
returns-in_err-to_version_2-clause-err g c =
    let kept = c.args.journal.kept in
    at_err c.from_residual-in_err-to_version_2.result _ (λ image left.
    let is = leaves_now g.D.Disk.shows c.args.disk.now c.to_version_2.new.disk (IsOldOrNew kept (in_version_2 c.deref.result.now kept)) g.met.D.Disk.counts_now c.to_version_2.ensures.moments image left in
    inr (taken_ok g.S.Standing.rules (StandReady g.S.Standing.row_rules) kept c.in_ok-standing.field-0.standing c.in_ok-standing.field-0.payloads.items c.in_ok-standing.ensures image (taken_image g.S.Standing.rules (StandReady g.S.Standing.row_rules) kept c.in_ok-standing.field-0.standing c.in_ok-standing.field-0.payloads.items c.in_ok-standing.ensures image
    (subst (λ (ps : List (List ℕ)). IsOldOrNew kept (in_version_2 ps kept) image) c.deref.ensures.value is))))

-- THE CHANGING CALLS

-- the plan of the migration is that of the ledger that stands there
planned : (g : Over) (c : After-to_version_2 g) (d : DiskState) →
    to_version_2 c.deref.result.now c.args.journal.kept d ≡ migrating g.S.Standing.rules (some_held (held_of g.S.Standing.rules c.args.journal.kept)) d
planned g c d =
    ap (λ (ps : List (List ℕ)). to_version_2 ps c.args.journal.kept d) c.deref.ensures.value
    ∙ migrating_is g.S.Standing.rules (StandReady g.S.Standing.row_rules) c.args.journal.kept c.in_ok-standing.field-0.standing
    c.in_ok-standing.field-0.payloads.items c.in_ok-standing.ensures d

pub returns-in_err-to_version_2-clause-calls : goal.returns-in_err-to_version_2-clause-calls
returns-in_err-to_version_2-clause-calls g c =
    let a = (goal.at.returns-in_err-to_version_2-clause-calls g c).After-to_version_2 in
    let kept = c.args.journal.kept in
    let d0 = c.args.disk.now in
    let new = c.to_version_2.new.disk in
    let other = c.from_residual-in_err-to_version_2.result in
    let plan = to_version_2 c.deref.result.now kept in
    calls.follows_same other plan (migrating g.S.Standing.rules (some_held (held_of g.S.Standing.rules kept))) d0 new (always (g.D.Disk.shows d0).told _ (planned g a))
    (calls.hands_on {T = Unit {0}} _ c.in_err-to_version_2.field-0.0 other plan d0 new c.from_residual-in_err-to_version_2.ensures.1
    c.in_err-to_version_2.ensures.calls)

pub returns-clause-calls : goal.returns-clause-calls
returns-clause-calls g c =
    let a = (goal.at.returns-clause-calls g c).After-to_version_2 in
    let kept = c.args.journal.kept in
    let d0 = c.args.disk.now in
    let new = c.to_version_2.new.disk in
    let plan = to_version_2 c.deref.result.now kept in
    let goes = migrating g.S.Standing.rules (some_held (held_of g.S.Standing.rules kept)) in
    calls.answers _ goes d0 new
    (calls.follows_same _ plan goes d0 new (always (g.D.Disk.shows d0).told _ (planned g a))
    (calls.made c.in_ok-to_version_2.field-0 plan d0 new c.in_ok-to_version_2.ensures.calls))
