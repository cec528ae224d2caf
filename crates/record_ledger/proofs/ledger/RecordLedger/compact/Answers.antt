use Rattle.std.proofs.Common.{◌≡◌, ◌<◌, ◌∙◌, ℕ, List, None, false, true, max, inr, refl, sym, ap, subst, arith}
use Rattle.crash_disk.specs.Disk.{Image, DiskState}
use Rattle.crash_disk.specs.Steps.{weaker}
use Rattle.crash_disk.proofs.Following as calls
use Rattle.gate_journal.specs.declared.header.Header.{Header}
use Rattle.gate_journal.specs.Journal.{OpenedJournal, Fits, IsOldOrNew, made_anew}
use Rattle.gate_journal.proofs.Owning.{left_now_stands}
use Rattle.record_ledger.specs.Ledger.{Held, OpenedLedger, next_number}
use Rattle.record_ledger.specs.Keeping.{held_in, opened_of, StandsFor}
use Rattle.record_ledger.specs.Compacting.{LAST_GENERATION, IsCompacted, IsOldOrCompacted}
use Rattle.record_ledger.proofs.Committing.{ledgers_own, journals_own, own_broken, its_kept}
use Rattle.record_ledger.proofs.KeptRecords.{kept_are_records}
use Rattle.record_ledger.proofs.CompactSteps.{its_read, stands_anew, compacted, leads, old_or_compacted_ok}
use Rattle.record_ledger.specs.Rules.{StandReady, RecordRules}
use Rattle.gate_journal.proofs.Lifting.{always}
use Rattle.gate_journal.specs.Calls.{remaking}
use Rattle.gate_journal.specs.Format.{Kept}
use Rattle.record_ledger.specs.Calls.{compacting}
use Rattle.record_ledger.proofs.ledger.RecordLedger.compact.Goals.{After-compact}
use Rattle.record_ledger.proofs.ledger.RecordLedger.compact.Given.{Over}
use Rattle.std.specs.Prelude.{Result, Err}
use Rattle.gate_journal.specs.declared.fault.OpenFault.{OpenFault}
use Rattle.gate_journal.specs.declared.fault.OpenFault.TheVariants.{DiskFault}
use Rattle.record_ledger.proofs.ledger.RecordLedger.compact.Goals as goal

pub choose-requires : goal.choose-requires
choose-requires g c = its_read g.S.Standing.rules (StandReady g.S.Standing.row_rules) (kept_are_records g.S.Standing.rules c.laws_hold.ensures.kept) c.self.inside.journal.kept c.self.inside.standing c.self.invariant.0

pub compact-requires-clause-own : goal.compact-requires-clause-own
compact-requires-clause-own g c =
    let held = ap (λ (l : OpenedLedger g.row.S-Record.Denot g.row.S.Denot). l.held) c.self.view_is in
    let broken = ap (λ (l : OpenedLedger g.row.S-Record.Denot g.row.S.Denot). l.broken) c.self.view_is ∙ c.requires.whole in
    ledgers_own g.S.Standing.rules (StandReady g.S.Standing.row_rules) (g.D.Disk.shows c.args.disk.now).told c.self.inside.journal c.self.inside.standing c.args.self.now c.self.invariant.0 held (c.self.invariant.1 broken) c.requires.whole c.requires.own

pub compact-requires-clause-fits : goal.compact-requires-clause-fits
compact-requires-clause-fits g c = subst Fits (sym c.deref.ensures.value) c.in_ok-payloads.ensures.fits

pub invariant_of-self : goal.invariant_of-self
invariant_of-self g c =
    let kept = c.self.inside.journal.kept in
    let chosen = c.in_ok-payloads.field-0 in
    let horizon = c.max-horizon.result in
    let next = c.next_number-next.result in
    let anew = c.in-Ok.ensures.ok ∙ ap (λ (ps : List (List ℕ)). record { kept = made_anew ps horizon next kept; spare = None; broken = false }) c.deref.ensures.value in (
      subst (λ (j : OpenedJournal). StandsFor g.S.Standing.rules (StandReady g.S.Standing.row_rules) j.kept.holds chosen.standing) (sym anew)
          (stands_anew g.S.Standing.rules (StandReady g.S.Standing.row_rules) (kept_are_records g.S.Standing.rules c.laws_hold.ensures.kept) c.args.now kept c.self.inside.standing c.self.invariant.0 chosen.payloads.items chosen.standing c.in_ok-payloads.ensures horizon next),
      λ whole. ap (λ (j : OpenedJournal). j.broken) anew,
    )

pub returns-in-Ok-clause-ok : goal.returns-in-Ok-clause-ok
returns-in-Ok-clause-ok g c =
    let kept = c.self.inside.journal.kept in
    let chosen = c.in_ok-payloads.field-0 in
    let horizon = c.max-horizon.result in
    let next = c.next_number-next.result in
    let anew = c.in-Ok.ensures.ok ∙ ap (λ (ps : List (List ℕ)). record { kept = made_anew ps horizon next kept; spare = None; broken = false }) c.deref.ensures.value in
    let held : held_in g.S.Standing.rules kept ≡ c.args.self.now.held = ap (λ (l : OpenedLedger g.row.S-Record.Denot g.row.S.Denot). l.held) c.self.view_is in
    let at : horizon ≡ max kept.holds.header.horizon c.args.now = c.max-horizon.ensures ∙ ap (λ (h : Header). max h.horizon c.args.now) c.header-header.ensures in
    let is = compacted g.S.Standing.rules (StandReady g.S.Standing.row_rules) (kept_are_records g.S.Standing.rules c.laws_hold.ensures.kept) c.args.now kept c.self.inside.standing c.self.invariant.0 chosen.payloads.items chosen.standing c.in_ok-payloads.ensures horizon next at (c.next_number-next.ensures ∙ sym (ap (next_number g.S.Standing.rules) held)) in (
      inr (
        omega (arith, c.if-header.false, ap (λ (h : Held g.row.S-Record.Denot). h.header.generation) held, ap (λ (h : Header). h.generation) c.header-header.ensures),
        subst (λ (h : Held g.row.S-Record.Denot). IsCompacted g.S.Standing.rules c.args.now h (held_in g.S.Standing.rules c.compact.new.self.kept)) held
            (subst (λ (j : OpenedJournal). IsCompacted g.S.Standing.rules c.args.now (held_in g.S.Standing.rules kept) (held_in g.S.Standing.rules j.kept)) (sym anew) is),
      ),
      ap (λ (l : OpenedLedger g.row.S-Record.Denot g.row.S.Denot). l.broken) c.self.view_is ∙ c.requires.whole,
    )

pub returns-in-Ok-clause-own : goal.returns-in-Ok-clause-own
returns-in-Ok-clause-own g c =
    let kept = c.self.inside.journal.kept in
    let chosen = c.in_ok-payloads.field-0 in
    let horizon = c.max-horizon.result in
    let next = c.next_number-next.result in
    let anew = c.in-Ok.ensures.ok ∙ ap (λ (ps : List (List ℕ)). record { kept = made_anew ps horizon next kept; spare = None; broken = false }) c.deref.ensures.value in
    let stands = subst (λ (j : OpenedJournal). StandsFor g.S.Standing.rules (StandReady g.S.Standing.row_rules) j.kept.holds chosen.standing) (sym anew)
    (stands_anew g.S.Standing.rules (StandReady g.S.Standing.row_rules) (kept_are_records g.S.Standing.rules c.laws_hold.ensures.kept) c.args.now kept c.self.inside.standing c.self.invariant.0 chosen.payloads.items chosen.standing c.in_ok-payloads.ensures horizon next) in
    journals_own g.S.Standing.rules (StandReady g.S.Standing.row_rules) (g.D.Disk.shows c.compact.new.disk).told c.compact.new.self chosen.standing (opened_of g.S.Standing.rules c.compact.new.self chosen.standing c.self.inside.key c.self.inside.broken) stands refl
    (ap (λ (j : OpenedJournal). j.broken) anew) (ap (λ (l : OpenedLedger g.row.S-Record.Denot g.row.S.Denot). l.broken) c.self.view_is ∙ c.requires.whole) c.compact.ensures.own

pub returns-in-Ok-clause-moments : goal.returns-in-Ok-clause-moments
returns-in-Ok-clause-moments g c =
    let kept = c.self.inside.journal.kept in
    let held : held_in g.S.Standing.rules kept ≡ c.args.self.now.held = ap (λ (l : OpenedLedger g.row.S-Record.Denot g.row.S.Denot). l.held) c.self.view_is in
    let horizon = c.max-horizon.result in
    let next = c.next_number-next.result in
    weaker g.D.Disk.shows c.args.disk.now c.compact.new.disk (IsOldOrNew kept (made_anew c.deref.result.now horizon next kept))
    (IsOldOrCompacted g.S.Standing.rules c.args.now c.args.self.now.held) c.compact.ensures.moments
    (leads g.S.Standing.rules (StandReady g.S.Standing.row_rules) (kept_are_records g.S.Standing.rules c.laws_hold.ensures.kept) c.args.now kept c.self.inside.standing c.self.invariant.0 c.in_ok-payloads.field-0.payloads.items c.in_ok-payloads.field-0.standing c.in_ok-payloads.ensures horizon next
    (c.max-horizon.ensures ∙ ap (λ (h : Header). max h.horizon c.args.now) c.header-header.ensures) (c.next_number-next.ensures ∙ sym (ap (next_number g.S.Standing.rules) held)) (omega (arith, c.if-header.false, ap (λ (h : Header). h.generation) c.header-header.ensures))
    c.args.self.now.held (ap (λ (l : OpenedLedger g.row.S-Record.Denot g.row.S.Denot). l.held) c.self.view_is) c.deref.result.now c.deref.ensures.value)

pub returns-in-Err-NoMemory-clause-moments : goal.returns-in-Err-NoMemory-clause-moments
returns-in-Err-NoMemory-clause-moments g c =
    let kept = c.self.inside.journal.kept in
    let held : held_in g.S.Standing.rules kept ≡ c.args.self.now.held = ap (λ (l : OpenedLedger g.row.S-Record.Denot g.row.S.Denot). l.held) c.self.view_is in
    let horizon = c.max-horizon.result in
    let next = c.next_number-next.result in
    weaker g.D.Disk.shows c.args.disk.now c.compact.new.disk (IsOldOrNew kept (made_anew c.deref.result.now horizon next kept))
    (IsOldOrCompacted g.S.Standing.rules c.args.now c.args.self.now.held) c.compact.ensures.moments
    (leads g.S.Standing.rules (StandReady g.S.Standing.row_rules) (kept_are_records g.S.Standing.rules c.laws_hold.ensures.kept) c.args.now kept c.self.inside.standing c.self.invariant.0 c.in_ok-payloads.field-0.payloads.items c.in_ok-payloads.field-0.standing c.in_ok-payloads.ensures horizon next
    (c.max-horizon.ensures ∙ ap (λ (h : Header). max h.horizon c.args.now) c.header-header.ensures) (c.next_number-next.ensures ∙ sym (ap (next_number g.S.Standing.rules) held)) (omega (arith, c.if-header.false, ap (λ (h : Header). h.generation) c.header-header.ensures))
    c.args.self.now.held (ap (λ (l : OpenedLedger g.row.S-Record.Denot g.row.S.Denot). l.held) c.self.view_is) c.deref.result.now c.deref.ensures.value)

pub returns-in-Err-DiskFault-clause-own : goal.returns-in-Err-DiskFault-clause-own
returns-in-Err-DiskFault-clause-own g c =
    let kept = c.self.inside.journal.kept in
    let horizon = c.max-horizon.result in
    let next = c.next_number-next.result in
    let held : held_in g.S.Standing.rules kept ≡ c.args.self.now.held = ap (λ (l : OpenedLedger g.row.S-Record.Denot g.row.S.Denot). l.held) c.self.view_is in
    let Q : Image → Type 0 = IsOldOrCompacted g.S.Standing.rules c.args.now c.args.self.now.held in
    let so = weaker g.D.Disk.shows c.args.disk.now c.compact.new.disk (IsOldOrNew kept (made_anew c.deref.result.now horizon next kept))
    Q c.compact.ensures.moments
    (leads g.S.Standing.rules (StandReady g.S.Standing.row_rules) (kept_are_records g.S.Standing.rules c.laws_hold.ensures.kept) c.args.now kept c.self.inside.standing c.self.invariant.0 c.in_ok-payloads.field-0.payloads.items c.in_ok-payloads.field-0.standing c.in_ok-payloads.ensures horizon next
    (c.max-horizon.ensures ∙ ap (λ (h : Header). max h.horizon c.args.now) c.header-header.ensures) (c.next_number-next.ensures ∙ sym (ap (next_number g.S.Standing.rules) held)) (omega (arith, c.if-header.false, ap (λ (h : Header). h.generation) c.header-header.ensures))
    c.args.self.now.held held c.deref.result.now c.deref.ensures.value) in
    own_broken g.S.Standing.rules (StandReady g.S.Standing.row_rules) (g.D.Disk.shows c.compact.new.disk).told (opened_of g.S.Standing.rules c.compact.new.self c.self.inside.standing c.self.inside.key true) refl (λ image left.
    old_or_compacted_ok g.S.Standing.rules (StandReady g.S.Standing.row_rules) (kept_are_records g.S.Standing.rules c.laws_hold.ensures.kept) c.args.now c.args.self.now.held image
    (left_now_stands g.D.Disk.shows c.args.disk.now c.compact.new.disk Q g.met.D.Disk.counts_now so image left))

pub returns-in-Err-DiskFault-clause-moments : goal.returns-in-Err-DiskFault-clause-moments
returns-in-Err-DiskFault-clause-moments g c =
    let kept = c.self.inside.journal.kept in
    let horizon = c.max-horizon.result in
    let next = c.next_number-next.result in
    let held : held_in g.S.Standing.rules kept ≡ c.args.self.now.held = ap (λ (l : OpenedLedger g.row.S-Record.Denot g.row.S.Denot). l.held) c.self.view_is in
    weaker g.D.Disk.shows c.args.disk.now c.compact.new.disk (IsOldOrNew kept (made_anew c.deref.result.now horizon next kept))
    (IsOldOrCompacted g.S.Standing.rules c.args.now c.args.self.now.held) c.compact.ensures.moments
    (leads g.S.Standing.rules (StandReady g.S.Standing.row_rules) (kept_are_records g.S.Standing.rules c.laws_hold.ensures.kept) c.args.now kept c.self.inside.standing c.self.invariant.0 c.in_ok-payloads.field-0.payloads.items c.in_ok-payloads.field-0.standing c.in_ok-payloads.ensures horizon next
    (c.max-horizon.ensures ∙ ap (λ (h : Header). max h.horizon c.args.now) c.header-header.ensures) (c.next_number-next.ensures ∙ sym (ap (next_number g.S.Standing.rules) held)) (omega (arith, c.if-header.false, ap (λ (h : Header). h.generation) c.header-header.ensures))
    c.args.self.now.held held c.deref.result.now c.deref.ensures.value)

-- THE CHANGING CALLS

module _ (g : Over) (c : After-compact g) where
  abbrev rules : RecordRules g.row.S-Record.Denot
  rules = g.S.Standing.rules

  abbrev kept : Kept
  kept = c.self.inside.journal.kept

  -- the journal that is made, and the ledger in it
  abbrev anew : Kept
  anew = made_anew c.in_ok-payloads.field-0.payloads.items c.max-horizon.result c.next_number-next.result kept

  is_compacted : IsCompacted rules c.args.now c.args.self.now.held (held_in rules anew)
  is_compacted =
      let held : held_in rules kept ≡ c.args.self.now.held = ap (λ (l : OpenedLedger g.row.S-Record.Denot g.row.S.Denot). l.held) c.self.view_is in
      subst (λ (h : Held g.row.S-Record.Denot). IsCompacted rules c.args.now h (held_in rules anew)) held
      (compacted rules (StandReady g.S.Standing.row_rules) (kept_are_records rules c.laws_hold.ensures.kept) c.args.now kept c.self.inside.standing
      c.self.invariant.0 c.in_ok-payloads.field-0.payloads.items c.in_ok-payloads.field-0.standing c.in_ok-payloads.ensures c.max-horizon.result
      c.next_number-next.result (c.max-horizon.ensures ∙ ap (λ (h : Header). max h.horizon c.args.now) c.header-header.ensures)
      (c.next_number-next.ensures ∙ sym (ap (next_number rules) held)))

  less : c.args.self.now.held.header.generation < LAST_GENERATION
  less = omega (
    arith,
    c.if-header.false,
    ap (λ (l : OpenedLedger g.row.S-Record.Denot g.row.S.Denot). l.held.header.generation) c.self.view_is,
    ap (λ (h : Header). h.generation) c.header-header.ensures,
  )

  -- the plan of the journal is that of the ledger
  planned : (d : DiskState) → remaking (made_anew c.deref.result.now c.max-horizon.result c.next_number-next.result kept) d ≡ compacting rules (held_in rules anew) d
  planned d =
      ap (λ (ps : List (List ℕ)). remaking (made_anew ps c.max-horizon.result c.next_number-next.result kept) d) c.deref.ensures.value
      ∙ ap (λ (k : Kept). remaking k d)
      (sym (its_kept rules (StandReady g.S.Standing.row_rules) anew c.in_ok-payloads.field-0.standing
      (stands_anew rules (StandReady g.S.Standing.row_rules) (kept_are_records rules c.laws_hold.ensures.kept) c.args.now kept c.self.inside.standing
      c.self.invariant.0 c.in_ok-payloads.field-0.payloads.items c.in_ok-payloads.field-0.standing c.in_ok-payloads.ensures c.max-horizon.result
      c.next_number-next.result)))

pub returns-in-Ok-clause-calls : goal.returns-in-Ok-clause-calls
returns-in-Ok-clause-calls g c =
    let a = (goal.at.returns-in-Ok-clause-calls g c).After-compact in
    let d0 = c.args.disk.now in
    let new = c.compact.new.disk in
    let plan = remaking (made_anew c.deref.result.now c.max-horizon.result c.next_number-next.result (kept g a)) in
    inr (
      less g a,
      held_in g.S.Standing.rules (anew g a),
      is_compacted g a,
      calls.answers tt (compacting g.S.Standing.rules (held_in g.S.Standing.rules (anew g a))) d0 new
          (calls.follows_same _ plan (compacting g.S.Standing.rules (held_in g.S.Standing.rules (anew g a))) d0 new (always (g.D.Disk.shows d0).told _ (planned g a))
          (calls.made c.in-Ok.field-0 plan d0 new c.in-Ok.ensures.calls)),
    )

pub returns-in-Err-DiskFault-clause-calls : goal.returns-in-Err-DiskFault-clause-calls
returns-in-Err-DiskFault-clause-calls g c =
    let a = (goal.at.returns-in-Err-DiskFault-clause-calls g c).After-compact in
    let d0 = c.args.disk.now in
    let new = c.compact.new.disk in
    let plan = remaking (made_anew c.deref.result.now c.max-horizon.result c.next_number-next.result (kept g a)) in
    let failed : Result (Unit {0}) OpenFault = Err DiskFault in
    inr (
      less g a,
      held_in g.S.Standing.rules (anew g a),
      is_compacted g a,
      calls.follows_same failed plan (compacting g.S.Standing.rules (held_in g.S.Standing.rules (anew g a))) d0 new (always (g.D.Disk.shows d0).told _ (planned g a))
          (calls.hands_on {T = Unit {0}} (λ _. Unit {0}) c.in-Err-DiskFault.field-0 failed plan d0 new tt c.in-Err-DiskFault.ensures.calls),
    )
