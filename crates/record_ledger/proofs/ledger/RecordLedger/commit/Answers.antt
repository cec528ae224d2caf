use Rattle.std.proofs.Common.{◌≡◌, ◌∙◌, ◌++◌, ◌∷◌, [], ℕ, true, false, List, None, refl, sym, ap, subst}
use Rattle.crash_disk.specs.Disk.{Image}
use Rattle.gate_journal.proofs.Owning.{left_now_stands}
use Rattle.gate_journal.specs.Journal.{OpenedJournal, IsBeforeOrAfter, kept_with}
use Rattle.record_ledger.specs.Ledger.{Held, OpenedLedger, IsWithOrWithout, held_with}
use Rattle.record_ledger.specs.Keeping.{held_in, records_in, opened_of, StandsFor, IsPayload}
use Rattle.record_ledger.proofs.Committing.{ledgers_own, journals_own, own_broken, with_or_without, with_or_without_ok, leaves_so, stands_more, holds_more, few_records, stand_for}
use Rattle.record_ledger.specs.Rules.{StandReady}
use Rattle.record_ledger.proofs.ledger.RecordLedger.commit.Goals as goal

pub append-requires-clause-own : goal.append-requires-clause-own
append-requires-clause-own g c =
    let held = ap (λ (l : OpenedLedger g.row.S-Record.Denot g.row.S.Denot). l.held) c.self.view_is in
    let broken = ap (λ (l : OpenedLedger g.row.S-Record.Denot g.row.S.Denot). l.broken) c.self.view_is ∙ c.requires.whole in
    ledgers_own g.S.Standing.rules (StandReady g.S.Standing.row_rules) (g.D.Disk.shows c.args.disk.now).told c.self.inside.journal c.self.inside.standing c.args.self.now c.self.invariant.0 held (c.self.invariant.1 broken) c.requires.whole c.requires.own

pub returns-in_err-append-clause-own : goal.returns-in_err-append-clause-own
returns-in_err-append-clause-own g c =
    let kept = c.self.inside.journal.kept in
    let standing = c.self.inside.standing in
    let r = c.args.draft in
    let held : held_in g.S.Standing.rules kept ≡ c.args.self.now.held = ap (λ (l : OpenedLedger g.row.S-Record.Denot g.row.S.Denot). l.held) c.self.view_is in
    let is : g.S.Standing.rules.is_record (records_in g.S.Standing.rules kept.holds) r ≡ true = ap (λ (h : Held g.row.S-Record.Denot). g.S.Standing.rules.is_record h.records r) held ∙ c.requires.can.is in
    let spells : IsPayload g.S.Standing.rules c.draft.inside.payload r = subst (λ (e : g.row.S-Record.Denot). IsPayload g.S.Standing.rules c.draft.inside.payload e) c.draft.view_is c.draft.invariant in
    let payload = c.as_slice.result.now in
    let spells' : IsPayload g.S.Standing.rules payload r = subst (λ (p : List ℕ). IsPayload g.S.Standing.rules p r) (sym c.as_slice.ensures) spells in
    let P : Image → Type 0 = IsBeforeOrAfter payload kept in
    let Q : Image → Type 0 = IsWithOrWithout g.S.Standing.rules r c.args.self.now.held in
    let leads : (image : Image) → P image → Q image = λ image p. subst (λ (h : Held g.row.S-Record.Denot). IsWithOrWithout g.S.Standing.rules r h image) held (with_or_without g.S.Standing.rules (StandReady g.S.Standing.row_rules) kept standing payload r c.self.invariant.0 spells' is image p) in
    let so = leaves_so g.D.Disk.shows c.args.disk.now c.append.new.disk P Q leads c.append.ensures.moments in
    own_broken g.S.Standing.rules (StandReady g.S.Standing.row_rules) (g.D.Disk.shows c.append.new.disk).told (opened_of g.S.Standing.rules c.append.new.self standing c.self.inside.key true) refl (λ image left.
    with_or_without_ok g.S.Standing.rules (StandReady g.S.Standing.row_rules) r c.args.self.now.held image (left_now_stands g.D.Disk.shows c.args.disk.now c.append.new.disk Q g.met.D.Disk.counts_now so image left))

pub returns-in_err-append-clause-moments : goal.returns-in_err-append-clause-moments
returns-in_err-append-clause-moments g c =
    let kept = c.self.inside.journal.kept in
    let standing = c.self.inside.standing in
    let r = c.args.draft in
    let held : held_in g.S.Standing.rules kept ≡ c.args.self.now.held = ap (λ (l : OpenedLedger g.row.S-Record.Denot g.row.S.Denot). l.held) c.self.view_is in
    let is : g.S.Standing.rules.is_record (records_in g.S.Standing.rules kept.holds) r ≡ true = ap (λ (h : Held g.row.S-Record.Denot). g.S.Standing.rules.is_record h.records r) held ∙ c.requires.can.is in
    let spells : IsPayload g.S.Standing.rules c.draft.inside.payload r = subst (λ (e : g.row.S-Record.Denot). IsPayload g.S.Standing.rules c.draft.inside.payload e) c.draft.view_is c.draft.invariant in
    let payload = c.as_slice.result.now in
    let spells' : IsPayload g.S.Standing.rules payload r = subst (λ (p : List ℕ). IsPayload g.S.Standing.rules p r) (sym c.as_slice.ensures) spells in
    let P : Image → Type 0 = IsBeforeOrAfter payload kept in
    let Q : Image → Type 0 = IsWithOrWithout g.S.Standing.rules r c.args.self.now.held in
    let leads : (image : Image) → P image → Q image = λ image p. subst (λ (h : Held g.row.S-Record.Denot). IsWithOrWithout g.S.Standing.rules r h image) held (with_or_without g.S.Standing.rules (StandReady g.S.Standing.row_rules) kept standing payload r c.self.invariant.0 spells' is image p) in
    let so = leaves_so g.D.Disk.shows c.args.disk.now c.append.new.disk P Q leads c.append.ensures.moments in
    so

pub put-requires : goal.put-requires
put-requires g c =
    let kept = c.self.inside.journal.kept in
    let standing = c.self.inside.standing in
    let s = c.self.invariant.0 in
    let held : held_in g.S.Standing.rules kept ≡ c.args.self.now.held = ap (λ (l : OpenedLedger g.row.S-Record.Denot g.row.S.Denot). l.held) c.self.view_is in
    record {
      records = records_in g.S.Standing.rules kept.holds;
      stand = (stand_for g.S.Standing.rules (StandReady g.S.Standing.row_rules) kept standing (records_in g.S.Standing.rules kept.holds) s refl).0;
      few = few_records g.S.Standing.rules (StandReady g.S.Standing.row_rules) kept.holds standing s c.records_fit.ensures.two.file;
      is = subst (λ (e : g.row.S-Record.Denot). g.S.Standing.rules.is_record (records_in g.S.Standing.rules kept.holds) e ≡ true) (sym c.draft.view_is)
          (ap (λ (h : Held g.row.S-Record.Denot). g.S.Standing.rules.is_record h.records c.args.draft) held ∙ c.requires.can.is);
      room = subst (λ (e : g.row.S-Record.Denot). g.S.Standing.row_rules.has_room standing e) (sym c.draft.view_is)
          (subst (λ (l : OpenedLedger g.row.S-Record.Denot g.row.S.Denot). g.S.Standing.row_rules.has_room l.standing c.args.draft) (sym c.self.view_is) c.requires.can.room);
    }

pub invariant_of-self-2 : goal.invariant_of-self-2
invariant_of-self-2 g c =
    let kept = c.self.inside.journal.kept in
    let standing = c.self.inside.standing in
    let r = c.args.draft in
    let held : held_in g.S.Standing.rules kept ≡ c.args.self.now.held = ap (λ (l : OpenedLedger g.row.S-Record.Denot g.row.S.Denot). l.held) c.self.view_is in
    let is : g.S.Standing.rules.is_record (records_in g.S.Standing.rules kept.holds) r ≡ true = ap (λ (h : Held g.row.S-Record.Denot). g.S.Standing.rules.is_record h.records r) held ∙ c.requires.can.is in
    let spells : IsPayload g.S.Standing.rules c.draft.inside.payload r = subst (λ (e : g.row.S-Record.Denot). IsPayload g.S.Standing.rules c.draft.inside.payload e) c.draft.view_is c.draft.invariant in
    let payload = c.as_slice.result.now in
    let spells' : IsPayload g.S.Standing.rules payload r = subst (λ (p : List ℕ). IsPayload g.S.Standing.rules p r) (sym c.as_slice.ensures) spells in
    let new : c.append.new.self ≡ record { kept = kept_with payload kept; spare = None; broken = false } = c.in_ok-append.ensures.ok in
    let after = subst (λ (e : g.row.S-Record.Denot). (records : List g.row.S-Record.Denot) → StandReady g.S.Standing.row_rules standing records → StandReady g.S.Standing.row_rules c.put.new.self (records ++ e ∷ [])) c.draft.view_is
    (λ records stand. (c.put.ensures.stands records stand.0, c.put.ensures.ready stand.1)) in
    let more = stands_more g.S.Standing.rules (StandReady g.S.Standing.row_rules) kept standing c.put.new.self payload r c.self.invariant.0 spells' is after in
    let stands : StandsFor g.S.Standing.rules (StandReady g.S.Standing.row_rules) c.append.new.self.kept.holds c.put.new.self = subst (λ (j : OpenedJournal). StandsFor g.S.Standing.rules (StandReady g.S.Standing.row_rules) j.kept.holds c.put.new.self) (sym new) more in
    (stands, λ whole. ap (λ (j : OpenedJournal). j.broken) new)

pub returns-clause-ok : goal.returns-clause-ok
returns-clause-ok g c =
    let kept = c.self.inside.journal.kept in
    let standing = c.self.inside.standing in
    let r = c.args.draft in
    let held : held_in g.S.Standing.rules kept ≡ c.args.self.now.held = ap (λ (l : OpenedLedger g.row.S-Record.Denot g.row.S.Denot). l.held) c.self.view_is in
    let is : g.S.Standing.rules.is_record (records_in g.S.Standing.rules kept.holds) r ≡ true = ap (λ (h : Held g.row.S-Record.Denot). g.S.Standing.rules.is_record h.records r) held ∙ c.requires.can.is in
    let spells : IsPayload g.S.Standing.rules c.draft.inside.payload r = subst (λ (e : g.row.S-Record.Denot). IsPayload g.S.Standing.rules c.draft.inside.payload e) c.draft.view_is c.draft.invariant in
    let payload = c.as_slice.result.now in
    let spells' : IsPayload g.S.Standing.rules payload r = subst (λ (p : List ℕ). IsPayload g.S.Standing.rules p r) (sym c.as_slice.ensures) spells in
    let new : c.append.new.self ≡ record { kept = kept_with payload kept; spare = None; broken = false } = c.in_ok-append.ensures.ok in
    let holds : held_in g.S.Standing.rules c.append.new.self.kept ≡ held_with r c.args.self.now.held =
    ap (λ (j : OpenedJournal). held_in g.S.Standing.rules j.kept) new ∙ holds_more g.S.Standing.rules (StandReady g.S.Standing.row_rules) kept standing payload r c.self.invariant.0 spells' is ∙ ap (held_with r) held in
    (holds, refl)

pub returns-clause-own : goal.returns-clause-own
returns-clause-own g c =
    let kept = c.self.inside.journal.kept in
    let standing = c.self.inside.standing in
    let r = c.args.draft in
    let held : held_in g.S.Standing.rules kept ≡ c.args.self.now.held = ap (λ (l : OpenedLedger g.row.S-Record.Denot g.row.S.Denot). l.held) c.self.view_is in
    let is : g.S.Standing.rules.is_record (records_in g.S.Standing.rules kept.holds) r ≡ true = ap (λ (h : Held g.row.S-Record.Denot). g.S.Standing.rules.is_record h.records r) held ∙ c.requires.can.is in
    let spells : IsPayload g.S.Standing.rules c.draft.inside.payload r = subst (λ (e : g.row.S-Record.Denot). IsPayload g.S.Standing.rules c.draft.inside.payload e) c.draft.view_is c.draft.invariant in
    let payload = c.as_slice.result.now in
    let spells' : IsPayload g.S.Standing.rules payload r = subst (λ (p : List ℕ). IsPayload g.S.Standing.rules p r) (sym c.as_slice.ensures) spells in
    let new : c.append.new.self ≡ record { kept = kept_with payload kept; spare = None; broken = false } = c.in_ok-append.ensures.ok in
    let after = subst (λ (e : g.row.S-Record.Denot). (records : List g.row.S-Record.Denot) → StandReady g.S.Standing.row_rules standing records → StandReady g.S.Standing.row_rules c.put.new.self (records ++ e ∷ [])) c.draft.view_is
    (λ records stand. (c.put.ensures.stands records stand.0, c.put.ensures.ready stand.1)) in
    let more = stands_more g.S.Standing.rules (StandReady g.S.Standing.row_rules) kept standing c.put.new.self payload r c.self.invariant.0 spells' is after in
    let stands : StandsFor g.S.Standing.rules (StandReady g.S.Standing.row_rules) c.append.new.self.kept.holds c.put.new.self = subst (λ (j : OpenedJournal). StandsFor g.S.Standing.rules (StandReady g.S.Standing.row_rules) j.kept.holds c.put.new.self) (sym new) more in
    journals_own g.S.Standing.rules (StandReady g.S.Standing.row_rules) (g.D.Disk.shows c.append.new.disk).told c.append.new.self c.put.new.self (opened_of g.S.Standing.rules c.append.new.self c.put.new.self c.self.inside.key false) stands refl (ap (λ (j : OpenedJournal). j.broken) new) refl c.append.ensures.own

pub returns-clause-moments : goal.returns-clause-moments
returns-clause-moments g c =
    let kept = c.self.inside.journal.kept in
    let standing = c.self.inside.standing in
    let r = c.args.draft in
    let held : held_in g.S.Standing.rules kept ≡ c.args.self.now.held = ap (λ (l : OpenedLedger g.row.S-Record.Denot g.row.S.Denot). l.held) c.self.view_is in
    let is : g.S.Standing.rules.is_record (records_in g.S.Standing.rules kept.holds) r ≡ true = ap (λ (h : Held g.row.S-Record.Denot). g.S.Standing.rules.is_record h.records r) held ∙ c.requires.can.is in
    let spells : IsPayload g.S.Standing.rules c.draft.inside.payload r = subst (λ (e : g.row.S-Record.Denot). IsPayload g.S.Standing.rules c.draft.inside.payload e) c.draft.view_is c.draft.invariant in
    let payload = c.as_slice.result.now in
    let spells' : IsPayload g.S.Standing.rules payload r = subst (λ (p : List ℕ). IsPayload g.S.Standing.rules p r) (sym c.as_slice.ensures) spells in
    let P : Image → Type 0 = IsBeforeOrAfter payload kept in
    let Q : Image → Type 0 = IsWithOrWithout g.S.Standing.rules r c.args.self.now.held in
    let leads : (image : Image) → P image → Q image = λ image p. subst (λ (h : Held g.row.S-Record.Denot). IsWithOrWithout g.S.Standing.rules r h image) held (with_or_without g.S.Standing.rules (StandReady g.S.Standing.row_rules) kept standing payload r c.self.invariant.0 spells' is image p) in
    let so = leaves_so g.D.Disk.shows c.args.disk.now c.append.new.disk P Q leads c.append.ensures.moments in
    so
