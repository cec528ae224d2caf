use Rattle.std.specs.Prelude.{IfSome, Option, None, Some, Ok}
use Rattle.std.proofs.Common.{◌≡◌, false, true, ℕ, ◌<◌, List, refl, sym, ◌∙◌, ap, subst, arith, [], ◌∷◌, ◌++◌}
use Rattle.crash_disk.specs.declared.file_no.FileNo.{FileNo}
use Rattle.crash_disk.specs.Disk.{IsSettled, image_of, reads_of, DiskState}
use Rattle.crash_disk.specs.Moments.{LeavesOnly}
use Rattle.crash_disk.specs.Torn.{other_file}
use Rattle.crash_disk.proofs.Following as calls
use Rattle.gate_journal.specs.Format.{Committed, Kept, journal, gate_of, letters}
use Rattle.gate_journal.specs.Journal.{OpenedJournal, IsOwn, IsOldOrNew, made_anew}
use Rattle.gate_journal.specs.Making.{IsBeforeOrMade, IsHolding, IsMade, fields_bytes, head_bytes}
use Rattle.gate_journal.proofs.Owning.{own_is, own_broken, left_now_stands, old_or_new_ok}
use Rattle.gate_journal.proofs.Beside.{holding_own, remade_moments, remade_own}
use Rattle.crash_disk.specs.declared.change.Change.{Change}
use Rattle.gate_journal.specs.Calls.{making_beside, remaking}
use Rattle.gate_journal.specs.declared.header.Header.{Header}
use Rattle.gate_journal.proofs.Lifting.{always}
use Rattle.gate_journal.proofs.journal.Journal.make_anew.Goals as goal
use Rattle.gate_journal.proofs.journal.Journal.make_anew.Goals.{After-make_beside}
use Rattle.gate_journal.proofs.journal.Journal.make_anew.Given.{Over}

pub make_beside-requires-clause-holding : goal.make_beside-requires-clause-holding
make_beside-requires-clause-holding g c =
    let told = (g.D.Disk.shows c.args.disk.now).told in
    let file_is : other_file c.args.self.now.kept.file ≡ c.other_of-file.result = sym (c.other_of-file.ensures ∙ ap (λ (j : OpenedJournal). other_file j.kept.file) c.self.view_is) in
    let holds : Committed = record { version = 2; header = c.args.header; payloads = c.args.kept.now } in
    subst (λ (f : FileNo). IfSome told (λ d. (before : Option Committed) × IsHolding f before (reads_of d (other_file f)) d)) file_is
    (holding_own told c.args.self.now.kept holds (g.met.D.Disk.reads_an_image c.args.disk.now) (own_is told c.args.self.now c.requires.whole c.requires.own) (omega (arith, c.requires.generation)))

module _ (g : Over) (c : After-make_beside g) where
  abbrev old : Kept
  old = c.args.self.now.kept

  abbrev holds : Committed
  holds = (made_anew c.args.kept.now c.args.header.horizon c.args.header.next old).holds

  file_is : c.other_of-file.result ≡ other_file old.file
  file_is = c.other_of-file.ensures ∙ ap (λ (j : OpenedJournal). other_file j.kept.file) c.self.view_is

  payloads_are : c.deref-6.result.now ≡ c.args.kept.now
  payloads_are = c.deref-6.ensures.value ∙ c.in_ok-records.ensures

  fields_are : c.deref-5.result.now ≡ fields_bytes c.args.header (gate_of c.deref-6.result.now)
  fields_are =
      c.deref-5.ensures.value ∙ c.in_ok-fields.ensures
      ∙ ap (fields_bytes c.args.header) (c.first_gate.ensures ∙ ap gate_of (c.deref-2.ensures.value ∙ sym c.deref-6.ensures.value))

  newer : old.holds.header.generation < holds.header.generation
  newer = omega arith

  -- the journal that is made is the one that was asked for
  holds_is : (payloads : List (List ℕ)) → payloads ≡ c.args.kept.now → record { version = 2; header = c.args.header; payloads = payloads } ≡ holds
  holds_is payloads is =
      ap (λ (ps : List (List ℕ)). record { version = 2; header = c.args.header; payloads = ps }) is
      ∙ ap (λ (n : ℕ). record { version = 2; header = record { generation = n; horizon = c.args.header.horizon; next = c.args.header.next }; payloads = c.args.kept.now }) c.requires.generation

  own_now : IfSome (g.D.Disk.shows c.args.disk.now).told (λ d. IsSettled d × (journal (image_of d) ≡ Ok (Some old)))
  own_now = own_is (g.D.Disk.shows c.args.disk.now).told c.args.self.now c.requires.whole c.requires.own

  moments : LeavesOnly g.D.Disk.shows c.args.disk.now c.make_beside.new.disk (IsOldOrNew old (record { file = other_file old.file; holds = holds }))
  moments =
      remade_moments (g.D.Disk.shows c.args.disk.now).told old holds (g.met.D.Disk.reads_an_image c.args.disk.now) own_now newer g.D.Disk.shows c.args.disk.now c.make_beside.new.disk
      (subst (λ (f : FileNo). (before : Option Committed) (other : List ℕ) → IfSome (g.D.Disk.shows c.args.disk.now).told (IsHolding f before other) → LeavesOnly g.D.Disk.shows c.args.disk.now c.make_beside.new.disk (IsBeforeOrMade f before holds other)) file_is
      (λ before other holding. subst (λ (h : Committed). LeavesOnly g.D.Disk.shows c.args.disk.now c.make_beside.new.disk (IsBeforeOrMade c.other_of-file.result before h other)) (holds_is c.deref-6.result.now payloads_are)
      (c.make_beside.ensures.moments before c.args.header other fields_are c.requires.writable holding)))

pub returns-in_err-make_beside-clause-moments : goal.returns-in_err-make_beside-clause-moments
returns-in_err-make_beside-clause-moments g c = moments g (goal.at.returns-in_err-make_beside-clause-moments g c).After-make_beside

pub returns-clause-moments : goal.returns-clause-moments
returns-clause-moments g c = moments g (goal.at.returns-clause-moments g c).After-make_beside

pub returns-in_err-make_beside-clause-own : goal.returns-in_err-make_beside-clause-own
returns-in_err-make_beside-clause-own g c =
    let a = (goal.at.returns-in_err-make_beside-clause-own g c).After-make_beside in
    let now = c.self.inside in
    own_broken (g.D.Disk.shows c.make_beside.new.disk).told (record { kept = record { file = now.file; holds = record { version = now.version; header = now.header; payloads = now.records.items } }; spare = now.spare; broken = true }) refl (λ image left.
    old_or_new_ok (old g a) (record { file = other_file (old g a).file; holds = holds g a }) image (left_now_stands g.D.Disk.shows c.args.disk.now c.make_beside.new.disk _ g.met.D.Disk.counts_now (moments g a) image left))

pub returns-clause-own : goal.returns-clause-own
returns-clause-own g c =
    let a = (goal.at.returns-clause-own g c).After-make_beside in
    let told = (g.D.Disk.shows c.args.disk.now).told in
    let now = (g.D.Disk.shows c.make_beside.new.disk).told in
    let opened : FileNo → Committed → OpenedJournal = λ f h. record { kept = record { file = f; holds = h }; spare = None; broken = false } in
    let is : opened c.other_of-file.result (record { version = 2; header = c.args.header; payloads = c.in_ok-records.records.items }) ≡ opened (other_file (old g a).file) (holds g a) =
    ap (λ (f : FileNo). opened f (record { version = 2; header = c.args.header; payloads = c.in_ok-records.records.items })) (file_is g a) ∙ ap (opened (other_file (old g a).file)) (holds_is g a c.in_ok-records.records.items c.in_ok-records.ensures) in
    subst (IsOwn now) (sym (c.drop.view_is ∙ c.of.ensures ∙ is))
    (remade_own told (old g a) (holds g a) (g.met.D.Disk.reads_an_image c.args.disk.now) (own_now g a) (newer g a) now (opened (other_file (old g a).file) (holds g a)) refl refl
    (subst (λ (f : FileNo). (before : Option Committed) (other : List ℕ) → IfSome told (IsHolding f before other) → IfSome now (IsMade f (holds g a) other)) (file_is g a)
    (λ before other holding. subst (λ (h : Committed). IfSome now (IsMade c.other_of-file.result h other)) (holds_is g a c.deref-6.result.now (payloads_are g a))
    (c.in_ok-make_beside.ensures.ok before c.args.header other (fields_are g a) c.requires.writable holding))))

-- THE CHANGING CALLS

module _ (g : Over) (c : After-make_beside g) where
  abbrev made_header : Header
  made_header = (holds g c).header

  header_is : c.args.header ≡ made_header
  header_is = λ i. record { generation = c.requires.generation i; horizon = c.args.header.horizon; next = c.args.header.next }

  made_fields : c.deref-5.result.now ≡ fields_bytes made_header (gate_of c.args.kept.now)
  made_fields = fields_are g c ∙ (λ i. fields_bytes (header_is i) (gate_of (payloads_are g c i)))

  made_head : c.deref-4.result.now ≡ head_bytes made_header (gate_of c.args.kept.now)
  made_head =
      c.deref-4.ensures.value ∙ c.in_ok-head.ensures
      ∙ ap (λ (fields : List ℕ). (0 ∷ []) ++ letters ++ fields) (c.deref-3.ensures.value ∙ sym c.deref-5.ensures.value ∙ made_fields)

  -- the plan of the code, and that of the journal that is made
  abbrev code_plan : DiskState → List Change
  code_plan d =
      making_beside c.other_of-file.result c.deref-4.result.now c.deref-5.result.now c.deref-6.result.now (reads_of d c.other_of-file.result)

  abbrev made_plan : DiskState → List Change
  made_plan = remaking (record { file = other_file (old g c).file; holds = holds g c })

  plan_is : IfSome (g.D.Disk.shows c.args.disk.now).told (λ d. code_plan d ≡ made_plan d)
  plan_is =
      always (g.D.Disk.shows c.args.disk.now).told (λ d. code_plan d ≡ made_plan d)
      (λ d i. making_beside (file_is g c i) (made_head i) (made_fields i) (payloads_are g c i) (reads_of d (file_is g c i)))

pub returns-in_err-make_beside-clause-calls : goal.returns-in_err-make_beside-clause-calls
returns-in_err-make_beside-clause-calls g c =
    let a = (goal.at.returns-in_err-make_beside-clause-calls g c).After-make_beside in
    let d0 = c.args.disk.now in
    let new = c.make_beside.new.disk in
    let other = c.from_residual-in_err-make_beside.result in
    calls.follows_same other (code_plan g a) (made_plan g a) d0 new (plan_is g a)
    (calls.hands_on {T = Unit {0}} _ c.in_err-make_beside.field-0.0 other (code_plan g a) d0 new c.from_residual-in_err-make_beside.ensures.1
    c.in_err-make_beside.ensures.calls)

pub returns-clause-calls : goal.returns-clause-calls
returns-clause-calls g c =
    let a = (goal.at.returns-clause-calls g c).After-make_beside in
    let d0 = c.args.disk.now in
    let new = c.make_beside.new.disk in
    calls.answers tt (made_plan g a) d0 new
    (calls.follows_same _ (code_plan g a) (made_plan g a) d0 new (plan_is g a)
    (calls.made c.in_ok-make_beside.field-0 (code_plan g a) d0 new c.in_ok-make_beside.ensures.calls))
