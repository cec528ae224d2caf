use Rattle.std.specs.Prelude.{All, vec_capacity}
use Rattle.std.specs.Int.{w32, to_be_bytes}
use Rattle.std.proofs.Common.{◌≡◌, ℕ, ◌+◌, ◌≤◌, List, [], ◌∷◌, ◌++◌, length, ◌∙◌, ap, subst, arith, length-append, append_assoc, append-nil, sym, refl}
use Rattle.std.proofs.lemmas.List.Elements.{All-tail}
use Rattle.crash_disk.specs.declared.change.Change.TheVariants.{Write}
use Rattle.crash_disk.specs.Disk.{reads_of, DiskState}
use Rattle.crash_disk.proofs.Following as calls
use Rattle.crash_disk.specs.Torn.{other_file}
use Rattle.gate_journal.specs.Format.{bodies_of, gate_of}
use Rattle.gate_journal.specs.Making.{IsClosed, IsFilling, read_of}
use Rattle.gate_journal.proofs.Lifting.{beside_told, weaken, always}
use Rattle.gate_journal.proofs.Running.{tries, does}
use Rattle.gate_journal.proofs.Filling.{filling_blank, filling_more, filling_reads, text_fits, text_more}
use Rattle.crash_disk.specs.declared.change.Change.{Change}
use Rattle.gate_journal.specs.Calls.{beginning, filling, writing_bodies}
use Rattle.gate_journal.proofs.Planned.{body_long, no_payloads}
use Rattle.gate_journal.proofs.remaking.fill.Goals as goal
use Rattle.gate_journal.proofs.remaking.fill.Goals.{After-deref}
use Rattle.gate_journal.proofs.remaking.fill.Given.{Over}

module _ (g : Over) (c : After-deref g) where
  body_is : c.deref.result.now ≡ to_be_bytes w32 (length c.in-Some.record.now) ++ c.in-Some.record.now ++ gate_of c.in-Some.rest.now ∷ []
  body_is =
      c.deref.ensures.value ∙ c.fill_body.ensures.body ∙ ap (λ (l : List ℕ). to_be_bytes w32 (length l) ++ l ++ c.first_gate.result ∷ []) c.as_slice.ensures
      ∙ ap (λ (n : ℕ). to_be_bytes w32 (length c.in-Some.record.now) ++ c.in-Some.record.now ++ n ∷ []) c.first_gate.ensures

  abbrev front : List ℕ
  front = c.loop-record.invariant.written.0

  next : (front ++ c.deref.result.now) ++ bodies_of c.in-Some.rest.now ≡ bodies_of c.args.records.now
  next = text_more front c.loop-record.left.now c.args.records.now c.in-Some.record.now c.in-Some.rest.now c.deref.result.now c.loop-record.invariant.written.1 c.in-Some.ensures.cases.0 body_is

  fits : c.loop-record.at + length c.deref.result.now ≤ 134217728
  fits =
      text_fits front c.loop-record.left.now c.args.records.now c.in-Some.record.now c.in-Some.rest.now c.deref.result.now c.loop-record.invariant.written.1 c.in-Some.ensures.cases.0 body_is
      c.loop-record.at c.loop-record.invariant.written.2 c.requires.fits

  -- the calls that are left, with the next one in front
  next_calls : (plan : List Change) → plan ++ writing_bodies c.args.file c.loop-record.at c.loop-record.left.now ≡ filling c.args.file c.args.fields.now c.args.records.now →
      plan ++ Write c.args.file c.loop-record.at c.deref.result.now ∷ writing_bodies c.args.file (c.loop-record.at + (length c.in-Some.record.now + 5)) c.in-Some.rest.now
      ≡ filling c.args.file c.args.fields.now c.args.records.now
  next_calls plan are =
      ap (λ (bytes : List ℕ). plan ++ Write c.args.file c.loop-record.at bytes ∷ writing_bodies c.args.file (c.loop-record.at + (length c.in-Some.record.now + 5)) c.in-Some.rest.now) body_is
      ∙ ap (λ (left : List (List ℕ)). plan ++ writing_bodies c.args.file c.loop-record.at left) (sym c.in-Some.ensures.cases.0) ∙ are

  more_calls : (plan : List Change) (place : ℕ) → place ≡ c.loop-record.at + length c.deref.result.now →
      plan ++ writing_bodies c.args.file c.loop-record.at c.loop-record.left.now ≡ filling c.args.file c.args.fields.now c.args.records.now →
      (plan ++ Write c.args.file c.loop-record.at c.deref.result.now ∷ []) ++ writing_bodies c.args.file place c.in-Some.rest.now
      ≡ filling c.args.file c.args.fields.now c.args.records.now
  more_calls plan place at are =
      let long : place ≡ c.loop-record.at + (length c.in-Some.record.now + 5) = at ∙ ap (λ (n : ℕ). c.loop-record.at + n) (ap length body_is ∙ body_long c.in-Some.record.now (gate_of c.in-Some.rest.now)) in
      ap (λ (n : ℕ). (plan ++ Write c.args.file c.loop-record.at c.deref.result.now ∷ []) ++ writing_bodies c.args.file n c.in-Some.rest.now) long
      ∙ append_assoc plan (Write c.args.file c.loop-record.at c.deref.result.now ∷ []) (writing_bodies c.args.file (c.loop-record.at + (length c.in-Some.record.now + 5)) c.in-Some.rest.now)
      ∙ next_calls plan are

pub write_at-requires : goal.write_at-requires
write_at-requires g c =
    let told0 = (g.D.Disk.shows c.args.disk.now).told in
    let a = (goal.at.write_at-requires g c).After-deref in
    let other = read_of told0 (other_file c.args.file) in
    let run = c.loop-record.invariant.written.3 other (beside_told told0 c.args.file (IsClosed c.args.file) c.requires.closed) in
    weaken (g.D.Disk.shows c.loop-record.disk).told (IsFilling c.args.file c.args.fields.now (front g a) other) (λ d. c.loop-record.at ≤ length (reads_of d c.args.file)) run.state
    (λ d is. omega (arith, filling_reads c.args.file c.args.fields.now (front g a) other d is, c.loop-record.invariant.written.2))

pub returns-in_err-write_at-clause-moments : goal.returns-in_err-write_at-clause-moments
returns-in_err-write_at-clause-moments g c other closed =
    let a = (goal.at.returns-in_err-write_at-clause-moments g c).After-deref in
    tries c.write_at.new.self (c.loop-record.invariant.written.3 other closed) (Write c.args.file c.loop-record.at c.deref.result.now) c.write_at.result c.write_at.ensures.time c.write_at.ensures.changes (g.met.D.Disk.reads_an_image c.loop-record.disk)
    (λ d reads is. filling_blank c.args.file c.args.fields.now (front g a ++ c.deref.result.now) other _ (filling_more c.args.file c.args.fields.now (front g a) c.deref.result.now other c.loop-record.at d c.loop-record.invariant.written.2 (fits g a) is))

pub overflow_add-at : goal.overflow_add-at
overflow_add-at g c = omega (arith, fits g (goal.at.overflow_add-at g c).After-deref, c.len.ensures, ap length c.deref.ensures.value)

pub loop-record-preserved : goal.loop-record-preserved
loop-record-preserved g c =
    let a = (goal.at.loop-record-preserved g c).After-deref in
    let body = c.deref.result.now in
    let left_is = c.in-Some.ensures.cases.0 in
    let room = c.fill_body.ensures.capacity in
    record {
      written = (
        front g a ++ body,
        next g a,
        omega (arith, c.loop-record.invariant.written.2, c.len.ensures, ap length c.deref.ensures.value, length-append (front g a) body),
        λ other closed. does c.write_at.new.self (c.loop-record.invariant.written.3 other closed) (IsFilling c.args.file c.args.fields.now (front g a ++ body) other) (Write c.args.file c.loop-record.at body) c.write_at.ensures.time
            c.in_ok-write_at.ensures.changes (g.met.D.Disk.reads_an_image c.loop-record.disk)
            (λ d reads is. filling_blank c.args.file c.args.fields.now (front g a ++ body) other _ (filling_more c.args.file c.args.fields.now (front g a) body other c.loop-record.at d c.loop-record.invariant.written.2 (fits g a) is))
            (λ d reads is. filling_more c.args.file c.args.fields.now (front g a) body other c.loop-record.at d c.loop-record.invariant.written.2 (fits g a) is),
      );
      calls = (
        c.loop-record.invariant.calls.0 ++ Write c.args.file c.loop-record.at body ∷ [],
        more_calls g a c.loop-record.invariant.calls.0 (c.loop-record.at + c.len.result) (omega (arith, c.len.ensures, ap length c.deref.ensures.value)) c.loop-record.invariant.calls.1,
        calls.does (Write c.args.file c.loop-record.at body) (λ _. c.loop-record.invariant.calls.0) c.args.disk.now c.loop-record.disk c.write_at.new.self
            c.loop-record.invariant.calls.2 (g.met.D.Disk.only_now c.loop-record.disk) (g.met.D.Disk.reads_an_image c.loop-record.disk)
            c.in_ok-write_at.ensures.changes c.write_at.ensures.time,
      );
      each = All-tail (λ p. length p ≤ 1048576) c.in-Some.record.now c.in-Some.rest.now (subst (All (λ p. length p ≤ 1048576)) left_is c.loop-record.invariant.each);
      room = λ k d le.
          omega (arith, room, All-tail (λ p. length p + 5 ≤ vec_capacity c.loop-record.body) c.in-Some.record.now c.in-Some.rest.now (subst (All (λ p. length p + 5 ≤ vec_capacity c.loop-record.body)) left_is c.loop-record.invariant.room) k d le);
      kept = c.in_ok-write_at.ensures.faults.kept ∙ c.loop-record.invariant.kept;
      in_range = c.write_at.ensures.faults.in_range;
    }

-- THE CHANGING CALLS

pub returns-in_err-begin_anew-clause-calls : goal.returns-in_err-begin_anew-clause-calls
returns-in_err-begin_anew-clause-calls g c =
    calls.breaks_off {T = Unit {0}} _ c.in_err-begin_anew.field-0.0 c.from_residual.result (λ _. beginning c.args.file c.args.fields.now)
    (λ _. writing_bodies c.args.file 72 c.args.records.now) c.args.disk.now c.begin_anew.new.disk c.from_residual.ensures.1
    c.in_err-begin_anew.ensures.calls

pub returns-in_err-write_at-clause-calls : goal.returns-in_err-write_at-clause-calls
returns-in_err-write_at-clause-calls g c =
    let a = (goal.at.returns-in_err-write_at-clause-calls g c).After-deref in
    let d0 = c.args.disk.now in
    let mid = c.loop-record.disk in
    let new = c.write_at.new.self in
    let front = c.loop-record.invariant.calls.0 in
    let write : Change = Write c.args.file c.loop-record.at c.deref.result.now in
    let rest : List Change = writing_bodies c.args.file (c.loop-record.at + (length c.in-Some.record.now + 5)) c.in-Some.rest.now in
    let other = c.from_residual-in_err-write_at.result in
    calls.follows_same other (λ _. front ++ write ∷ [] ++ rest) (λ _. filling c.args.file c.args.fields.now c.args.records.now) d0 new
    (always (g.D.Disk.shows d0).told _ (λ d. append_assoc front (write ∷ []) rest ∙ next_calls g a front c.loop-record.invariant.calls.1))
    (calls.fails _ c.in_err-write_at.field-0.0 other write (λ _. front) (λ _. rest) d0 mid new c.from_residual-in_err-write_at.ensures.1
    c.loop-record.invariant.calls.2 (g.met.D.Disk.only_now mid) (g.met.D.Disk.reads_an_image mid) c.in_err-write_at.ensures.changes c.write_at.ensures.time)

pub returns-clause-calls : goal.returns-clause-calls
returns-clause-calls g c =
    let d0 = c.args.disk.now in
    let file = c.args.file in
    let plan = c.loop-record.invariant.calls.0 in
    let ended : c.loop-record.left.now ≡ [] = no_payloads c.loop-record.left.now c.in_default.ensures.cases in
    let are : plan ≡ filling file c.args.fields.now c.args.records.now =
    sym (append-nil plan) ∙ ap (λ (left : List (List ℕ)). plan ++ writing_bodies file c.loop-record.at left) (sym ended) ∙ c.loop-record.invariant.calls.1 in
    calls.answers tt _ d0 c.loop-record.disk
    (calls.follows_same _ (λ _. plan) (λ _. filling file c.args.fields.now c.args.records.now) d0 c.loop-record.disk (always (g.D.Disk.shows d0).told _ (λ d. are))
    c.loop-record.invariant.calls.2)

pub loop-record-init : goal.loop-record-init
loop-record-init g c =
    let d0 = c.args.disk.now in
    let plan : DiskState → List Change = λ _. beginning c.args.file c.args.fields.now in
    record {
      written = (
        [],
        refl,
        omega arith,
        λ other closed. record { moments = c.begin_anew.ensures.moments other closed; state = c.in_ok-begin_anew.ensures.ok other closed },
      );
      calls = (
        beginning c.args.file c.args.fields.now,
        refl,
        calls.made c.in_ok-begin_anew.field-0 plan d0 c.begin_anew.new.disk c.in_ok-begin_anew.ensures.calls,
      );
      each = c.requires.fits.each;
      room = c.requires.room;
      kept = c.in_ok-begin_anew.ensures.faults.kept;
      in_range = c.begin_anew.ensures.faults.in_range;
    }
