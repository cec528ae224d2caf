use Rattle.std.proofs.Common.{◌+◌, ℕ, Bool, length, sym, ap, ◌∙◌, subst}
use Rattle.gate_journal.specs.Texts.{Coming}
use Rattle.record_ledger.specs.Rules.{records_of}
use Rattle.record_lines.specs.Judging.{ReadsOne}
use Rattle.record_lines.proofs.JudgedPayloads.{begun, few, went_on, stopped}
use Rattle.record_lines.proofs.judging.first_foreign.Goals as goal

pub loop-payload-init : goal.loop-payload-init
loop-payload-init g c =
    let start = c.payloads-payloads.ensures in
    record {
      same = c.place-place.ensures.place;
      midway = begun g.S.Standing.rules g.S.Standing.row_rules.stands c.version-version.result c.args.file.now.payloads c.payloads-payloads.result.payloads c.place-place.result c.new-standing.result
          (sym (ap (λ (s : Coming). s.payloads) start)) (c.place-place.ensures.place ∙ ap (λ (s : Coming). s.place) start) c.new-standing.ensures;
    }

pub read_one-requires : goal.read_one-requires
read_one-requires g c =
    let m = c.loop-payload.invariant.midway in
    (m.passed, m.read, few g.S.Standing.rules g.S.Standing.row_rules.stands c.version-version.result c.args.file.now.payloads c.loop-payload.payloads.payloads c.loop-payload.place c.loop-payload.standing m)

pub returns-then-not-branch : goal.returns-then-not-branch
returns-then-not-branch g c =
    let rules = g.S.Standing.rules in
    let stands = g.S.Standing.row_rules.stands in
    let version = c.version-version.result in
    let payloads = c.args.file.now.payloads in
    let m = c.loop-payload.invariant.midway in
    let none = subst (λ (b : Bool). ReadsOne rules stands version m.passed c.in-Some.payload.now b c.read_one.new.standing) c.if-not-branch.true (c.in_ok-read_one.ensures m.passed m.read) in
    let (n, wrong, place) = stopped rules stands version payloads c.loop-payload.payloads.payloads c.next_payload.new.self.payloads c.in-Some.payload.now c.loop-payload.place c.loop-payload.standing m c.in-Some.ensures.payload none in
    (n, ap (λ (v : ℕ). records_of rules v payloads) (sym c.version-version.ensures) ∙ wrong, place)

pub loop-payload-preserved : goal.loop-payload-preserved
loop-payload-preserved g c =
    let rules = g.S.Standing.rules in
    let stands = g.S.Standing.row_rules.stands in
    let version = c.version-version.result in
    let payload = c.in-Some.payload.now in
    let m = c.loop-payload.invariant.midway in
    let read = subst (λ (b : Bool). ReadsOne rules stands version m.passed payload b c.read_one.new.standing) c.if-not-branch.false (c.in_ok-read_one.ensures m.passed m.read) in
    let moved = c.place-place-in-Some.ensures.place ∙ c.in-Some.ensures.place ∙ ap (λ (p : ℕ). p + (length payload + 5)) (sym c.loop-payload.invariant.same) in
    record {
      same = c.place-place-in-Some.ensures.place;
      midway = went_on rules stands version c.args.file.now.payloads c.loop-payload.payloads.payloads c.next_payload.new.self.payloads payload c.loop-payload.place c.place-place-in-Some.result c.loop-payload.standing c.read_one.new.standing
          m c.in-Some.ensures.payload moved c.place-place-in-Some.ensures.within read;
    }
