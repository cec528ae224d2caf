use Rattle.std.proofs.Common.{ℕ, List, take, ◌∙◌, ap, subst, arith}
use Rattle.gate_journal.specs.Format.{end_of}
use Rattle.record_ledger.specs.Loading.{IsLoaded}
use Rattle.record_ledger.proofs.LoadLaws.{can_load, loaded_more, loaded_all, loaded_not, foreign_at}
use Rattle.record_ledger.proofs.opening.load.Goals as goal

pub loop-i-init : goal.loop-i-init
loop-i-init g c = c.new-loaded.ensures c.version-version.result

pub load_one-requires-clause-few : goal.load_one-requires-clause-few
load_one-requires-clause-few g c =
    can_load g.S.Standing.rules g.S.Standing.row_rules.stands c.version-version.result c.loop-i.i c.records-payload-items.result.now c.loop-i.loaded.standing c.loop-i.loaded.payloads.items c.loop-i.invariant
    (omega (arith, ap end_of c.records-payload-items.ensures, c.records_fit.ensures.two.file))

pub returns-then-not-branch : goal.returns-then-not-branch
returns-then-not-branch g c =
    let ps = c.records-payload-items.result.now in
    let i = c.loop-i.i in
    foreign_at g.S.Standing.rules g.S.Standing.row_rules.stands c.args.journal.now.kept c.version-version.result i ps c.file.result c.place.result c.version-version.ensures c.records-payload-items.ensures
    (loaded_not g.S.Standing.rules g.S.Standing.row_rules.stands c.version-version.result i ps c.payload-item.result c.as_slice.result.now c.in_ok-load_one.field-0 c.loop-i.loaded.standing c.load_one.new.self.standing c.loop-i.loaded.payloads.items c.load_one.new.self.payloads.items c.loop-i-test.true (c.as_slice.ensures ∙ c.payload-item.is) c.loop-i.invariant (c.in_ok-load_one.ensures (take i ps) c.loop-i.invariant) c.if-not-branch.true)
    c.file.ensures c.place.ensures

pub loop-i-preserved : goal.loop-i-preserved
loop-i-preserved g c =
    let ps = c.records-payload-items.result.now in
    let i = c.loop-i.i in
    loaded_more g.S.Standing.rules g.S.Standing.row_rules.stands c.version-version.result i ps c.payload-item.result c.as_slice.result.now c.in_ok-load_one.field-0 c.loop-i.loaded.standing c.load_one.new.self.standing c.loop-i.loaded.payloads.items c.load_one.new.self.payloads.items c.loop-i-test.true (c.as_slice.ensures ∙ c.payload-item.is) c.loop-i.invariant (c.in_ok-load_one.ensures (take i ps) c.loop-i.invariant) c.if-not-branch.false

pub returns : goal.returns
returns g c =
    let all = loaded_all g.S.Standing.rules g.S.Standing.row_rules.stands c.version-version.result c.loop-i.i c.records-payload-items.result.now c.loop-i.loaded.standing c.loop-i.loaded.payloads.items c.loop-i.auto.i-end c.loop-i-test.false c.loop-i.invariant in
    c.in_ok-ready.ensures c.args.journal.now.kept.holds.version c.args.journal.now.kept.holds.payloads
    (subst (λ (ps : List (List ℕ)). IsLoaded g.S.Standing.rules g.S.Standing.row_rules.stands c.args.journal.now.kept.holds.version ps c.loop-i.loaded.standing c.loop-i.loaded.payloads.items) c.records-payload-items.ensures
    (subst (λ (v : ℕ). IsLoaded g.S.Standing.rules g.S.Standing.row_rules.stands v c.records-payload-items.result.now c.loop-i.loaded.standing c.loop-i.loaded.payloads.items) c.version-version.ensures all))
