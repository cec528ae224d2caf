use Rattle.record_ledger.proofs.CompactLaws.{read_at, never_unread, stands_next, stands_after, stands_all, standing_ready}
use Rattle.record_ledger.proofs.compacting.standing_of.Goals as goal

pub loop-payload-init : goal.loop-payload-init
loop-payload-init g c = λ records read. c.new-standing.ensures

pub unreachable-requires : goal.unreachable-requires
unreachable-requires g c =
    never_unread g.S.Standing.rules c.args.payloads.now c.requires.read.records c.requires.read.are
    c.loop-payload.payload-index c.payload-item.result c.as_slice.result.now c.in_ok-entry.field-0
    c.loop-payload-test.true c.payload-item.is c.as_slice.ensures c.in_ok-entry.ensures.is c.in_default.is

pub put-requires : goal.put-requires
put-requires g c =
    let at = read_at g.S.Standing.rules c.args.payloads.now c.requires.read.records c.requires.read.are c.loop-payload.payload-index c.payload-item.result c.as_slice.result.now c.in_ok-entry.field-0 c.in-Some.entry
    c.loop-payload-test.true c.payload-item.is c.as_slice.ensures c.in_ok-entry.ensures.is c.in-Some.is in
    stands_next g.S.Standing.rules g.S.Standing.row_rules c.args.payloads.now c.requires.read.records c.loop-payload.payload-index c.in-Some.entry c.loop-payload.standing c.reserve.new.self c.requires.read.are c.requires.few
    c.loop-payload-test.true at (c.loop-payload.invariant c.requires.read.records c.requires.read.are) c.reserve.ensures.same c.in_ok-reserve.ensures.ok

pub loop-payload-preserved : goal.loop-payload-preserved
loop-payload-preserved g c records is =
    let at = read_at g.S.Standing.rules c.args.payloads.now records is c.loop-payload.payload-index c.payload-item.result c.as_slice.result.now c.in_ok-entry.field-0 c.in-Some.entry
    c.loop-payload-test.true c.payload-item.is c.as_slice.ensures c.in_ok-entry.ensures.is c.in-Some.is in
    stands_after g.S.Standing.rules g.S.Standing.row_rules.stands records c.loop-payload.payload-index c.in-Some.entry c.loop-payload.standing c.reserve.new.self c.put.new.self at
    (c.loop-payload.invariant records is) c.reserve.ensures.same c.put.ensures.stands

pub returns : goal.returns
returns g c =
    standing_ready g.S.Standing.rules g.S.Standing.row_rules c.args.payloads.now c.loop-payload.standing c.in_ok-ready.field-0
    (stands_all g.S.Standing.rules g.S.Standing.row_rules.stands c.args.payloads.now c.requires.read.records c.loop-payload.payload-index c.loop-payload.standing c.requires.read.are c.loop-payload-test.false
    (c.loop-payload.invariant c.requires.read.records c.requires.read.are))
    c.in_ok-ready.ensures.stands c.in_ok-ready.ensures.ready
