use Rattle.std.proofs.Common.{◌∙◌, ◌<◌, length, sym, ap, subst, arith}
use Rattle.std.proofs.lemmas.List.{length-map}
use Rattle.std.proofs.lemmas.Result.{IfOk-weaker}
use Rattle.gate_journal.specs.Format.{end_of}
use Rattle.ledger_rules.specs.Kept.{AreWithin, AreOrdered, AreFlagsOf}
use Rattle.record_ledger.specs.Rules.{records_of}
use Rattle.record_ledger.proofs.CompactLaws.{read_at, never_unread, seen_more, linked_more, can_take, whole_links, whole_seen, links_few, links_within, links_ordered, are_flags}
use Rattle.record_ledger.proofs.compacting.flags_of.Goals as goal

pub loop-payload-init : goal.loop-payload-init
loop-payload-init g c = record { links = λ records read. c.new-links.ensures; seen = λ records read. c.new-seen.ensures.items }

pub unreachable-requires : goal.unreachable-requires
unreachable-requires g c =
    never_unread g.S.Standing.rules c.records-payload-items.result.now c.requires.records (ap (records_of g.S.Standing.rules 2) c.records-payload-items.ensures ∙ c.requires.are)
    c.loop-payload.payload-index c.payload-item.result c.as_slice.result.now c.in_ok-entry.field-0
    c.loop-payload-test.true c.payload-item.is c.as_slice.ensures c.in_ok-entry.ensures.is c.in_default.is

pub take_own-requires : goal.take_own-requires
take_own-requires g c =
    let items = c.records-payload-items.result.now in
    let i = c.loop-payload.payload-index in
    let read = ap (records_of g.S.Standing.rules 2) c.records-payload-items.ensures ∙ c.requires.are in
    let at = read_at g.S.Standing.rules items c.requires.records read i c.payload-item.result c.as_slice.result.now c.in_ok-entry.field-0 c.in-Some.entry
    c.loop-payload-test.true c.payload-item.is c.as_slice.ensures c.in_ok-entry.ensures.is c.in-Some.is in
    can_take g.S.Standing.rules g.S.Standing.link_rules c.laws_hold.ensures.links items c.requires.records i c.in-Some.entry c.loop-payload.links read (omega (arith, ap end_of c.records-payload-items.ensures, c.records_fit.ensures.two.file))
    c.loop-payload-test.true at (c.loop-payload.invariant.links c.requires.records c.requires.are)

pub loop-payload-preserved : goal.loop-payload-preserved
loop-payload-preserved g c = record {
  links = λ records is.
      let at = read_at g.S.Standing.rules c.records-payload-items.result.now records (ap (records_of g.S.Standing.rules 2) c.records-payload-items.ensures ∙ is) c.loop-payload.payload-index c.payload-item.result c.as_slice.result.now
      c.in_ok-entry.field-0 c.in-Some.entry c.loop-payload-test.true c.payload-item.is c.as_slice.ensures c.in_ok-entry.ensures.is c.in-Some.is in
      linked_more g.S.Standing.rules g.S.Standing.link_rules c.laws_hold.ensures.links records c.loop-payload.payload-index c.in-Some.entry c.loop-payload.links c.take_own.new.self at (c.loop-payload.invariant.links records is) c.in_ok-take_own.ensures;
  seen = λ records is.
      let at = read_at g.S.Standing.rules c.records-payload-items.result.now records (ap (records_of g.S.Standing.rules 2) c.records-payload-items.ensures ∙ is) c.loop-payload.payload-index c.payload-item.result c.as_slice.result.now
      c.in_ok-entry.field-0 c.in-Some.entry c.loop-payload-test.true c.payload-item.is c.as_slice.ensures c.in_ok-entry.ensures.is c.in-Some.is in
      seen_more g.S.Standing.rules g.S.Standing.link_rules c.laws_hold.ensures.links (g.S.Standing.rules.has_visible c.args.now c.args.horizon) records c.loop-payload.payload-index c.in-Some.entry c.loop-payload.seen.items c.push.new.self.items c.has_visible-is_seen.result
      at c.in_ok-push.ensures.items c.has_visible-is_seen.ensures (c.loop-payload.invariant.seen records is);
}

pub keep-requires-clause-few : goal.keep-requires-clause-few
keep-requires-clause-few g c =
    let read = ap (records_of g.S.Standing.rules 2) c.records-payload-items.ensures ∙ c.requires.are in
    let linked = whole_links g.S.Standing.rules g.S.Standing.link_rules c.laws_hold.ensures.links c.records-payload-items.result.now
    c.requires.records c.loop-payload.payload-index c.loop-payload.links read c.loop-payload-test.false
    (c.loop-payload.invariant.links c.requires.records c.requires.are) in
    subst (λ ls. length ls < 4294967296) (sym c.deref.ensures.value)
    (links_few g.S.Standing.rules g.S.Standing.link_rules c.laws_hold.ensures.links c.records-payload-items.result.now c.requires.records
    c.loop-payload.links.links.items read (omega (arith, ap end_of c.records-payload-items.ensures, c.records_fit.ensures.two.file)) linked)

pub keep-requires-clause-long : goal.keep-requires-clause-long
keep-requires-clause-long g c =
    let items = c.records-payload-items.result.now in
    let i = c.loop-payload.payload-index in
    let read = ap (records_of g.S.Standing.rules 2) c.records-payload-items.ensures ∙ c.requires.are in
    let linked = whole_links g.S.Standing.rules g.S.Standing.link_rules c.laws_hold.ensures.links items c.requires.records i c.loop-payload.links read c.loop-payload-test.false (c.loop-payload.invariant.links c.requires.records c.requires.are) in
    let seen = whole_seen g.S.Standing.rules g.S.Standing.link_rules c.laws_hold.ensures.links items c.requires.records i (g.S.Standing.rules.has_visible c.args.now c.args.horizon) c.loop-payload.seen.items read c.loop-payload-test.false (c.loop-payload.invariant.seen c.requires.records c.requires.are) in
    ap length (c.deref-2.ensures.value ∙ seen) ∙ length-map c.requires.records (g.S.Standing.rules.has_visible c.args.now c.args.horizon) ∙ sym (ap length c.deref.ensures.value ∙ linked.long)

pub keep-requires-clause-within : goal.keep-requires-clause-within
keep-requires-clause-within g c =
    let read = ap (records_of g.S.Standing.rules 2) c.records-payload-items.ensures ∙ c.requires.are in
    subst AreWithin (sym c.deref.ensures.value)
    (links_within g.S.Standing.rules g.S.Standing.link_rules c.laws_hold.ensures.links c.requires.records c.loop-payload.links.links.items
    (whole_links g.S.Standing.rules g.S.Standing.link_rules c.laws_hold.ensures.links c.records-payload-items.result.now c.requires.records c.loop-payload.payload-index c.loop-payload.links read c.loop-payload-test.false (c.loop-payload.invariant.links c.requires.records c.requires.are)))

pub keep-requires-clause-ordered : goal.keep-requires-clause-ordered
keep-requires-clause-ordered g c =
    let read = ap (records_of g.S.Standing.rules 2) c.records-payload-items.ensures ∙ c.requires.are in
    subst AreOrdered (sym c.deref.ensures.value)
    (links_ordered g.S.Standing.rules g.S.Standing.link_rules c.laws_hold.ensures.links c.requires.records c.loop-payload.links.links.items
    (whole_links g.S.Standing.rules g.S.Standing.link_rules c.laws_hold.ensures.links c.records-payload-items.result.now c.requires.records c.loop-payload.payload-index c.loop-payload.links read c.loop-payload-test.false (c.loop-payload.invariant.links c.requires.records c.requires.are)))

pub returns : goal.returns
returns g c =
    IfOk-weaker c.keep.result _ _ (λ flags of records is.
    let read = ap (records_of g.S.Standing.rules 2) c.records-payload-items.ensures ∙ is in
    let linked = whole_links g.S.Standing.rules g.S.Standing.link_rules c.laws_hold.ensures.links c.records-payload-items.result.now records c.loop-payload.payload-index c.loop-payload.links read c.loop-payload-test.false (c.loop-payload.invariant.links records is) in
    let seen = whole_seen g.S.Standing.rules g.S.Standing.link_rules c.laws_hold.ensures.links c.records-payload-items.result.now records c.loop-payload.payload-index (g.S.Standing.rules.has_visible c.args.now c.args.horizon) c.loop-payload.seen.items read c.loop-payload-test.false (c.loop-payload.invariant.seen records is) in
    are_flags g.S.Standing.rules g.S.Standing.link_rules c.laws_hold.ensures.links c.args.now c.args.horizon records c.loop-payload.links.links.items c.loop-payload.seen.items flags.items linked seen
    (subst (λ ls. AreFlagsOf ls c.loop-payload.seen.items flags.items) c.deref.ensures.value
    (subst (λ s. AreFlagsOf c.deref.result.now s flags.items) c.deref-2.ensures.value of))) c.keep.ensures
