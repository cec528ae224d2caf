use Rattle.std.proofs.Common.{◌∙◌, refl}
use Rattle.record_ledger.proofs.LinkSteps.{links_none, placed_same, link_one, all_linked}
use Rattle.record_ledger.proofs.links.Links.link_all.Goals as goal

pub loop-id-init : goal.loop-id-init
loop-id-init g c = record {
  numbers = refl;
  places = refl;
  long = refl;
  links = λ records rows have. links_none g.S.Standing.rules g.S.Standing.link_rules c.laws_hold.ensures.fresh c.laws_hold.ensures.links records c.args.place c.args.self.now.links.items;
}

pub link-requires : goal.link-requires
link-requires g c = placed_same g.S.Standing.rules g.S.Standing.link_rules c.laws_hold.ensures.fresh c.laws_hold.ensures.links c.args.self.now c.loop-id.self c.requires c.loop-id.invariant.numbers c.loop-id.invariant.places c.loop-id.invariant.long

pub loop-id-preserved : goal.loop-id-preserved
loop-id-preserved g c =
    let before = c.loop-id.invariant in
    let placed = placed_same g.S.Standing.rules g.S.Standing.link_rules c.laws_hold.ensures.fresh c.laws_hold.ensures.links c.args.self.now c.loop-id.self c.requires before.numbers before.places before.long in
    record {
      numbers = c.link.ensures.numbers ∙ before.numbers;
      places = c.link.ensures.places ∙ before.places;
      long = c.link.ensures.long ∙ before.long;
      links = λ records rows have. link_one g.S.Standing.rules g.S.Standing.link_rules c.laws_hold.ensures.fresh c.laws_hold.ensures.links records c.args.self.now c.loop-id.self c.link.new.self c.args.ids.now c.loop-id.id-index c.id-item.result c.as_str.result.now c.args.place
          rows have placed c.loop-id-test.true c.id-item.is c.as_str.ensures before.numbers before.places (before.links records rows have) c.link.ensures.links;
    }

pub returns-clause-links : goal.returns-clause-links
returns-clause-links g c records rows have =
    all_linked g.S.Standing.rules g.S.Standing.link_rules c.laws_hold.ensures.fresh c.laws_hold.ensures.links records c.args.ids.now c.loop-id.id-index c.args.place c.args.self.now.links.items c.loop-id.self.links.items
    c.loop-id-test.false (c.loop-id.invariant.links records rows have)
