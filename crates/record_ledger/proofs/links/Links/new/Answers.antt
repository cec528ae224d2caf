use Rattle.record_ledger.proofs.LinkSteps.{none_linked}
use Rattle.record_ledger.proofs.links.Links.new.Goals as goal

pub returns : goal.returns
returns g c = none_linked g.S.Standing.rules g.S.Standing.link_rules c.laws_hold.ensures.fresh c.laws_hold.ensures.links _ c.new.ensures.items c.new-2.ensures c.new-3.ensures.items
