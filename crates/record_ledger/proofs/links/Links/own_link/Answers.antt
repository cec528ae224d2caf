use Rattle.std.proofs.Common.{◌∙◌, sym, ap, subst, arith}
use Rattle.ledger_rules.specs.Numbers.{has_number}
use Rattle.record_ledger.specs.Linking.{IsOwnLink}
use Rattle.record_ledger.proofs.LinkSteps.{own_none, own_found, own_there}
use Rattle.record_ledger.proofs.links.Links.own_link.Goals as goal

pub returns-in_err-id : goal.returns-in_err-id
returns-in_err-id g c records rows is =
    subst (IsOwnLink g.S.Standing.rules g.S.Standing.link_rules records c.args.entry.now) (sym c.from_residual.ensures)
    (own_none g.S.Standing.rules g.S.Standing.link_rules c.laws_hold.ensures.fresh c.laws_hold.ensures.links records c.args.entry.now (sym c.in_err-id.ensures))

pub returns-in_err-row : goal.returns-in_err-row
returns-in_err-row g c records rows is =
    absurd (own_there g.S.Standing.rules g.S.Standing.link_rules c.laws_hold.ensures.fresh c.laws_hold.ensures.links records c.args.entry.now c.in_ok-id.id.now c.args.self.now (sym c.in_ok-id.ensures) rows is
    (λ k within has. c.in_err-row.ensures.only k within (ap (has_number _) c.as_str.ensures ∙ has)))

pub returns : goal.returns
returns g c records rows is =
    let inside = c.in_ok-row.ensures.within in
    own_found g.S.Standing.rules g.S.Standing.link_rules c.laws_hold.ensures.fresh c.laws_hold.ensures.links records c.args.entry.now c.in_ok-id.id.now c.args.self.now c.in_ok-row.row c.index.result.now (sym c.in_ok-id.ensures) rows is
    (λ k within has. c.in_ok-row.ensures.only k within (ap (has_number _) c.as_str.ensures ∙ has))
    c.index.ensures (omega (arith, inside, c.requires.long))
