use Rattle.std.proofs.Common.{◌∙◌, ap, arith}
use Rattle.request_ledger.proofs.StandingRows.{fresh_answer}
use Rattle.request_ledger.proofs.StandingKept.{kept_later}
use Rattle.request_ledger.proofs.standing.RequestStanding.put_ended.Goals as goal

pub invariant_of-self : goal.invariant_of-self
invariant_of-self c =
    let now = c.args.self.now in
    let r = c.args.r in
    let first = fresh_answer now.rows now.next r c.requires.is in
    let next = ap (λ v. v.next) (c.self.view_is ∙ c.close_all.ensures) in
    kept_later c.self.inside.next _ c.self.inside.asked.listed c.self.inside.opened.listed c.self.inside.left.listed c.self.inside.rows.rows c.self.invariant
    (omega (arith, next, first.least_is)) (omega (arith, first.below))
