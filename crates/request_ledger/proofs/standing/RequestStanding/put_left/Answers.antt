use Rattle.std.proofs.Common.{◌∙◌, ap, arith, length}
use Rattle.request_rows.specs.Kept.{KeptView}
use Rattle.request_ledger.proofs.StandingRows.{fresh_logout}
use Rattle.request_ledger.proofs.StandingKept.{kept_left}
use Rattle.request_ledger.proofs.standing.RequestStanding.put_left.Goals as goal

pub invariant_of-self : goal.invariant_of-self
invariant_of-self c =
    let now = c.args.self.now in
    let r = c.args.r in
    let first = fresh_logout now.rows now.next r c.requires.is in
    let closed = c.self.view_is ∙ c.close.ensures in
    let next = ap (λ v. v.next) closed in
    let size = ap (λ v. length v.rows.left) closed in
    kept_left c.self.inside.next _ c.self.inside.asked.listed c.self.inside.opened.listed c.self.inside.left.listed c.self.inside.rows.rows c.self.invariant
    r.first _ (omega (arith, next, first.least_is)) (omega arith) (omega (arith, first.below)) first.has (omega (arith, size, c.requires.few.left))
    c.put.new.self.listed c.put.ensures.listed _ c.put_left.new.self.rows (ap (λ (k : KeptView). k.rows) c.put_left.ensures.rows)
