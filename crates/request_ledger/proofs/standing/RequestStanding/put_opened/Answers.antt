use Rattle.std.proofs.Common.{ap, arith, length}
use Rattle.request_rows.specs.Kept.{KeptView}
use Rattle.request_ledger.proofs.StandingRows.{fresh_token}
use Rattle.request_ledger.proofs.StandingKept.{kept_opened}
use Rattle.request_ledger.proofs.standing.RequestStanding.put_opened.Goals as goal

pub invariant_of-self : goal.invariant_of-self
invariant_of-self c =
    let now = c.args.self.now in
    let r = c.args.r in
    let first = fresh_token now.rows now.next r c.requires.is in
    let next = ap (λ v. v.next) c.self.view_is in
    let size = ap (λ v. length v.rows.opened) c.self.view_is in
    kept_opened c.self.inside.next _ c.self.inside.asked.listed c.self.inside.opened.listed c.self.inside.left.listed c.self.inside.rows.rows c.self.invariant
    r.first _ (omega (arith, next, first.least_is)) (omega arith) (omega (arith, first.below)) first.has (omega (arith, size, c.requires.few.opened))
    c.put.new.self.listed c.put.ensures.listed _ c.put_opened.new.self.rows (ap (λ (k : KeptView). k.rows) c.put_opened.ensures.rows)
