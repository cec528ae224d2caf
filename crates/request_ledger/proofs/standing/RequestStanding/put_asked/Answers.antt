use Rattle.std.proofs.Common.{ap, arith, length}
use Rattle.request_rows.specs.Kept.{KeptView}
use Rattle.request_ledger.specs.RowsOf.{asked_row}
use Rattle.request_ledger.proofs.StandingRows.{fresh_request, fresh_relay}
use Rattle.request_ledger.proofs.StandingKept.{kept_asked}
use Rattle.request_ledger.proofs.standing.RequestStanding.put_asked.Goals as goal

pub invariant_of-self : goal.invariant_of-self
invariant_of-self c =
    let now = c.args.self.now in
    let r = c.args.r in
    let first = fresh_request now.rows now.next r c.requires.is in
    let second = fresh_relay now.rows now.next r c.requires.is in
    let next = ap (λ v. v.next) c.self.view_is in
    let size = ap (λ v. length v.rows.asked) c.self.view_is in
    kept_asked c.self.inside.next _ c.self.inside.asked.listed c.self.inside.opened.listed c.self.inside.left.listed c.self.inside.rows.rows c.self.invariant
    r.first (asked_row r) (omega (arith, next, first.least_is)) (omega arith) (omega (arith, second.below)) first.has (omega (arith, size, c.requires.few.asked))
    c.put.new.self.listed c.put.ensures.listed _ c.put_asked.new.self.rows (ap (λ (k : KeptView). k.rows) c.put_asked.ensures.rows)
