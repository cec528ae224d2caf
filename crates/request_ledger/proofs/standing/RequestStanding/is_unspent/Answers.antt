use Rattle.std.proofs.Common.{◌∙◌, ◌&&◌, not, sym, ap}
use Rattle.request_rows.specs.Rows.{is_spent}
use Rattle.request_ledger.proofs.SpentMarks.{asked_there_is}
use Rattle.request_ledger.proofs.standing.RequestStanding.is_unspent.Goals as goal

pub returns-in-Some : goal.returns-in-Some
returns-in-Some c =
    let rows = c.args.self.now.rows in
    let request = c.args.request.now in
    ap not c.is_spent_at.ensures ∙ ap (λ b. b && not (is_spent rows.opened request)) (sym (asked_there_is rows request c.in-Some.place c.in-Some.ensures.some))
