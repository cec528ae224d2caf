use Rattle.std.proofs.Common.{◌≡◌, take}
use Rattle.request_ledger.specs.RowsOf.{is_among, closed_where}
use Rattle.request_ledger.proofs.standing.RequestStanding.close_all.Given as goal

abbrev pub invariant-loop-token : goal.invariant-loop-token
invariant-loop-token l = l.self ≡ record l.initial.self {
  rows = record l.initial.self.rows { opened = closed_where (λ row. is_among row.token (take l.token-index l.tokens)) l.initial.self.rows.opened };
}
