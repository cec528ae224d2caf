use Rattle.std.proofs.Common.{ap, sym}
use Rattle.request_ledger.proofs.RowLaws.{closed_where-nothing}
use Rattle.request_ledger.proofs.StandingKept.{closed_more, closed_all}
use Rattle.request_ledger.proofs.standing.RequestStanding.close_all.Goals as goal

pub loop-token-init : goal.loop-token-init
loop-token-init c =
    let now = c.args.self.now in
    ap (λ opened. record now { rows = record (now.rows) { opened = opened } }) (sym (closed_where-nothing now.rows.opened))

pub loop-token-preserved : goal.loop-token-preserved
loop-token-preserved c =
    closed_more c.args.self.now c.loop-token.self c.close.new.self c.args.tokens.now c.loop-token.token-index c.token-item.result c.as_str.result.now
    c.loop-token-test.true c.token-item.is c.as_str.ensures c.loop-token.invariant c.close.ensures

pub returns : goal.returns
returns c = closed_all c.args.self.now c.loop-token.self c.args.tokens.now c.loop-token.token-index c.loop-token-test.false c.loop-token.invariant
