use Rattle.std.proofs.Common.{ap, sym}
use Rattle.idp_rows.proofs.StandingRows.{ends_nothing, ended_more, ended_all}
use Rattle.idp_rows.proofs.sessions.Sessions.end_all.Goals as goal

pub loop-cookie-init : goal.loop-cookie-init
loop-cookie-init c =
    let now = c.args.self.now in
    ap (λ rows. record now { rows = rows }) (sym (ends_nothing now.rows))

pub loop-cookie-preserved : goal.loop-cookie-preserved
loop-cookie-preserved c =
    ended_more c.args.self.now c.loop-cookie.self c.end.new.self c.args.cookies.now c.loop-cookie.cookie-index c.cookie-item.result c.as_str.result.now
    c.loop-cookie-test.true c.cookie-item.is c.as_str.ensures c.loop-cookie.invariant c.end.ensures

pub returns : goal.returns
returns c = ended_all c.args.self.now c.loop-cookie.self c.args.cookies.now c.loop-cookie.cookie-index c.loop-cookie-test.false c.loop-cookie.invariant
