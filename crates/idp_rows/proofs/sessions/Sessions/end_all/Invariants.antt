use Rattle.std.proofs.Common.{◌≡◌, take}
use Rattle.idp_rows.specs.RowsOf.{is_among, ended_where}
use Rattle.idp_rows.proofs.sessions.Sessions.end_all.Given as goal

abbrev pub invariant-loop-cookie : goal.invariant-loop-cookie
invariant-loop-cookie l = l.self ≡ record l.initial.self { rows = ended_where (λ row. is_among row.cookie (take l.cookie-index l.cookies)) l.initial.self.rows }
